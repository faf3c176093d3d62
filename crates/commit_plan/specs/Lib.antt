pub mod Stands
pub mod Holding
pub mod Promises
pub mod Boards
