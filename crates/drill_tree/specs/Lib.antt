pub mod Groups
pub mod Drill
pub mod Laws
