pub mod Desks
pub mod Commands
pub mod Steps
pub mod Ends
pub mod Scripts
