pub mod Start
pub mod Rows
