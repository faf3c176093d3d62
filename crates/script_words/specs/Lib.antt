pub mod Lines
pub mod Words
pub mod WordTable
pub mod Predicates
pub mod Arguments
pub mod Rows
pub mod Commands
pub mod Marks
