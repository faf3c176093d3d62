pub mod Excess
pub mod Moves
pub mod PathMarks
pub mod Tables
pub mod Versions
