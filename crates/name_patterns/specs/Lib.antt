pub mod PatternReading
pub mod Patterns
pub mod Rows
