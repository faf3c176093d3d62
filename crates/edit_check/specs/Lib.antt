pub mod Checks
pub mod Facts
pub mod StandFor
