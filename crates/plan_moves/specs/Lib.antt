pub mod Waiting
pub mod Moves
pub mod Plan
pub mod SoFar
pub mod Least
