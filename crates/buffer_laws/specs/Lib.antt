pub mod Buffers
pub mod Differences
pub mod Laws
