pub mod Interrupted
pub mod Calls
pub mod Fits
pub mod Stops
pub mod Laws
pub mod Phases
pub mod Reads
pub mod Places
