pub mod Counts
pub mod Drills
pub mod Ends
