pub mod Starts
pub mod Items
pub mod Courses
pub mod Answers
pub mod Recovers
pub mod Faults
pub mod Tasks
