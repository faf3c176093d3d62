pub mod Entries
pub mod Fields
pub mod Calls
pub mod Pending
