pub mod Apart
pub mod Entries
pub mod Steps
pub mod Groups
pub mod Leads
pub mod Laws
