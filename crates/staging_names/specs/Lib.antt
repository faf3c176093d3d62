pub mod Numbers
pub mod Names
pub mod Tests
pub mod Entries
pub mod Laws
