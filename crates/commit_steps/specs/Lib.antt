pub mod Numbers
pub mod Staging
pub mod Steps
pub mod Tests
