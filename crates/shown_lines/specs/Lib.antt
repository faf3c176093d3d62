pub mod Chosen
pub mod Found
pub mod Named
pub mod Omitted
pub mod Outcomes
pub mod Sections
pub mod Shown
pub mod Tests
