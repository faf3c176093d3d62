pub mod Tables
pub mod Values
pub mod Faults
pub mod Settings
pub mod Rules
pub mod Omitting
pub mod Omitters
