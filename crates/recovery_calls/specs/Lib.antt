pub mod Underway
pub mod Works
pub mod Endings
pub mod Looked
pub mod Closing
