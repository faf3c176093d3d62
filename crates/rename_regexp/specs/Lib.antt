pub mod Renamers
pub mod Renames
pub mod Templates
