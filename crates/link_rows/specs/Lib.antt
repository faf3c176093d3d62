pub mod Net
pub mod Tables
pub mod RowLends
pub mod Unlinked
pub mod Values
