pub mod Rows
pub mod Places
pub mod Sections
pub mod Buffers
pub mod Relisting
pub mod Held
pub mod Printed
pub mod Making
