pub mod Commands
pub mod Marks
pub mod Quoting
pub mod Scan
pub mod ShellWords
