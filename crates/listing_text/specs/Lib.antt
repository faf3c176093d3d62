pub mod Dates
pub mod Fields
pub mod Grammar
pub mod Listed
pub mod Numbers
pub mod Order
pub mod Reading
pub mod Switches
