pub mod OneLine
pub mod LineLaws
pub mod ReadLaws
pub mod Printed
