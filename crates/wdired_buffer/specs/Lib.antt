pub mod Lines
pub mod Headers
pub mod Buffer
pub mod Edits
pub mod EntryLaws
