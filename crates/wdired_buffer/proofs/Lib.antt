pub mod LineLemmas
pub mod EditLemmas
pub mod EntryLemmas
pub mod ShownLemmas
