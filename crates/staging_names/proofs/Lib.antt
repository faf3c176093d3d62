pub mod NumberLemmas
pub mod NameLemmas
pub mod OrderLemmas
pub mod EntryLemmas
pub mod PlaceLemmas
