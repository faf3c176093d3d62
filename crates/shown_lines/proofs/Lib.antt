pub mod ChosenLemmas
pub mod FoundLemmas
pub mod LineLemmas
pub mod NameLemmas
pub mod OmittedLemmas
pub mod SectionLemmas
pub mod TestLemmas
