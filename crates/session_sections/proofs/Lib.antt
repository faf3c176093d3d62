pub mod SectionLemmas
pub mod LineLemmas
pub mod StateLemmas
