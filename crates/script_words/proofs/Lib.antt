pub mod LineLemmas
pub mod TextLemmas
pub mod CommandLemmas
pub mod MarkLemmas
