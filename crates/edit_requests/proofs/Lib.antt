mod ReadLemmas
mod LineLemmas
mod AskedLemmas
pub mod RequestLemmas
