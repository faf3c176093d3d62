mod SortedLemmas
mod LineLemmas
pub mod ListedLemmas
