pub mod LookLemmas
pub mod SearchLemmas
