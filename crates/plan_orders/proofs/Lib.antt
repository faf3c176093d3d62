pub mod OnceLemmas
pub mod SpellLemmas
pub mod FitLemmas
