pub mod MadeLemmas
pub mod KindLemmas
pub mod KeptLemmas
pub mod FitLemmas
