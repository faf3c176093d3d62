pub mod NumberLemmas
pub mod LawfulLemmas
pub mod StepLemmas
