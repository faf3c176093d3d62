pub mod ListLemmas
pub mod PathLemmas
pub mod GroupLemmas
pub mod DrillLemmas
pub mod MadeLemmas
pub mod WellLemmas
pub mod HeldLemmas
