pub mod DrillLemmas
pub mod WordLemmas
