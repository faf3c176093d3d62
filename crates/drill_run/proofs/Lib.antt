pub mod EntryLemmas
pub mod StepLemmas
pub mod LeftLemmas
pub mod DrillLemmas
pub mod CountLemmas
