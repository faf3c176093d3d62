pub mod OrderLemmas
pub mod KeptLemmas
pub mod ListLemmas
pub mod StepLemmas
pub mod PushLemmas
pub mod WalkLemmas
