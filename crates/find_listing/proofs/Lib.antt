pub mod KeyLemmas
pub mod LineLemmas
pub mod OrderLemmas
pub mod PendingLemmas
pub mod WalkLemmas
