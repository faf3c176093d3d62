pub mod BuiltTrees
pub mod NumberLemmas
pub mod GoodEntries
pub mod MemoryLemmas
