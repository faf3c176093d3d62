pub mod ListLemmas
pub mod WalkLemmas
pub mod EnterLemmas
pub mod AboveLemmas
