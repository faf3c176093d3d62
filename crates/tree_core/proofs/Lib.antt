pub mod TreeLemmas
pub mod Sound
pub mod Moments
pub mod Runs
pub mod NameLemmas
pub mod SubListLemmas
