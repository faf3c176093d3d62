pub mod RunLemmas
pub mod EndLemmas
pub mod PathLemmas
pub mod NameLemmas
