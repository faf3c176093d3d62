pub mod EndLemmas
pub mod GoLemmas
pub mod LayerLemmas
pub mod NumberLemmas
pub mod OneLemmas
pub mod RunLemmas
pub mod StepLemmas
