pub mod StartLemmas
pub mod EndLemmas
pub mod OneLemmas
pub mod RowLemmas
pub mod RowLaws
