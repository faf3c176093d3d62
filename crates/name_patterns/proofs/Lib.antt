pub mod BracketLemmas
pub mod PatternLemmas
pub mod RowLemmas
