pub mod OrderLemmas
pub mod RuleLemmas
pub mod TableLemmas
pub mod ValueLemmas
