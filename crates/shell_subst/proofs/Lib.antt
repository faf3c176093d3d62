pub mod FillLemmas
pub mod MarkLemmas
pub mod QuoteLemmas
pub mod ScanLemmas
pub mod Utf8Lemmas
pub mod WordLemmas
