pub mod AskedLemmas
