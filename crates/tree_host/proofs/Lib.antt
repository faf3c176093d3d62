-- The lemmas of this crate.
mod ExitLemmas
