pub mod NetLemmas
pub mod SpliceLemmas
pub mod CutLemmas
pub mod UndoLemmas
pub mod KeptLemmas
pub mod ValueLemmas
