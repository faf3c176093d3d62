pub mod ParentLemmas
pub mod TestLemmas
pub mod UndoLemmas
pub mod TellLemmas
pub mod RedoLemmas
pub mod StrictLemmas
pub mod LeftLemmas
