pub mod ApartLemmas
pub mod CutLemmas
