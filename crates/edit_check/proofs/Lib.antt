pub mod SameSight
pub mod CheckLemmas
