pub mod TemplateLemmas
pub mod RenameLemmas
