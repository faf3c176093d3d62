pub mod Finds
pub mod Preorder
pub mod Walks
