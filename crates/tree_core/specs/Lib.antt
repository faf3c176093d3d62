pub mod FileTree
pub mod History
pub mod Runs
pub mod SubLists
pub mod Faults
pub mod Fields
pub mod Laws
pub mod Looks
