pub mod Looks
pub mod Undoing
pub mod Redoing
pub mod Strictly
pub mod Laws
