pub mod HeldKinds
pub mod Laws
