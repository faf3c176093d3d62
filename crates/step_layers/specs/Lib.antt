pub mod Order
pub mod Layers
pub mod Floors
pub mod Layering
pub mod Laws
