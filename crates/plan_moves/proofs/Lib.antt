pub mod FilterLemmas
pub mod Order
pub mod Number
pub mod AtMost
pub mod Fuel
pub mod StepCount
