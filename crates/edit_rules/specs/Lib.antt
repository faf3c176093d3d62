pub mod Claims
pub mod PathSets
pub mod Tables
pub mod Plans
pub mod Standing
