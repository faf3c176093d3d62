pub mod CountLemmas
pub mod FollowLemmas
pub mod PlaceLemmas
pub mod ReadLemmas
pub mod SetLemmas
pub mod SpellLemmas
pub mod TreeLemmas
