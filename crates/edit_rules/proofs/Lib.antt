pub mod LeastLemmas
pub mod ClaimLemmas
pub mod RuleLemmas
pub mod BytesLemmas
pub mod CountLemmas
pub mod PlaceLemmas
pub mod PlanLemmas
pub mod StandingLemmas
