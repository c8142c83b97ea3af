pub mod Chains
pub mod EndLemmas
pub mod InTime
pub mod Meeting
pub mod PlanFacts
pub mod Whole
