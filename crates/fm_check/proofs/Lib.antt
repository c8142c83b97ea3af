pub mod PlaceLemmas
pub mod SaturationLemmas
pub mod SumsLemmas
pub mod WeightLemmas
pub mod LimitLemmas
pub mod WalkLemmas
mod Numerals
mod FaultLemmas
