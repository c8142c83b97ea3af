pub mod NestingLemmas
pub mod PlaceLemmas
pub mod ReadinessLemmas
mod Examples
pub mod FarLemmas
mod Numerals
