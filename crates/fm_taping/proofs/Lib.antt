pub mod Tapes
pub mod KeptRuns
pub mod LookedAt
