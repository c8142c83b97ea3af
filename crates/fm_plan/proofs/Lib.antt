pub mod MadeLemmas
pub mod AgreesLemmas
pub mod Weights
pub mod PhraseLemmas
pub mod ForkLemmas
pub mod ExpandLemmas
pub mod SamePlan
