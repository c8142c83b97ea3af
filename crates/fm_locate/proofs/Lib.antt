pub mod LocatingLemmas
pub mod LevelLemmas
mod Rows
pub mod OnceLemmas
pub mod HalvingLemmas
