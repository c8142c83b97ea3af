mod Numerals
pub mod LevelLemmas
pub mod ToldLemmas
pub mod StartLemmas
pub mod Rows
