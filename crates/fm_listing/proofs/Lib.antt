pub mod LineLemmas
mod Rows
pub mod WrittenLines
