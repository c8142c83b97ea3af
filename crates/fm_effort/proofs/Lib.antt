pub mod NumberLemmas
pub mod TableLemmas
pub mod FoldLemmas
pub mod PolicyLemmas
mod Rows
mod Numerals
