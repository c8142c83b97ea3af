pub mod RangeLemmas
mod Numerals
