pub mod DigitLemmas
pub mod TextLemmas
pub mod LengthLemmas
pub mod SeedLemmas
mod Rows
mod Numerals
