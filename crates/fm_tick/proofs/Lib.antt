pub mod QuotientLemmas
mod Examples
mod Numerals
