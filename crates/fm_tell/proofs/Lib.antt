pub mod Digits
pub mod PlaceRows
mod Numerals
