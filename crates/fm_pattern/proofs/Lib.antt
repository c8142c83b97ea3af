pub mod Cycles
mod Numerals
