mod Numerals
pub mod Evaluations
pub mod Floors
mod Rows
pub mod Stacks
pub mod Computing
pub mod Trees
