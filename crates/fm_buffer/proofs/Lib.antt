pub mod Through
pub mod Settled
mod Merged
mod Paired
mod Numerals
