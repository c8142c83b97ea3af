pub mod Deltas
pub mod Fillers
pub mod InTime
pub mod Quantities
mod Rows
pub mod Running
pub mod Tracks
pub mod Writing
mod Numerals
