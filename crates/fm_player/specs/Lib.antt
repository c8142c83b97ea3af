pub mod Course
pub mod Drawing
pub mod Timing
pub mod Sounding
pub mod Player
pub mod Ahead
