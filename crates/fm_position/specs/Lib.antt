pub mod Levels
pub mod PositionLine
pub mod Told
pub mod Worked
