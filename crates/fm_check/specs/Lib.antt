pub mod Saturation
pub mod Weight
pub mod Reached
pub mod Made
