pub mod Limits
pub mod Marks
pub mod Stored
