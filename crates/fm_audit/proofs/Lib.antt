pub mod Replaying
pub mod OneVerdict
pub mod Released
mod Rows
