pub mod Effort
pub mod Kept
