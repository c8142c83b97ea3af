pub mod Works
pub mod Shared
