pub mod Placing
pub mod Sketching
