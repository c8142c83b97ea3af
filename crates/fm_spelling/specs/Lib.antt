pub mod Values
pub mod Says
pub mod FileOf
