pub mod Left
pub mod NextStep
pub mod Progress
pub mod Looks
