pub mod Keeping
pub mod KeptSteps
