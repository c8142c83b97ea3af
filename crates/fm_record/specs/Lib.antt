pub mod StepBytes
pub mod Reading
pub mod Head
pub mod Recording
