mod Numerals
pub mod Gaps
pub mod Digits
pub mod Steps
pub mod LayoutLemmas
pub mod Reading
pub mod TokenSteps
pub mod Rows
