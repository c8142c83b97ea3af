mod Numerals
pub mod ReadingLemmas
pub mod StepLemmas
pub mod HeadLemmas
pub mod TapeLemmas
mod Rows
