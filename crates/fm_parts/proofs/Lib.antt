mod Numerals
pub mod Channels
pub mod Counts
pub mod Passing
pub mod PushLemmas
pub mod SplitLemmas
pub mod Rising
pub mod TallyLemmas
mod Rows
pub mod WrittenBounds
pub mod ReadBackLemmas
