pub mod LargeScore
pub mod SummaryLine
