pub mod Statements
pub mod Sorts
pub mod Openings
pub mod Whole
pub mod Begun
pub mod Made
pub mod Building
