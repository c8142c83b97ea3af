pub mod Counts
pub mod Desks
pub mod Holding
pub mod Marks
pub mod Waiting
