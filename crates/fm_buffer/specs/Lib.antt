pub mod Outbox
pub mod Gather
pub mod Merging
