pub mod Reader
pub mod Follow
pub mod Drafts
pub mod Counts
pub mod Stretches
