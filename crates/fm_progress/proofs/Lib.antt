pub mod Falls
pub mod Owed
pub mod Gives
pub mod Backs
pub mod ClaimedTags
pub mod Claims
pub mod Looks
pub mod Publishes
pub mod NeverStuck
pub mod Lowering
pub mod Whole
pub mod Fresh
pub mod ComesToEnd
pub mod LooksTo
mod Rows
mod Ends
