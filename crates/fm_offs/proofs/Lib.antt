pub mod StackLemmas
pub mod RestLemmas
mod Numerals
