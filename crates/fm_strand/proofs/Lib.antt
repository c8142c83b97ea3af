pub mod TakingLemmas
pub mod FollowLemmas
pub mod RoomLemmas
pub mod StepLemmas
pub mod BeginLemmas
pub mod ReadLemmas
pub mod WholeLemmas
pub mod QuantumLemmas
pub mod CallLemmas
pub mod ValidLemmas
pub mod MeetLemmas
pub mod PlaceLemmas
pub mod RichRows
pub mod RingRows
mod Numerals
