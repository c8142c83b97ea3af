pub mod Message
pub mod Event
