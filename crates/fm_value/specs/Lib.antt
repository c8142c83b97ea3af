pub mod Generator
pub mod Operation
pub mod Stack
pub mod Tree
pub mod Value
