pub mod Bytes
pub mod Words
pub mod Tokens
pub mod Room
pub mod Layout
