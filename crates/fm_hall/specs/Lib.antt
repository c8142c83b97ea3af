pub mod Given
pub mod Hall
pub mod Looks
