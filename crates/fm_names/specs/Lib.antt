pub mod Named
pub mod Key
