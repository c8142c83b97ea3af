pub mod Stack
