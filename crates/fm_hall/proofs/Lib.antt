pub mod Chosen
pub mod Finishing
pub mod Giving
pub mod Halls
