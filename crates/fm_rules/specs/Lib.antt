pub mod Why
pub mod Found
pub mod View
