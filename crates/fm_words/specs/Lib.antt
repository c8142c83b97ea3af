pub mod Asked
pub mod Command
pub mod Follows
pub mod Rules
pub mod Settings
pub mod View
