pub mod Line
pub mod Sounds
pub mod Runs
pub mod Marks
pub mod Piece
pub mod Dues
pub mod Validity
