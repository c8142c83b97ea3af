pub mod Order
pub mod Members
pub mod NumberTests
pub mod Rising
pub mod Sorting
pub mod Validity
pub mod Pieces
pub mod Dues
pub mod OutPicking
pub mod OutStepping
pub mod OutRising
pub mod OutKeeping
pub mod OutInTurn
pub mod OutEager
mod Rows
mod OutRows
