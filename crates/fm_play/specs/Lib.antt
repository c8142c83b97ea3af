pub use Rattle.fm_smf.specs.File
pub use Rattle.fm_smf.specs.Writing
pub use Rattle.fm_strand.specs.Course
pub mod Ends
pub mod Performance
pub mod Places
