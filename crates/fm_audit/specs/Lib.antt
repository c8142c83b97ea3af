pub use Rattle.fm_play.specs.Ends
pub mod Verdict
