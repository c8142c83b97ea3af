-- Lemmas of the inner layer that the crates above cite.
pub use Rattle.fm_player.proofs.ValidLemmas.{lines-valid}
