use Rattle.fm_core.proofs.Keeps.{keeps_all}
use Rattle.fm_core.proofs.Opening.{opening_sound}
use Rattle.fm_core.proofs.laws.released_is_a_prefix.Goals as goal

pub returns : goal.returns
returns c = λ g seats ss piece valid crew legal is. (keeps_all g _ ss valid (opening_sound g seats valid crew) legal).prefix piece is
