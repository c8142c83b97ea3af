use Rattle.std.proofs.Common.{◌≡◌, map, take}
use Rattle.fm_grammar.specs.View.{pitch_view}
use Rattle.fm_outline.proofs.copying.copy_pitches.Given as goal

-- the pitches so far are copied
abbrev pub invariant-loop-pitch : goal.invariant-loop-pitch
invariant-loop-pitch l = map pitch_view l.copies.items ≡ map pitch_view (take l.pitch-index l.pitches)
