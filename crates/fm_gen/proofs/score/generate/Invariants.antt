use Rattle.std.proofs.Common.{◌≡◌, ◌++◌, string_bytes}
use Rattle.fm_gen.specs.LargeScore.{notes_of, head, lines_text}
use Rattle.fm_gen.proofs.TextLemmas.{branches_below}
use Rattle.fm_gen.proofs.score.generate.Given as goal

abbrev pub invariant-loop-channel : goal.invariant-loop-channel
invariant-loop-channel l =
    string_bytes l.text ≡ head l.number ++ lines_text (branches_below (notes_of l.number) l.channel)
