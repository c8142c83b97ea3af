use Rattle.std.proofs.Common.{[], ◌∷◌, ap, ◌∙◌}
use Rattle.std.proofs.Math.Nat.{le-add_right}
use Rattle.fm_tick.specs.declared.stretch.Stretch.{Stretch}
use Rattle.fm_warp.specs.declared.part.Part.TheVariants as part
use Rattle.fm_strand.proofs.RichRows.{stretch-is}
use Rattle.fm_play_tests.proofs.position.half.Goals as goal

pub returns : goal.returns
returns c =
    let is = c.in_ok-warp.ensures.is in
    is.1 ∙ ap (λ (s : Stretch). part.Flat 1000 s ∷ []) (stretch-is is.0 500 is.2 (le-add_right 1 499) (le-add_right 500 999500))
