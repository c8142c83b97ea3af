use Rattle.std.proofs.Common.{List, [], ◌∷◌, ◌++◌, ap, ◌∙◌}
use Rattle.std.proofs.Math.Nat.{le-add_right}
use Rattle.fm_tick.specs.declared.stretch.Stretch.{Stretch}
use Rattle.fm_warp.specs.declared.part.Part.{Part}
use Rattle.fm_warp.specs.declared.part.Part.TheVariants as part
use Rattle.fm_strand.proofs.RichRows.{stretch-is}
use Rattle.fm_play_tests.proofs.strand.rich.outer_warp.Goals as goal

pub returns : goal.returns
returns c =
    c.in_ok-push-2.ensures.ok
    ∙ ap (λ (ps : List Part). ps ++ part.Breath 20 ∷ [])
    (c.in_ok-push.ensures.ok
    ∙ ap (λ (ps : List Part). ps ++ part.Flat 480 c.stretch.result ∷ []) c.new-warp.ensures
    ∙ ap (λ (s : Stretch). part.Flat 480 s ∷ [])
    (stretch-is c.stretch.result 1500 c.stretch.ensures (le-add_right 1 1499) (le-add_right 1500 998500)))
