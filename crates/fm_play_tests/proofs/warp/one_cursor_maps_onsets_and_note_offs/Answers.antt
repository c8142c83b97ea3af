use Rattle.std.proofs.Common.{arith}
use Rattle.fm_warp.specs.declared.side.Side.TheVariants.{Onset, Ending}
use Rattle.fm_play_tests.proofs.warp.one_cursor_maps_onsets_and_note_offs.Goals as goal

pub at-requires-clause-follows : goal.at-requires-clause-follows
at-requires-clause-follows g c = c.new-cursor.ensures Onset _ _

pub till-requires-clause-follows : goal.till-requires-clause-follows
till-requires-clause-follows g c =
    c.at-2.ensures.other _ _ (c.at.ensures.other _ _ (c.new-cursor.ensures Ending _ _))

pub deform-requires-clause-follows : goal.deform-requires-clause-follows
deform-requires-clause-follows g c = c.till.ensures.later 7 (omega arith)
