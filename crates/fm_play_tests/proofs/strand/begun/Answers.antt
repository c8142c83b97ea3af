use Rattle.std.proofs.Common.{sym, ◌∙◌}
use Rattle.fm_strand.proofs.MeetLemmas.{first-place}
use Rattle.fm_play_tests.proofs.strand.begun.Goals as goal

pub begin-requires-clause-process : goal.begin-requires-clause-process
begin-requires-clause-process c = c.processes-processes.ensures.fits.some

pub begin-requires-clause-place : goal.begin-requires-clause-place
begin-requires-clause-place c = c.first.ensures ∙ sym (first-place c.args.plan.now c.processes-processes.ensures.fits)
