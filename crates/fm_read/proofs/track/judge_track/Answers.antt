use Rattle.std.proofs.Common.{rules, sym, ◌∙◌, ◌<◌, length, arith}
use Rattle.fm_read.proofs.TrackLemmas.{judged_step, judged_end, judged_after, judged_stop, judged_none}
use Rattle.fm_read.proofs.track.judge_track.Goals as goal

pub returns-in_err-entry-clause-read : goal.returns-in_err-entry-clause-read
returns-in_err-entry-clause-read c =
    let some : 0 < length c.loop-rest.rest.now = search rules in
    let stops = sym c.loop-rest.invariant.same ∙ judged_stop _ _ _ c.in_err-entry.ensures.read some in
    search (rules, stops)

pub returns-then-is_empty-clause-read : goal.returns-then-is_empty-clause-read
returns-then-is_empty-clause-read c =
    let some : 0 < length c.loop-rest.rest.now = search rules in
    sym c.loop-rest.invariant.same ∙ judged_end _ _ _ c.in_ok-entry.ensures.read some (search rules) (search rules)

pub returns-then-ends_track-clause-read : goal.returns-then-ends_track-clause-read
returns-then-ends_track-clause-read c =
    let some : 0 < length c.loop-rest.rest.now = search rules in
    sym c.loop-rest.invariant.same ∙ judged_after _ _ _ c.in_ok-entry.ensures.read some (search rules) (search rules)

pub loop-rest-preserved : goal.loop-rest-preserved
loop-rest-preserved c =
    let some : 0 < length c.loop-rest.rest.now = search rules in
    record {
      same = rw c.in_force-running.ensures
          (sym (judged_step _ _ _ c.in_ok-entry.ensures.read some (search rules)) ∙ c.loop-rest.invariant.same);
      shorter = omega (arith, c.in_ok-entry.ensures.shorter, c.loop-rest.invariant.shorter);
    }

pub returns-clause-read : goal.returns-clause-read
returns-clause-read c = sym c.loop-rest.invariant.same ∙ judged_none _ _ (search rules)
