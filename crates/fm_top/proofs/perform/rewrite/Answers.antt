use Rattle.std.proofs.Common.{◌∙◌}
use Rattle.fm_top.proofs.Excerpting.{excerpt_cut, excerpt_done, file_of_plan, has_excerpts}
use Rattle.fm_top.proofs.Splitting.{file_read, is_written, plan_read, plan_small, split_cut, split_done}
use Rattle.fm_top.proofs.perform.rewrite.Goals as goal

pub open_written-file-requires-clause-small : goal.open_written-file-requires-clause-small
open_written-file-requires-clause-small g c =
    plan_small c.plans_play_the_score.ensures c.scores_end_with_their_last_line.ensures c.accepted_files_are_read.ensures
    _ _ c.in_ok-plan.plan c.in_ok-plan.ensures.planned _ (c.content.ensures ∙ c.in_ok-memory.ensures.file)

pub open_written-file-requires-clause-read : goal.open_written-file-requires-clause-read
open_written-file-requires-clause-read g c =
    plan_read c.plans_play_the_score.ensures c.scores_end_with_their_last_line.ensures c.accepted_files_are_read.ensures
    _ _ c.in_ok-plan.plan c.in_ok-plan.ensures.planned _ (c.content.ensures ∙ c.in_ok-memory.ensures.file)

pub excerpt-requires-clause-written : goal.excerpt-requires-clause-written
excerpt-requires-clause-written g c =
    has_excerpts c.plans_play_the_score.ensures c.scores_end_with_their_last_line.ensures c.accepted_files_are_read.ensures
    _ _ c.in_ok-plan.plan c.in_ok-plan.ensures.planned _ _ (c.content.ensures ∙ c.in_ok-memory.ensures.file)
    c.open_written-file.ensures _ c.profile-profile.ensures c.accepted_pieces_can_be_written.ensures.time

pub returns-in-Ok-clause-ok : goal.returns-in-Ok-clause-ok
returns-in-Ok-clause-ok g c =
    let known = file_of_plan c.plans_play_the_score.ensures c.scores_end_with_their_last_line.ensures
    c.accepted_files_are_read.ensures _ _ c.in_ok-plan.plan c.in_ok-plan.ensures.planned _ _
    (c.content.ensures ∙ c.in_ok-memory.ensures.file) c.open_written-file.ensures _ c.profile-profile.ensures in
    rw c.in-Some.is
    (excerpt_done {S = g.row.S.Denot} {K = g.row.K.Denot} g.S.Source.seen _ _ g.K.Append.seen _ _ _ _ _ c.plans_play_the_score.ensures
    c.scores_end_with_their_last_line.ensures _
    c.in_ok-plan.ensures.planned _ c.profile-profile.ensures _ _ _ _ c.processes-processes.ensures.value
    c.in_ok-memory.ensures.played (c.in-Ok.ensures.length _ _ known) c.totals_of.ensures (c.in-Ok.ensures.ok _ _ known))

pub returns-in-Some-clause-err : goal.returns-in-Some-clause-err
returns-in-Some-clause-err g c =
    let known = file_of_plan c.plans_play_the_score.ensures c.scores_end_with_their_last_line.ensures
    c.accepted_files_are_read.ensures _ _ c.in_ok-plan.plan c.in_ok-plan.ensures.planned _ _
    (c.content.ensures ∙ c.in_ok-memory.ensures.file) c.open_written-file.ensures _ c.profile-profile.ensures in
    rw c.in-Some.is
    (excerpt_cut {S = g.row.S.Denot} {K = g.row.K.Denot} g.S.Source.seen _ _ g.K.Append.seen _ _ _ _ _ c.plans_play_the_score.ensures
    c.scores_end_with_their_last_line.ensures _
    c.in_ok-plan.ensures.planned _ c.profile-profile.ensures (c.in-Err.ensures.err _ _ known))

pub split-requires : goal.split-requires
split-requires g c = record {
  written = is_written c.plans_play_the_score.ensures c.scores_end_with_their_last_line.ensures c.accepted_files_are_read.ensures
      _ _ c.in_ok-plan.plan c.in_ok-plan.ensures.planned _ _ (c.content.ensures ∙ c.in_ok-memory.ensures.file)
      c.open_written-file.ensures;
}

pub returns-in-Ok-split-clause-ok : goal.returns-in-Ok-split-clause-ok
returns-in-Ok-split-clause-ok g c =
    let known = file_read c.plans_play_the_score.ensures c.scores_end_with_their_last_line.ensures c.accepted_files_are_read.ensures
    _ _ c.in_ok-plan.plan c.in_ok-plan.ensures.planned _ _ (c.content.ensures ∙ c.in_ok-memory.ensures.file)
    c.open_written-file.ensures in
    rw c.in-None.is
    (split_done {S = g.row.S.Denot} {K = g.row.K.Denot} g.S.Source.seen _ _ g.K.Append.seen _ _ _ c.plans_play_the_score.ensures
    c.scores_end_with_their_last_line.ensures _ c.in_ok-plan.ensures.planned _ _ _ _
    c.processes-processes.ensures.value c.in_ok-memory.ensures.played (c.in-Ok-split.ensures.count _ _ _ known)
    c.totals_of-in-Ok-split.ensures (c.in-Ok-split.ensures.ok _ _ _ known))

pub returns-clause-err : goal.returns-clause-err
returns-clause-err g c =
    let known = file_read c.plans_play_the_score.ensures c.scores_end_with_their_last_line.ensures c.accepted_files_are_read.ensures
    _ _ c.in_ok-plan.plan c.in_ok-plan.ensures.planned _ _ (c.content.ensures ∙ c.in_ok-memory.ensures.file)
    c.open_written-file.ensures in
    rw c.in-None.is
    (split_cut {S = g.row.S.Denot} {K = g.row.K.Denot} g.S.Source.seen _ _ g.K.Append.seen _ _ _ c.plans_play_the_score.ensures
    c.scores_end_with_their_last_line.ensures _ c.in_ok-plan.ensures.planned
    (c.in-Err-split.ensures.err _ _ _ known))
