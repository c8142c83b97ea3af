use Rattle.std.proofs.Common.{◌≡◌, List, Some, length, set, IfOk, OnErr, OnOk, sym, ap, ◌∙◌, subst, arith}
use Rattle.fm_msg.specs.Event.{TimedMessage}
use Rattle.fm_edge.specs.Runs.{Breaks}
use Rattle.fm_line.specs.Piece.{Ordered, sorted}
use Rattle.fm_play.specs.Ends.{CanFollow}
use Rattle.fm_smf.specs.Track.{events_bytes}
use Rattle.fm_smf.specs.Writing.{Writes}
use Rattle.fm_round.specs.Lanes.{no_lane, room_of, without_due}
use Rattle.fm_round.proofs.Parting.{own_ordered}
use Rattle.fm_round.proofs.Running.{any_default}
use Rattle.fm_round.proofs.OneDue.{gathered_of_one, room_within, taken_of_one}
use Rattle.fm_round.proofs.release.release_own.Goals as goal

pub take_due-requires : goal.take_due-requires
take_due-requires g c =
    let at = any_default c.args.lanes.now c.args.key.1 c.index-lanes-key.result no_lane c.requires.own.there in
    omega (
      arith,
      ap room_of at,
      room_within c.args.lanes.now c.args.key.1 c.requires.own.there,
      c.requires.may.space,
      ap length c.requires.may.empty,
    )

pub write_gathered-requires-clause-ordered : goal.write_gathered-requires-clause-ordered
write_gathered-requires-clause-ordered g c =
    subst Ordered
    (sym (gathered_of_one c.args.key c.args.lanes.now c.requires.own c.args.gather.now c.take_due.new.gather
    _ c.requires.may.empty (any_default c.args.lanes.now c.args.key.1 c.index-lanes-key.result no_lane c.requires.own.there)
    c.take_due.ensures.gather))
    (own_ordered 0 _ c.requires.may.own)

pub write_gathered-requires-clause-follow : goal.write_gathered-requires-clause-follow
write_gathered-requires-clause-follow g c =
    subst (λ (es : List TimedMessage). CanFollow c.args.writer.now (sorted es))
    (sym (gathered_of_one c.args.key c.args.lanes.now c.requires.own c.args.gather.now c.take_due.new.gather
    _ c.requires.may.empty (any_default c.args.lanes.now c.args.key.1 c.index-lanes-key.result no_lane c.requires.own.there)
    c.take_due.ensures.gather))
    c.requires.may.follow

pub returns-clause-lanes : goal.returns-clause-lanes
returns-clause-lanes g c =
    let at = any_default c.args.lanes.now c.args.key.1 c.index-lanes-key.result no_lane c.requires.own.there in
    ap (set c.args.lanes.now c.args.key.1) (c.take_due.ensures.lane ∙ ap (without_due (Some c.args.key)) at)
    ∙ taken_of_one c.args.key c.args.lanes.now c.requires.own

pub returns-clause-count : goal.returns-clause-count
returns-clause-count g c =
    subst (λ (es : List TimedMessage). IfOk c.write_gathered.result (λ n. n ≡ length es))
    (gathered_of_one c.args.key c.args.lanes.now c.requires.own c.args.gather.now c.take_due.new.gather
    _ c.requires.may.empty (any_default c.args.lanes.now c.args.key.1 c.index-lanes-key.result no_lane c.requires.own.there)
    c.take_due.ensures.gather)
    c.write_gathered.ensures.count

pub returns-clause-ok : goal.returns-clause-ok
returns-clause-ok g c =
    subst (λ (es : List TimedMessage). OnOk c.write_gathered.result (Writes g.K.Append.seen c.args.sink.now c.write_gathered.new.sink
    (sorted es) c.args.writer.now c.write_gathered.new.writer))
    (gathered_of_one c.args.key c.args.lanes.now c.requires.own c.args.gather.now c.take_due.new.gather
    _ c.requires.may.empty (any_default c.args.lanes.now c.args.key.1 c.index-lanes-key.result no_lane c.requires.own.there)
    c.take_due.ensures.gather)
    c.write_gathered.ensures.ok

pub returns-clause-err : goal.returns-clause-err
returns-clause-err g c =
    subst (λ (es : List TimedMessage). OnErr c.write_gathered.result (Breaks g.K.Append.seen c.args.sink.now c.write_gathered.new.sink
    (events_bytes c.args.writer.now.state (sorted es))))
    (gathered_of_one c.args.key c.args.lanes.now c.requires.own c.args.gather.now c.take_due.new.gather
    _ c.requires.may.empty (any_default c.args.lanes.now c.args.key.1 c.index-lanes-key.result no_lane c.requires.own.there)
    c.take_due.ensures.gather)
    c.write_gathered.ensures.err
