use Rattle.std.proofs.Common.{◌≡◌, ℕ, List, [], Result, Ok, Err, OnOk, sym, ap, ap₂, ◌∙◌, subst}
use Rattle.fm_msg.specs.Event.{TimedMessage}
use Rattle.fm_buffer.specs.Gather.{EventGather}
use Rattle.fm_line.specs.Piece.{Ordered, sorted}
use Rattle.fm_play.specs.Ends.{CanFollow}
use Rattle.fm_round.specs.declared.stage.Stage.{Stage}
use Rattle.fm_round.proofs.Parting.{own_ordered}
use Rattle.fm_round.proofs.release.release.Goals as goal

pub write_gathered-requires-clause-ordered : goal.write_gathered-requires-clause-ordered
write_gathered-requires-clause-ordered g c =
    subst Ordered (sym (ap (λ (x : EventGather). x.events) c.gather_due.ensures.gather)) (own_ordered 0 _ c.requires.may.own)

pub write_gathered-requires-clause-follow : goal.write_gathered-requires-clause-follow
write_gathered-requires-clause-follow g c =
    subst (λ (es : List TimedMessage). CanFollow c.args.writer.now (sorted es))
    (sym (ap (λ (x : EventGather). x.events) c.gather_due.ensures.gather)) c.requires.may.follow

-- where nothing was gathered before, an empty gather leaves the stage as it was
kept : {T E : Type 0} (r : Result T E) (stage : Stage) (gathered now : EventGather) → stage.gather.events ≡ []
    → gathered.capacity ≡ stage.gather.capacity → OnOk r (now ≡ record gathered { events = [] })
    → OnOk r (record stage { gather = now } ≡ stage)
kept (Ok x) stage gathered now empty same cleared =
    let make : ℕ → List TimedMessage → EventGather = λ a es. record { capacity = a; events = es } in
    ap (λ (g : EventGather). record stage { gather = g }) (cleared ∙ ap₂ make same (sym empty))
kept (Err e) stage gathered now empty same cleared = tt

pub returns-clause-stage : goal.returns-clause-stage
returns-clause-stage g c =
    kept c.write_gathered.result c.args.stage.now c.gather_due.new.gather c.write_gathered.new.gather c.requires.may.empty
    (ap (λ (x : EventGather). x.capacity) c.gather_due.ensures.gather) c.write_gathered.ensures.gather
