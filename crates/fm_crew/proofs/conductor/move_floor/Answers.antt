use Rattle.std.proofs.Common.{◌≡◌, ◌∙◌, sym, ap, subst}
use Rattle.fm_core.specs.Floors.{floor_of}
use Rattle.fm_core.specs.Taking.{due_of}
use Rattle.fm_board.specs.Knowing.{Knows}
use Rattle.fm_board.specs.Seats.{SeatState, making}
use Rattle.fm_core.specs.declared.step.Step.TheVariants.{Pace}
use Rattle.fm_board.specs.View.{processes}
use Rattle.fm_board.specs.declared.view.Mind.{Mind}
use Rattle.fm_board.proofs.Knowing.{knows_stepped, knows_then}
use Rattle.fm_crew.specs.Onward.{AreSeen, HoldsBack}
use Rattle.fm_crew.proofs.Sweeping.{held_back}
use Rattle.fm_crew.proofs.conductor.move_floor.Goals as goal

pub returns-clause-knows : goal.returns-clause-knows
returns-clause-knows g c =
    let minds = ap (λ (x : SeatState). x.mind) (c.pace.ensures.paced
    ∙ ap (λ (x : SeatState). making x (Pace x.mind.view.number) (record x.mind.view { paced = c.pace.result }) c.pace.new.seat.mind.log.seen)
    c.publish.ensures.seat) in
    knows_then c.args.seat.now.mind c.look_again.new.seat.mind c.pace.new.seat.mind c.look_again.ensures.knows
    (subst (Knows c.look_again.new.seat.mind) (sym minds) (knows_stepped c.look_again.new.seat.mind _ _))

pub returns-clause-back : goal.returns-clause-back
returns-clause-back g c =
    λ full tick p is.
    let m : Mind = c.look_again.new.seat.mind in
    let minds = ap (λ (x : SeatState). x.mind) (c.pace.ensures.paced
    ∙ ap (λ (x : SeatState). making x (Pace x.mind.view.number) (record x.mind.view { paced = c.pace.result }) c.pace.new.seat.mind.log.seen)
    c.publish.ensures.seat) in
    let many : processes m.view ≡ processes c.args.seat.now.mind.view = ap processes c.look_again.ensures.looked in
    let r = held_back (g.B.Calls.shared c.args.board.now).about m tick p c.look_again.ensures.conductor.idle.ours.plan
    (c.look_again.ensures.swept ∙ sym many) (subst (AreSeen m) (sym many) (c.look_again.ensures.seen full))
    (ap due_of (sym c.sweep-least.ensures.least) ∙ (sym c.next_due.ensures ∙ is)) in (
      subst (λ (y : Mind). HoldsBack y tick p) (sym minds)
          (record { there = r.0.there; live = r.0.live; soon = r.0.soon; ready = r.0.ready }),
      r.1,
      c.pace.ensures.own (ap (λ (x : SeatState). x.mind.view.number) c.publish.ensures.seat ∙ c.look_again.ensures.conductor.conductor)
          ∙ (ap (λ (x : SeatState). x.mind.view.published) c.publish.ensures.seat
          ∙ (c.next_floor.ensures ∙ (ap floor_of c.sweep-least.ensures.least ∙ r.2))),
    )
