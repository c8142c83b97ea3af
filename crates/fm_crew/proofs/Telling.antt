-- The work that is told of a give is what the seat did.
use Rattle.std.proofs.Common.{◌≡◌, ℕ, ◌+◌, ◌-◌, ◌<◌, ◌≤◌, Bool, true, false, List, [], length, drop, Option, Some, None, refl, sym, ap, ◌∙◌, arith, ne_eqb}
use Rattle.std.specs.Prelude.{◌&&◌, ◌||◌, not, nat_eq, if◌then◌else◌}
use Rattle.std.proofs.lemmas.List.{length-drop}
use Rattle.fm_msg.specs.Event.{TimedMessage}
use Rattle.fm_core.proofs.Given.{count_le}
use Rattle.fm_core.specs.Taking.{count_due}
use Rattle.fm_program.specs.Parts.{PlanParts}
use Rattle.fm_board.specs.declared.about.About.{About}
use Rattle.fm_board.specs.declared.view.Hold.{Hold}
use Rattle.fm_board.specs.declared.view.View.{View}
use Rattle.fm_board.specs.Answers.{HasClaimed}
use Rattle.fm_board.specs.Seats.{SeatState}
use Rattle.fm_board.specs.declared.seen.Seen.{Seen}
use Rattle.fm_board.specs.declared.berth.Berth.{Berth}
use Rattle.fm_board.specs.View.{holding, is_over, must_take, noted, noted_hold, takes_of, waiting, waits_of, was_visited}
use Rattle.fm_calls.specs.Works.{IsWorkOf}
use Rattle.fm_calls.specs.declared.calls.Work.{Work}
use Rattle.fm_crew.specs.Crew.{TakesFresh}

-- no more are taken than wait
pub takes_le : (v : View) (h : Hold) → must_take v h ≤ length (waiting v.plan h)
takes_le v h = go (nat_eq v.number 0 && not (was_visited v h.process))
  where
    go : (b : Bool) → (if b then count_due v.due (waiting v.plan h) else 0) ≤ length (waiting v.plan h)
    go true = count_le v.due (waiting v.plan h)
    go false = omega arith

-- a worker takes none
pub takes_none : (v : View) (o : Option Hold) → 0 < v.number → 0 ≡ takes_of v o
takes_none v None above = refl
takes_none v (Some h) above =
    sym (ap (λ (b : Bool). if b && not (was_visited v h.process) then count_due v.due (waiting v.plan h) else 0)
    (ne_eqb v.number 0 (λ e. absurd (omega (arith, e, above)))))

-- so of a process that it claimed
pub takes_held : (a : About) (old : SeatState) (p : ℕ) (s : Seen) (b : Berth) (new : SeatState) → 0 < old.mind.view.number
    → HasClaimed a old p s b new → 0 ≡ takes_of new.mind.view new.mind.view.holds
takes_held a old p s b new above hands =
    takes_none (holding old.mind.view hands.hold) (Some hands.hold) above
    ∙ ap (λ (x : SeatState). takes_of x.mind.view x.mind.view.holds) (sym hands.sight)

-- nor does a seat take any of a process of which none waits
pub takes_empty : (v : View) (h : Hold) → waiting v.plan h ≡ [] → 0 ≡ must_take v h
takes_empty v h none = let few = takes_le v h in let no = ap length none in omega (arith, few, no)

-- so of a process at its start
pub takes_fresh : (a : About) (old : SeatState) (p : ℕ) (new : SeatState) (b : Berth) → old.mind.view.plan ≡ a.plan → TakesFresh a old p new b
    → 0 ≡ takes_of new.mind.view new.mind.view.holds
takes_fresh a old p new b plan fresh =
    takes_empty (holding old.mind.view fresh.hold) fresh.hold (ap (λ (q : PlanParts). waiting q fresh.hold) plan ∙ fresh.none)
    ∙ ap (λ (v : View). takes_of v v.holds) (sym fresh.sees.view)

-- what was computed behind those that were left waiting
pub computed_is : (a : About) (v : View) (h : Hold) (before after : List TimedMessage) (computed : ℕ) → v.plan ≡ a.plan
    → v.holds ≡ Some h → before ≡ drop (must_take v h) (waiting a.plan h) → computed ≡ length after - length before
    → computed ≡ length after + takes_of v v.holds - waits_of v v.holds
computed_is a v h before after computed plan is left counted =
    let takes : takes_of v v.holds ≡ must_take v h = ap (takes_of v) is in
    let waits : waits_of v v.holds ≡ length (waiting v.plan h) = ap (waits_of v) is in
    let same : length (waiting v.plan h) ≡ length (waiting a.plan h) = ap (λ (p : PlanParts). length (waiting p h)) plan in
    let rest = ap length left ∙ length-drop (must_take v h) (waiting a.plan h) in
    let few = takes_le v h in
    omega (arith, takes, waits, same, rest, few, counted)

-- of a process that is not at its end
pub told_live : (v : View) (h : Hold) (left : ℕ) (w : Work) → v.holds ≡ Some h → h.recorded ≡ false → h.was_ended ≡ false
    → w.taken ≡ takes_of v v.holds → w.computed ≡ left + takes_of v v.holds - waits_of v v.holds → w.ended ≡ false
    → IsWorkOf v left w
told_live v h left w is fresh live taken computed ended = record {
  taken = taken;
  computed = computed;
  ended = ended ∙ sym (ap is_over is ∙ (λ i. fresh i || live i));
}

-- of one whose end was recorded: that changes nothing else of what is told
pub told_recorded : (v : View) (h : Hold) (left : ℕ) (w : Work) → v.holds ≡ Some h
    → w.taken ≡ takes_of v v.holds → w.computed ≡ left + takes_of v v.holds - waits_of v v.holds → w.ended ≡ true
    → IsWorkOf (noted v) left w
told_recorded v h left w is taken computed ended =
    let takes : takes_of v v.holds ≡ takes_of (noted v) (noted_hold v.holds) =
    ap (takes_of v) is ∙ sym (ap (λ (o : Option Hold). takes_of (noted v) (noted_hold o)) is) in
    let waits : waits_of v v.holds ≡ waits_of (noted v) (noted_hold v.holds) =
    ap (waits_of v) is ∙ sym (ap (λ (o : Option Hold). waits_of (noted v) (noted_hold o)) is) in
    record {
      taken = taken ∙ takes;
      computed = computed ∙ (λ i. left + takes i - waits i);
      ended = ended ∙ sym (ap (λ (o : Option Hold). is_over (noted_hold o)) is);
    }
