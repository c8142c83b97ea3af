-- What one quantum makes of one lane.
use Rattle.std.proofs.Common.{◌≡◌, ◌⊎◌, ℕ, ◌+◌, ◌<◌, ◌≤◌, [], length, Bool, true, false, Some, None, refl, sym, ap, ◌∙◌, subst, inl, inr, arith, append-nil, length-append}
use Rattle.std.proofs.lemmas.Bool.{cases_eq}
use Rattle.std.proofs.lemmas.List.Elements.{All-append, All-nil, All-weaker}
use Rattle.std.specs.List.{All}
use Rattle.fm_msg.specs.Event.{TimedMessage}
use Rattle.fm_program.specs.Parts.{PlanParts}
use Rattle.fm_strand.specs.declared.strand.Strand.{Strand}
use Rattle.fm_strand.specs.declared.answers.Quantum.{Quantum}
use Rattle.fm_strand.specs.declared.answers.Quantum.TheVariants as quantum
use Rattle.fm_strand.specs.declared.answers.TheConstants.{MAX_QUANTUM}
use Rattle.fm_strand.specs.Strand.{MakesQuantum, QuantumIs, clock_of, rest, steps_left}
use Rattle.fm_round.specs.declared.lane.Lane.{Lane}
use Rattle.fm_round.specs.Lanes.{CanRun, IsLaneOf, IsStrandOf, Runs, has_ended, live_clock, load, run_load}
use Rattle.fm_round.proofs.StrandFacts.{clock_at_event, put_early}

-- ---- one quantum

module _ (p : PlanParts) (j limit : ℕ) (old new : Lane) (s t : Strand) (answer : Quantum)
    (was : old.strand ≡ Some s) (live : old.ended ≡ false) (run : IsStrandOf p j false old.outbox.events s)
    (makes : MakesQuantum p limit s old.outbox answer t new.outbox)
    (now : new.strand ≡ Some t) (ended : new.ended ≡ has_ended answer) where
  -- a quantum without a step leaves the clock and the queue as they were
  still_clock : makes.made ≡ 0 → clock_of p t ≡ clock_of p s
  still_clock none = ap (clock_of p) (makes.still none)

  still_queue : makes.made ≡ 0 → length new.outbox.events ≡ length old.outbox.events
  still_queue none =
      let same = ap (rest p) (makes.still none) in
      omega (
        arith,
        ap length makes.events,
        length-append old.outbox.events makes.put,
        ap length makes.follows,
        ap length same,
        length-append makes.put (rest p t),
      )

  -- a strand that could run made a step, or came to its end
  moved : CanRun p limit old → (a : Quantum) → answer ≡ a → QuantumIs p limit makes.made a t new.outbox
      → run_load p j (has_ended a) (Some t) < steps_left p s + 1
  moved can quantum.Ended is_answer is = omega arith
  moved can quantum.Spent is_answer is = let steps = makes.steps in let made = is.1 in omega arith
  moved can quantum.Full is_answer is =
      let steps = makes.steps in
      let step : 0 < makes.made = by_made (cases_eq makes.made 0) in omega arith
    where
      by_made : (makes.made ≡ 0) ⊎ (makes.made ≡ 0 → ⊥) → 0 < makes.made
      by_made (inl none) =
          let full = is.1 in
          let room = makes.room in
          let queue = still_queue none in
          let free = can.room in absurd (omega arith)
      by_made (inr some) = omega arith
  moved can quantum.Limit is_answer is =
      let steps = makes.steps in
      let step : 0 < makes.made = by_made (cases_eq makes.made 0) in omega arith
    where
      clock_is : clock_of p s ≡ can.clock
      clock_is =
          let same : Some (clock_of p s) ≡ Some can.clock = sym (rw (live, was) refl) ∙ can.live in cc

      by_made : (makes.made ≡ 0) ⊎ (makes.made ≡ 0 → ⊥) → 0 < makes.made
      by_made (inl none) =
          let past = is.2 in
          let at = clock_at_event p t past.0 makes.course past.1 in
          let far = past.2 in
          let clock = still_clock none in
          let here = clock_is in
          let near = can.in_time in absurd (omega arith)
      by_made (inr some) = omega arith

  at_end : (a : Quantum) → QuantumIs p limit makes.made a t new.outbox → has_ended a ≡ true → steps_left p t ≡ 0
  at_end quantum.Ended is true_is = is
  at_end quantum.Spent is true_is = cc
  at_end quantum.Full is true_is = cc
  at_end quantum.Limit is true_is = cc

  run_after : IsStrandOf p j (has_ended answer) new.outbox.events t
  run_after = record {
    course = makes.course;
    process = makes.process ∙ run.process;
    early =
        subst (All (λ (e : TimedMessage). e.time ≤ clock_of p t)) (sym makes.events)
        (All-append (λ (e : TimedMessage). e.time ≤ clock_of p t) old.outbox.events makes.put
        (All-weaker (λ (e : TimedMessage). e.time ≤ clock_of p s) (λ (e : TimedMessage). e.time ≤ clock_of p t)
        (λ e below. let later = makes.clock in omega arith) old.outbox.events run.early)
        (put_early p limit s old.outbox answer t new.outbox makes));
    at_end = at_end answer makes.is;
  }

  load_before : load p j old ≡ steps_left p s + 1
  load_before = rw (live, was) refl

  load_after : load p j new ≡ run_load p j (has_ended answer) (Some t)
  load_after = rw (now, ended) refl

  load_within : (b : Bool) → run_load p j b (Some t) ≤ steps_left p s + 1
  load_within true = omega arith
  load_within false = let steps = makes.steps in omega arith

  few_steps : (a : Quantum) → QuantumIs p limit makes.made a t new.outbox
      → steps_left p s + 1 ≤ run_load p j (has_ended a) (Some t) + MAX_QUANTUM + 1
  few_steps quantum.Ended is = let steps = makes.steps in let few = makes.few in omega arith
  few_steps quantum.Spent is = let steps = makes.steps in let few = makes.few in omega arith
  few_steps quantum.Full is = let steps = makes.steps in let few = makes.few in omega arith
  few_steps quantum.Limit is = let steps = makes.steps in let few = makes.few in omega arith

  pub ran : Runs p j limit old new
  ran = record {
    same = λ events. rw (now, was) makes.stays;
    fits = rw (now, ended) run_after;
    room = makes.room;
    less = rw (load_before, load_after) (load_within (has_ended answer));
    moves = λ can. rw (load_before, load_after) (moved can answer refl makes.is);
    few = rw (load_before, load_after) (few_steps answer makes.is);
    puts = record { put = makes.put; events = makes.events; in_time = makes.in_time };
    idle = λ idle. let never : true ≡ false = sym (rw (live, was) refl) ∙ idle in cc;
    begun = λ none. let never : Some t ≡ None = sym now ∙ none in cc;
  }

-- a lane that is left as it was, since it has not started or has ended
pub rests : (p : PlanParts) (j limit : ℕ) (s : Lane) → IsLaneOf p j s → live_clock p s ≡ None → Runs p j limit s s
rests p j limit s fits idle = record {
  same = λ events. refl;
  fits = fits;
  room = refl;
  less = omega arith;
  moves = λ can. let never : Some can.clock ≡ None = sym can.live ∙ idle in cc;
  few = omega arith;
  puts = record {
    put = [];
    events = sym (append-nil s.outbox.events);
    in_time = All-nil (λ (e : TimedMessage). e.time ≤ limit);
  };
  idle = λ idle. refl;
  begun = λ none. none;
}
