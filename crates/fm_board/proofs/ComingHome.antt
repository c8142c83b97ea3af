-- What comes home with a give is what the core says, and so is the step of it.
use Rattle.std.proofs.Common.{◌≡◌, ◌≢◌, ◌⊎◌, ℕ, ◌+◌, ◌-◌, ◌<◌, ◌≤◌, List, [], ◌∷◌, ◌++◌, length, get_or, set, take, drop, Bool, true, false, Some, refl, sym, ap, ◌∙◌, subst, inl, inr, arith, eqb-true, ne_eqb, get_or-set_same, append-nil}
use Rattle.std.specs.Prelude.{◌&&◌, ◌||◌, nat_eq, not, if◌then◌else◌, slice_set}
use Rattle.std.proofs.lemmas.List.{length-drop, length-take}
use mathlib.Core.Option.{some}
use lib.ListN.{get_elem?}
use Rattle.fm_line.specs.declared.line.Line.{Line}
use Rattle.fm_line.specs.Line.{line}
use Rattle.fm_core.proofs.Booleans.{both, right_false, left_false}
use Rattle.fm_core.proofs.Elements.{or_set, take_none}
use Rattle.fm_core.proofs.Given.{given_ended, given_not_held, given_not_unborn, take_le}
use Rattle.fm_core.specs.Effects.{after, given, visits_by_give}
use Rattle.fm_core.specs.State.{State, cell, held_by, unborn}
use Rattle.fm_core.specs.Tags.{is_ended, is_held}
use Rattle.fm_core.specs.Taking.{count_due, is_due, outbox}
use Rattle.fm_core.specs.Taking as taking
use Rattle.fm_core.specs.declared.cell.Cell.{Cell}
use Rattle.fm_core.specs.declared.due.Due.{Due}
use Rattle.fm_core.specs.declared.step.Step.{Step}
use Rattle.fm_core.specs.declared.step.Step.TheVariants.{Give}
use Rattle.fm_buffer.specs.Outbox.{EventQueue}
use Rattle.fm_program.specs.Process.{plan_lines}
use Rattle.fm_strand.specs.declared.strand.Strand.{Strand}
use Rattle.fm_strand.specs.Strand.{clock_of, steps_left}
use Rattle.fm_strand.specs.Course.{steps_of}
use Rattle.std.specs.Prelude.{All}
use Rattle.std.proofs.lemmas.List.Elements.{All-append, All-drop, All-weaker}
use Rattle.fm_msg.specs.Event.{TimedMessage}
use Rattle.fm_board.specs.declared.about.About.{About}
use Rattle.fm_board.specs.declared.deposit.Deposit.{Deposit}
use Rattle.fm_board.specs.declared.view.Hold.{Hold}
use Rattle.fm_board.specs.declared.view.Log.{Log}
use Rattle.fm_board.specs.declared.view.Mind.{Mind}
use Rattle.fm_board.specs.Calls as calls
use Rattle.fm_board.proofs.Given.{MayGiveAll}
use Rattle.fm_board.specs.Minds.{did}
use Rattle.fm_board.specs.StandsFor.{AtHome, HoldsIn, IsSeat, IsSightOfZero, IsViewOf, StandsForSome, Table, count, setting}
use Rattle.fm_board.specs.View.{gave, giving, is_over, must_take, takes_of, waiting, waits_of}
use Rattle.fm_board.proofs.Frames.{Leaves, cell_moves}
use Rattle.fm_board.proofs.Giving.{allowed}
use Rattle.fm_board.proofs.Looks.{lined, valid_of}
use Rattle.fm_board.proofs.Spellings.{yes_or_no}
use Rattle.fm_board.proofs.Claims.{same_some}
use Rattle.fm_board.proofs.Views as views

-- what a seat above 0 takes is nothing
none_taken : (due : Due) (v : Bool) (id : ℕ) (l : Line) (c : Cell) → id ≢ 0 → taking.must_take_at due v id l c ≡ 0
none_taken due v id l c n = ap (λ b. if b && not v then count_due due (outbox l c) else 0) (ne_eqb id 0 n)

-- what a slot is given
abbrev pub brought : Strand → EventQueue → Deposit
brought t box = record { strand = Some t; outbox = box }

module _ (a : About) (s : Table) (k : StandsForSome a s) (p id : ℕ) (m : Mind) (at : get_elem? s.views id ≡ some m) (near : p < count a)
    (t : Strand) (box : EventQueue) (may : calls.MayComeBack a m.view p t box) (fits : length box.events ≤ box.room) where
  abbrev pub h : State
  h = k.core

  abbrev pub c : Cell
  c = cell k.core p

  abbrev pub l : Line
  l = line (plan_lines a.plan) p

  pub seat : IsSeat a h id m
  seat = k.stands.views.viewed id m at

  pub inside : p < length h.cells
  inside = omega (arith, lined a s k, near)

  pub all : MayGiveAll a h m.view id p t box
  all = allowed a h m.view id p t box
      (record { valid = valid_of a; sound = k.sound; seat = seat.here; view = seat.is; zero = seat.zero; within = fits; may = may })

  abbrev pub now : ℕ
  now = clock_of a.plan t

  abbrev pub left : ℕ
  left = c.computed + all.computed - (c.taken + all.taken)

  abbrev pub home : Cell
  home = given a.room c all.taken all.computed now all.ends

  abbrev pub h' : State
  h' = after (setting a) h (Give id p all.taken all.computed now all.ends)

  pub here : get_or (set h.cells p home) p unborn ≡ home
  here = get_or-set_same h.cells p home unborn inside

  pub mine_now : (is_held c.tag ≡ true) × (nat_eq c.seat id ≡ true)
  mine_now = both (is_held c.tag) (nat_eq c.seat id) all.allowed.held

  pub free_now : is_held home.tag ≡ false
  free_now = given_not_held a.room left all.ends

  pub ended_is : is_ended home.tag ≡ all.ends
  ended_is = given_ended a.room left all.ends

  -- as many wait as the core says
  pub waiting_is : length box.events ≡ left
  waiting_is =
      ap length all.home
      ∙ (length-take left (drop (c.taken + all.taken) l.events)
      ∙ (let d = length-drop (c.taken + all.taken) l.events in let f = all.allowed.fits in omega arith))

  pub ends_is : all.ends ≡ (may.h.recorded || may.h.was_ended)
  ends_is = all.is_ends ∙ ap (λ (x : Hold). x.recorded || x.was_ended) (same_some all.hold may.h (sym all.is_hold ∙ may.is))

  pub leaves : Leaves h h' id
  leaves = cell_moves h id p home h.floor h.due (visits_by_give h id p) (h.gather ++ take all.taken (outbox l c)) h.released inside
      (λ j n. let seat_is : c.seat ≡ id = eqb-true c.seat id mine_now.1 in
      right_false (is_held c.tag) (nat_eq c.seat j) (ne_eqb c.seat j (λ e. n (sym e ∙ seat_is))))
      (λ j n. left_false (is_held home.tag) (nat_eq 0 j) free_now)
      all.allowed.on (λ e. ended_is ∙ all.allowed.stays e)
      (λ n. record {
        due = refl;
        visited = ap (λ b. if b && is_due h.due then slice_set h.visited p true else h.visited) (ne_eqb id 0 (λ e. n (sym e)));
        gather =
            ap (λ x. h.gather ++ take x (outbox l c)) (all.allowed.take ∙ none_taken h.due _ id l c (λ e. n (sym e)))
            ∙ (ap (λ xs. h.gather ++ xs) (take_none (outbox l c)) ∙ append-nil h.gather);
        released = refl;
        floor = refl;
      })

  -- the seat held no other
  pub only : (j : ℕ) → j < length h.cells → j ≢ p → held_by id (cell h j) ≡ false
  only j lt n = by_case (yes_or_no (held_by id (cell h j)))
    where
      by_case : (held_by id (cell h j) ≡ true) ⊎ (held_by id (cell h j) ≡ false) → held_by id (cell h j) ≡ false
      by_case (inl held) =
          let it = both (is_held (cell h j).tag) (nat_eq (cell h j).seat id) held in
          absurd (n (k.sound.alone j p lt inside it.0 mine_now.0 (eqb-true (cell h j).seat id it.1 ∙ sym (eqb-true c.seat id mine_now.1))))
      by_case (inr free) = free

  pub view : IsViewOf a h' id (gave m.view)
  view = record {
    plan = seat.is.plan;
    lead = seat.is.lead;
    seats = seat.is.seats;
    number = seat.is.number;
    holds = λ j lt. or_set (λ (x : Cell). held_by id x ≡ false) h.cells p j home unborn inside
        (λ _. left_false (is_held home.tag) (nat_eq 0 id) free_now) (λ n. only j (omega (arith, leaves.cells, lt)) n);
    sweep = seat.is.sweep;
    paced = seat.is.paced;
  }

  pub zero_sees : id ≡ 0 → IsSightOfZero (setting a) h' (gave m.view)
  zero_sees e =
      subst (λ (y : ℕ × ℕ × ℕ). IsSightOfZero (setting a) (after (setting a) h (Give y.0 y.1 y.2 all.computed now all.ends)) (gave m.view))
      (λ i. (sym e i, all.is_process i, sym all.takes i))
      (views.gives a h m.view (subst (λ (n : ℕ). IsViewOf a h n m.view) e seat.is)
      (seat.zero e) all.hold all.computed now all.ends all.is_hold
      (all.waits ∙ ap (λ (q : ℕ). outbox (line (plan_lines a.plan) q) (cell h q)) (sym all.is_process)))

  pub at_home : AtHome a p home (brought t box)
  at_home = record {
    strand = (all.strand, (λ e. may.over (sym ends_is ∙ (sym ended_is ∙ e))), given_not_unborn a.room left all.ends);
    box = λ i. record { room = may.room i; events = all.home i };
    recorded = sym all.recorded ∙ sym ended_is;
  }

  -- the steps of all seats then
  abbrev pub all_steps : List Step
  all_steps = k.history.steps ++ Give id p all.taken all.computed now all.ends ∷ []

  -- and the seat's log
  abbrev pub xs : Log
  xs = did m (giving m.view p (length box.events) now) all_steps

  pub takes_are : takes_of m.view m.view.holds ≡ all.taken
  takes_are = ap (takes_of m.view) all.is_hold ∙ sym all.takes

  pub counts_are : length box.events + takes_of m.view m.view.holds - waits_of m.view m.view.holds ≡ all.computed
  counts_are =
      let waits = ap (waits_of m.view) all.is_hold ∙ ap length all.waits in
      let few : all.taken ≤ c.computed - c.taken = rw all.allowed.take (take_le (setting a) h id p) in
      let fits = k.sound.fits p inside in
      let below = fits.taken in
      let within = fits.computed in
      let long = waiting_is in
      let first = length-take (c.computed - c.taken) (drop c.taken l.events) in
      let second = length-drop c.taken l.events in
      let takes = takes_are in
      omega (arith, waits, few, below, within, long, first, second, takes)

  pub steps_are : xs.mine ≡ m.log.mine ++ Give id p all.taken all.computed now all.ends ∷ []
  steps_are =
      let over : is_over m.view.holds ≡ all.ends = ap is_over all.is_hold ∙ sym all.is_ends in
      λ i. m.log.mine ++ Give (seat.is.number i) p (takes_are i) (counts_are i) now (over i) ∷ []

  pub held_left : may.h.left ≡ k.going.left p
  held_left = k.going.held id m at may.h may.is ∙ ap k.going.left may.process

  pub few : steps_left a.plan t ≤ steps_of a.plan p
  few =
      let course = may.strand.course.numbers in
      subst (λ (j : ℕ). steps_left a.plan t ≤ steps_of a.plan j) may.strand.process (omega (arith, course))

  pub less : steps_left a.plan t ≤ k.going.left p
  less = let fewer = may.fewer in let is = held_left in omega (arith, fewer, is)

  -- what waited when the seat was handed the process is what the core says
  pub waited : waiting a.plan may.h ≡ outbox l c
  waited =
      (λ i. waiting (sym seat.is.plan i) (same_some may.h all.hold (sym may.is ∙ all.is_hold) i)) ∙ all.waits

  -- and it is not after the clock of then, nor what was put after that of now
  pub soon : All (λ e. e.time ≤ now) (outbox l home)
  soon =
      let old : All (λ e. e.time ≤ now) (waiting a.plan may.h) =
      subst (All (λ e. e.time ≤ now)) (sym waited)
      (All-weaker (λ (e : TimedMessage). e.time ≤ c.clock) (λ (e : TimedMessage). e.time ≤ now)
      (λ e early. let on = all.allowed.on in omega (arith, on, early)) (outbox l c) (k.going.early p inside)) in
      subst (All (λ e. e.time ≤ now)) (sym may.events ∙ all.home)
      (All-append (λ (e : TimedMessage). e.time ≤ now) (drop (must_take m.view may.h) (waiting a.plan may.h)) may.put
      (All-drop (λ (e : TimedMessage). e.time ≤ now) (must_take m.view may.h) (waiting a.plan may.h) old) may.before)

  pub none_else : (j : ℕ) (u : Mind) (x : Hold) → j ≢ id → get_elem? s.views j ≡ some u → u.view.holds ≡ Some x → x.process ≢ p
  none_else j u x n there holds same =
      let o : HoldsIn h j (Some x) = subst (HoldsIn h j) holds (k.stands.views.viewed j u there).is.holds in
      let held : held_by j c ≡ true = ap (λ (z : ℕ). held_by j (cell h z)) (sym same) ∙ o.1 in
      let seats = both (is_held c.tag) (nat_eq c.seat j) held in
      n (sym (eqb-true c.seat j seats.1) ∙ eqb-true c.seat id mine_now.1)
