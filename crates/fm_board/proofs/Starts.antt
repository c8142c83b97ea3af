-- A start keeps the rule.
use Rattle.std.proofs.Common.{◌≡◌, inl, ℕ, ◌-◌, ◌<◌, List, [], ◌∷◌, ◌++◌, length, get_or, set, take, drop, true, false, Option, Some, None, refl, sym, ap, ◌∙◌, subst, arith, eqb, eq-eqb, ne_eqb, get_or-set_same, ◌≢◌, ◌≤◌}
use Rattle.std.specs.Prelude.{nat_eq}
use mathlib.Core.Option.{some, none}
use lib.ListN.{get_elem?}
use prog.Atomic.{either}
use Rattle.atomic_table.specs.Table.{Act, Allows, Valid, carried_after, keeps, step, stepped, takes}
use Rattle.atomic_table.proofs.Lists.{exchanged}
use Rattle.fm_line.specs.Line.{line, start}
use Rattle.fm_core.proofs.Booleans.{left_false}
use Rattle.fm_core.proofs.Elements.{take_none}
use Rattle.fm_core.proofs.Keeps as core
use Rattle.fm_core.proofs.May.{free, may_start}
use Rattle.fm_core.specs.Effects.{after, begun}
use Rattle.fm_core.specs.State.{State, cell, held_by, unborn}
use Rattle.fm_core.specs.Tags.{is_ended, is_held, is_unborn}
use Rattle.fm_core.specs.Taking.{outbox}
use Rattle.fm_core.specs.declared.cell.Cell.{Cell}
use Rattle.fm_core.specs.declared.step.Step.{Step}
use Rattle.fm_core.specs.declared.step.Step.TheVariants.{Start}
use Rattle.fm_core.specs.declared.tag.Tag.TheVariants.{Out, Unborn}
use Rattle.fm_program.specs.Parts.{PlanParts}
use Rattle.fm_program.specs.Process.{plan_lines}
use Rattle.fm_board.specs.declared.about.About.{About}
use Rattle.fm_board.specs.declared.deposit.Deposit.{Deposit}
use Rattle.fm_board.specs.declared.view.Hold.{Hold}
use Rattle.fm_board.specs.declared.view.Mind.{Mind}
use Rattle.fm_board.specs.Minds.{did, spotted, turned}
use Rattle.fm_board.specs.Plays.{HandsUnborn, Finds, Marked, Holder, Tells, starts}
use Rattle.fm_board.specs.StandsFor.{AtHome, Going, HoldsIn, IsHoldOf, IsSeat, IsViewOf, Shown, StandsFor, StandsForSome, Table, count, setting}
use Rattle.std.specs.Prelude.{All}
use Rattle.std.proofs.lemmas.List.Elements.{All-nil}
use Rattle.fm_strand.specs.Course.{steps_of}
use Rattle.fm_board.proofs.Goings.{alone_on, away, changes, put_left, put_less, put_same, seen_known}
use Rattle.fm_board.specs.View.{holding, lines_of}
use Rattle.fm_board.specs.Words.{spell, spelt, word_at}
use Rattle.fm_board.proofs.Claims.{same_some}
use Rattle.fm_board.proofs.Found.{saw}
use Rattle.fm_board.proofs.Frames.{halt_other, halt_stays, Leaves, cell_moves, goes_out, no_word, places_stay, reseated, word_moves, written_stays}
use Rattle.fm_board.proofs.Runs.{extends_on, extends_still, runs_on, runs_still}
use Rattle.fm_core.specs.declared.tag.Tag.{Tag}
use Rattle.fm_board.proofs.Looks.{finds, found_tells, lined, says, sees_now, turned_seat, valid_of}

abbrev Won : About → (s : Table) → ℕ → ℕ → ℕ → ℕ → Holder → ℕ → Type 0
Won a s p id new slots m n =
    (w : Mind) × (x : Act (Option Deposit)) × Valid s.homes m.1 x × StandsForSome a (stepped s (word_at p) n id m.1 w x)
    × starts (step slots (word_at p) 0 new none) m (get_or s.words (word_at p) 0) (w, carried_after m.1 x)

module _ (a : About) (s : Table) (k : StandsForSome a s) (p id : ℕ) (m : Holder) (at : get_elem? s.views id ≡ some m.0)
    (holds : m.0.view.holds ≡ None) (near : p < count a) (found : get_or s.words (word_at p) 0 ≡ 0)
    (marked : Marked m.0 p (length (line (lines_of m.0.view) p).predecessors)) where
  abbrev h : State
  h = k.core

  abbrev c : Cell
  c = cell k.core p

  abbrev now : ℕ
  now = start (plan_lines a.plan) p

  seat : IsSeat a h id m.0
  seat = k.stands.views.viewed id m.0 at

  inside : p < length h.cells
  inside = omega (arith, lined a s k, near)

  is : (c.tag ≡ Unborn) × (c.clock ≡ 0) × (c.seat ≡ 0)
  is = says a s k p inside Unborn 0 0 (omega arith) found

  open_tag : (is_unborn c.tag ≡ true) × (is_held c.tag ≡ false) × (is_ended c.tag ≡ false)
  open_tag = (ap is_unborn is.0, ap is_held is.0, ap is_ended is.0)

  none_computed : c.computed ≡ 0
  none_computed = (k.sound.fits p inside).unborn open_tag.0

  none_taken : c.taken ≡ 0
  none_taken = let le = (k.sound.fits p inside).taken in omega (arith, le, none_computed)

  home : (stock : Deposit) × (get_elem? s.homes p ≡ some (some (Some stock))) × AtHome a p c stock
  home = k.stands.homes.home p inside open_tag.1

  abbrev new_cell : Cell
  new_cell = begun (setting a) c id p

  abbrev h' : State
  h' = after (setting a) h (Start id p)

  abbrev hold : Hold
  hold = record {
    process = p;
    computed = c.computed;
    taken = c.taken;
    clock = now;
    was_ended = false;
    recorded = false;
    written = 0;
    left = steps_of a.plan p;
  }

  here : get_or (set h.cells p new_cell) p unborn ≡ new_cell
  here = get_or-set_same h.cells p new_cell unborn inside

  leaves : Leaves h h' id
  leaves = cell_moves h id p new_cell h.floor h.due h.visited h.gather h.released inside
      (λ j n. left_false (is_held c.tag) (nat_eq c.seat j) open_tag.1)
      (λ j n. ne_eqb id j (λ e. n (sym e)))
      (let z = is.1 in omega arith) (λ e. let no = open_tag.2 in absurd (cc))
      (λ n. record { due = refl; visited = refl; gather = refl; released = refl; floor = refl })

  view : IsViewOf a h' id (holding m.0.view hold)
  view = record {
    plan = seat.is.plan;
    lead = seat.is.lead;
    seats = seat.is.seats;
    number = seat.is.number;
    holds = (
      omega (arith, leaves.cells, inside),
      ap (held_by id) here ∙ eq-eqb id id refl,
      subst (λ (x : Cell). IsHoldOf x hold) (sym here)
          (record { computed = refl; taken = refl; at = refl; was_ended = refl; recorded = sym (home.2.recorded ∙ open_tag.2) }),
    );
    sweep = seat.is.sweep;
    paced = seat.is.paced;
  }

  abbrev started_steps : List Step
  started_steps = k.history.steps ++ Start id p ∷ []

  abbrev w : Mind
  w = turned (spotted m.0 p Out now 0 (holding m.0.view hold) (did m.0 (Start m.0.view.number p) started_steps))

  mine : IsSeat a h' id w
  mine = turned_seat a h' id (spotted m.0 p Out now 0 (holding m.0.view hold) (did m.0 (Start m.0.view.number p) started_steps))
      (sees_now a h' id p m.0 (holding m.0.view hold) seat.here view seat.room
      (λ e. let z = seat.zero e in
      record { lines = z.lines; due = z.due; visited = z.visited; gathered = z.gathered; released = z.released; published = z.published })
      seat.wide
      (λ q. let on = leaves.clock q in let known = seat.known q in omega arith)
      (λ q e. leaves.over q (seat.over q e))
      Out now 0 (did m.0 (Start m.0.view.number p) started_steps)
      (let clock = ap (λ (x : Cell). x.clock) here in omega arith) (λ e. absurd (cc)))

  -- each predecessor is at its end, for the seat has seen it there
  ended : (i : ℕ) → i < length (line (plan_lines a.plan) p).predecessors
      → is_ended (cell h (get_or (line (plan_lines a.plan) p).predecessors i 0)).tag ≡ true
  ended i lt =
      seat.over _ (subst (λ (q : PlanParts). (i : ℕ) → i < length (line (plan_lines q) p).predecessors
      → get_or m.0.over (get_or (line (plan_lines q) p).predecessors i 0) false ≡ true) seat.is.plan marked i lt)

  -- nothing waits
  empty : outbox (line (plan_lines a.plan) p) c ≡ []
  empty =
      (λ i. take (none_computed i - c.taken) (drop c.taken (line (plan_lines a.plan) p).events))
      ∙ (ap (λ (n : ℕ). take (0 - n) (drop c.taken (line (plan_lines a.plan) p).events)) none_taken
      ∙ take_none (drop c.taken (line (plan_lines a.plan) p).events))

  -- it was not born
  newly : steps_of a.plan p < k.going.left p
  newly = k.going.unborn p inside open_tag.0

  -- nobody else holds it
  none_else : (j : ℕ) (u : Mind) (x : Hold) → j ≢ id → get_elem? s.views j ≡ some u → u.view.holds ≡ Some x → x.process ≢ p
  none_else j u x n there holds same =
      let o : HoldsIn h j (Some x) = subst (HoldsIn h j) holds (k.stands.views.viewed j u there).is.holds in
      let held : held_by j c ≡ true = ap (λ (z : ℕ). held_by j (cell h z)) (sym same) ∙ o.1 in
      let no : held_by j c ≡ false = left_false (is_held c.tag) (nat_eq c.seat j) open_tag.1 in absurd (cc)

  going : (ws : List ℕ) → Going a (record { words = ws; homes = set s.homes p none; views = set s.views id w }) h'
  going ws =
      let f = put_left k.going.left p (steps_of a.plan p) in
      let less : steps_of a.plan p ≤ k.going.left p = let n = newly in omega (arith, n) in
      changes a s h k.going id m.0 w at ws (set s.homes p none) p (steps_of a.plan p) new_cell h' refl inside refl (omega arith) less
      (subst (All (λ e. e.time ≤ now)) (sym empty) (All-nil (λ e. e.time ≤ now)))
      (away a s h k.going p (steps_of a.plan p))
      (λ x e. let is : hold ≡ x = same_some hold x e in
      ap (λ (y : Hold). y.left) (sym is)
      ∙ sym (put_same k.going.left p (steps_of a.plan p) x.process (ap (λ (y : Hold). y.process) (sym is))))
      none_else
      (seen_known a m.0 f p Out seat.is.plan
      (λ j lt. let one = put_less k.going.left p (steps_of a.plan p) j less in let two = k.going.known id m.0 at j lt in
      omega (arith, one, two))
      (λ b. let is = put_same k.going.left p (steps_of a.plan p) p refl in omega (arith, is)))

  pub start_wins : (new slots : ℕ) → new ≡ spell Out now id → Won a s p id new slots m new
  start_wins new slots is_new =
      let allowed = may_start (setting a) h id p seat.here inside
      (free (setting a) h id (subst (HoldsIn h id) holds seat.is.holds)) open_tag.0 ended in
      let shown : Shown new_cell = record { idle = λ e. absurd (cc); unborn = λ e. absurd (cc) } in
      let stands : StandsFor a (record {
        words = set s.words (word_at p) (spelt new_cell);
        homes = set s.homes p none;
        views = set s.views id w;
      }) h' = record {
        crew = k.stands.crew;
        words = word_moves a s.words h.cells h.floor k.stands.words p new_cell inside (lined a s k) shown (λ e. e);
        homes = goes_out a s.homes h.cells k.stands.homes p new_cell inside refl;
        views = reseated a h h' id leaves s.views m.0 w at refl mine k.stands.views;
        wrote = written_stays a s.words (set s.words (word_at p) (spelt new_cell)) s.views id m.0 w at
            (places_stay s.words (word_at p) (spelt new_cell) (no_word p))
            (λ x e. inl (sym (ap (λ (y : Hold). y.written) (same_some hold x e)))) k.stands.wrote;
        halt = halt_stays a s.words (set s.words (word_at p) (spelt new_cell)) s.views id m.0 w at
            (halt_other a s.words p (spelt new_cell) near) refl k.stands.halt;
      } in
      let plans : now ≡ start (lines_of m.0.view) p = ap (λ (q : PlanParts). start (plan_lines q) p) (sym seat.is.plan) in (
        w,
        takes p (Some home.0),
        home.1,
        record {
          core = h';
          sound = core.keeps (setting a) h (Start id p) (valid_of a) k.sound allowed;
          stands = subst (λ (n : ℕ). StandsFor a (record {
            words = set s.words (word_at p) n;
            homes = set s.homes p none;
            views = set s.views id w;
          }) h') (sym is_new) stands;
          history = runs_on a s.views h k.history id m.0 w at (Start id p) allowed refl
              (ap (λ (n : ℕ). m.0.log.mine ++ Start n p ∷ []) seat.is.number) refl;
          going = going (set s.words (word_at p) new);
          alone = alone_on a s id m.0 w (set s.words (word_at p) new) (set s.homes p none) at k.stands.views.made
              (λ _ _ inside_now. absurd (let n = ap (λ (q : PlanParts). length q.programs) seat.is.plan in
              omega (arith, inside_now, n)));
        },
        λ q e. let same : p ≡ q = omega (arith, e) in (
          (λ _. subst (λ (y : ℕ). HandsUnborn m y (w, (p, Some home.0) ∷ m.1)) same (record {
            hold = hold;
            stock = home.0;
            process = refl;
            computed = none_computed;
            taken = none_taken;
            clock = plans;
            was_ended = refl;
            fresh = refl;
            left = ap (λ (q : PlanParts). steps_of q p) (sym seat.is.plan);
            tells = subst (λ (y : Tag × ℕ). Tells m.0 p y.0 y.1) (λ i. (is.0 i, is.1 i)) (found_tells a s k id p m.0 at seat inside);
            box = home.2.box ∙ (λ i. record { room = sym seat.room i; events = empty i });
            mind = ap (λ (n : ℕ). turned (spotted m.0 p Out n 0 (holding m.0.view hold)
                (did m.0 (Start m.0.view.number p) started_steps))) plans;
            extends = extends_on a s.views h k.history id m.0 w at (Start id p) refl
                (ap (λ (n : ℕ). m.0.log.mine ++ Start n p ∷ []) seat.is.number) refl m.0.view.number seat.is.number;
            out = refl;
          })),
          (λ n. absurd (n found)),
        ),
      )

-- a start is the core's start where the process is unborn, and none else
pub starts_of : (a : About) (slots id p new : ℕ) (m : Holder) → m.0.view.holds ≡ None → p < count a
    → Marked m.0 p (length (line (lines_of m.0.view) p).predecessors) → new ≡ spell Out (start (lines_of m.0.view) p) m.0.view.number
    → Allows (StandsForSome a) slots id m (word_at p) (λ x. either (eqb x 0) new x) (starts (step slots (word_at p) 0 new none) m)
starts_of a slots id p new m holds near marked is_new s k sized at small =
    let h : State = k.core in
    let seat = k.stands.views.viewed id m.0 at in
    let inside : p < length h.cells = omega (arith, lined a s k, near) in
    exchanged (get_or s.words (word_at p) 0) 0 new (Won a s p id new slots m)
    (λ found. start_wins a s k p id m at holds near found marked new slots
    (is_new ∙ (λ i. spell Out (start (plan_lines (seat.is.plan i)) p) (seat.is.number i))))
    (λ other.
    let w : Mind = spotted m.0 p (cell h p).tag (cell h p).clock (get_or s.words (word_at p) 0) m.0.view m.0.log in (
      w,
      keeps,
      tt,
      saw a s k p id m.0 m.1 m.0.log at inside (runs_still a s.views h k.history id m.0 w at refl),
      λ q e. let same : p ≡ q = omega (arith, e) in (
        (λ found. absurd (other found)),
        (λ _. subst (λ (z : ℕ). Finds m z (get_or s.words (word_at p) 0) (λ t c. m.0.view) (λ t. m.0.log) (w, m.1)) same
            (finds a s k id p m.0 m.1 (λ t c. m.0.view) (λ t. m.0.log) at seat inside
            (extends_still a s.views h k.history id m.0 w at refl m.0.view.number))),
      ),
    ))
