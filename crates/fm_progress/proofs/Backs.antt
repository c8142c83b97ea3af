-- What is held goes back as it is.
use Rattle.std.proofs.Common.{◌≡◌, ◌≢◌, ◌⊎◌, ℕ, ◌+◌, ◌-◌, ◌<◌, ◌≤◌, List, length, get_or, set, take, Bool, true, false, refl, sym, ap, ◌∙◌, subst, inl, inr, arith, ltb-true, length-append, length-set, get_or-set_same, get_or-set_other}
use Rattle.std.proofs.lemmas.Bool.{eq-eqb, lt-ltb}
use Rattle.std.specs.Prelude.{not, ◌&&◌, ◌||◌, nat_eq, nat_lt, if◌then◌else◌}
use mathlib.Core.Logic.{dite}
use native.Mathlib.Decide.{ℕ_discrete}
use Rattle.fm_line.specs.Line.{line, upper, sum_below}
use Rattle.fm_line.specs.declared.line.Line.{Line}
use Rattle.fm_core.proofs.Below.{any_at, any_found}
use Rattle.fm_core.proofs.Booleans.{not_true, false_from, true_from, either_false, or_left, or_right, or_cases, both, and_true, and_false, left_false, if_true, not_positive}
use Rattle.fm_core.proofs.GiveTests.{may_give}
use Rattle.fm_core.proofs.Given.{given_not_held}
use Rattle.fm_core.proofs.Sums.{sum_le, sum_less}
use Rattle.fm_core.proofs.TagLemmas.{held_is_born, held_not_at_hand}
use Rattle.fm_core.specs.Effects.{given, after}
use Rattle.fm_core.specs.Giving.{MayGive}
use Rattle.fm_core.specs.Invariant.{ValidSetting, Sound}
use Rattle.fm_core.specs.Numbers.{bit, any_below}
use Rattle.fm_core.specs.State.{Setting, State, cell, visited, unborn}
use Rattle.fm_core.specs.Steps.{unvisited}
use Rattle.fm_core.specs.Tags.{is_at_hand, is_ended, is_held}
use Rattle.fm_core.specs.Taking.{is_due, count_due, outbox, must_take}
use Rattle.fm_core.specs.declared.cell.Cell.{Cell}
use Rattle.fm_core.specs.declared.step.Step.TheVariants.{Give}
use Rattle.fm_progress.proofs.Falls.{by_held, by_lacking, phase_due, lacking_due}
use Rattle.fm_progress.proofs.Owed.{owed_given, owed_set}
use Rattle.fm_progress.specs.Left.{ready, owed, workable, can_lower, is_spare, spare_at, works_at, waits_at, counts_at, waits_for_visit, stirred, idle, held_count, lacking, left, Less}
use Rattle.fm_progress.specs.Progress.{Nearer}

module _ (g : Setting) (h : State) (valid : ValidSetting g) (ok : Sound g h) (p : ℕ) (lt : p < length h.cells)
    (held : is_held (cell h p).tag ≡ true) (stuck : can_lower g h p ≡ false) where
  abbrev c : Cell
  c = cell h p

  abbrev l : Line
  l = line g.lines p

  abbrev t : ℕ
  t = must_take g h c.seat p

  abbrev back : Cell
  back = given g.room c t 0 c.clock (is_ended c.tag)

  abbrev k : State
  k = after g h (Give c.seat p t 0 c.clock (is_ended c.tag))

  none_taken : t ≡ 0
  none_taken = not_positive t (either_false _ _ (and_false _ _ stuck held)).0

  gives_same : MayGive g h c.seat p t 0 c.clock (is_ended c.tag)
  gives_same = let f = ok.fits p lt in let z : c.computed + 0 ≡ c.computed = omega arith in let most = f.computed in let box = f.boxed in
      record {
        seat = ok.seated p lt held;
        process = lt;
        held = and_true _ _ held (eq-eqb _ _ refl);
        take = refl;
        fits = omega arith;
        none_more = λ ended. refl;
        low = λ i less. absurd (omega arith);
        roomy = omega arith;
        on = omega arith;
        within = rw z (f.timed (held_is_born c.tag held));
        same = λ ended. refl;
        stays = λ ended. ended;
        whole = λ ended. let w = f.whole ended in omega arith;
        at_end = f.at_end;
        recorded = f.recorded;
      }

  owes_same : owed g k ≤ owed g h
  owes_same = owed_set g h valid ok k p back refl refl lt (let z : c.computed + 0 ≡ c.computed = omega arith in let none = none_taken in
      let is : ready l c ≡ nat_eq c.clock (upper l c.computed) = rw (held_is_born c.tag held) refl in
      let same : bit (not (nat_eq c.clock (upper l (c.computed + 0)))) ≡ bit (not (ready l c)) =
      ap (λ (n : ℕ). bit (not (nat_eq c.clock (upper l n)))) z ∙ ap (λ (b : Bool). bit (not b)) (sym is) in
      rw (owed_given l g.room c t 0 c.clock (is_ended c.tag)) (omega arith))

  cell_here : cell k p ≡ back
  cell_here = get_or-set_same h.cells p back unborn lt

  cell_other : (q : ℕ) → q ≢ p → cell k q ≡ cell h q
  cell_other q n = get_or-set_other h.cells p q back unborn n

  visit_other : (q : ℕ) → q ≢ p → visited k q ≡ visited h q
  visit_other q n = go (nat_eq c.seat 0 && is_due h.due)
    where
      go : (b : Bool) → get_or (if b then set h.visited p true else h.visited) q false ≡ get_or h.visited q false
      go true = get_or-set_other h.visited p q true false n
      go false = refl

  not_held_now : is_held (cell k p).tag ≡ false
  not_held_now = ap (λ (x : Cell). is_held x.tag) cell_here ∙ given_not_held g.room (c.computed + 0 - (c.taken + t)) (is_ended c.tag)

  count_here : counts_at k.due (visited k p) (cell k p) ≡ 0
  count_here = ap bit (left_false (is_held (cell k p).tag) (not (spare_at k.due (visited k p) (cell k p))) not_held_now)

  count_other : (q : ℕ) → q ≢ p → counts_at k.due (visited k q) (cell k q) ≡ counts_at h.due (visited h q) (cell h q)
  count_other q n = ap (λ (x : Cell). counts_at h.due (visited k q) x) (cell_other q n)
      ∙ ap (λ (v : Bool). counts_at h.due v (cell h q)) (visit_other q n)

  counts : (q : ℕ) → q < length h.cells → counts_at k.due (visited k q) (cell k q) ≤ counts_at h.due (visited h q) (cell h q)
  counts q near = dite (ℕ_discrete q p) (λ e. subst
      (λ (r : ℕ). counts_at k.due (visited k r) (cell k r) ≤ counts_at h.due (visited h r) (cell h r)) (sym e) (let z = count_here in
      omega arith)) (λ n. let z = count_other q n in omega arith)

  -- a process that is not spare is held no more
  fewer_held : is_spare h p ≡ false → held_count k < held_count h
  fewer_held no_spare = let z = count_here in
      let one : counts_at h.due (visited h p) (cell h p) ≡ 1 = ap bit (and_true _ _ held (true_from _ no_spare)) in
      let a = sum_less (length h.cells) p (λ q. counts_at k.due (visited k q) (cell k q))
      (λ q. counts_at h.due (visited h q) (cell h q)) counts lt (omega arith) in rw length-set a

  as_many_held : held_count k ≤ held_count h
  as_many_held = let a = sum_le (length h.cells) (λ q. counts_at k.due (visited k q) (cell k q))
      (λ q. counts_at h.due (visited h q) (cell h q)) counts in rw length-set a

  module _ (spare : is_spare h p ≡ true) where
    due : is_due h.due ≡ true
    due = (both _ _ (both _ _ spare).1).1

    seat_0 : nat_eq c.seat 0 ≡ true
    seat_0 = (both _ _ (both _ _ spare).0).1

    new : visited h p ≡ false
    new = not_true _ (both _ _ (both _ _ spare).1).0

    visit_here : visited k p ≡ true
    visit_here = let near : p < length h.visited = (let m = ok.marked in omega arith) in
        ap (λ (vs : List Bool). get_or vs p false)
        (if_true (nat_eq c.seat 0 && is_due h.due) (set h.visited p true) h.visited (and_true _ _ seat_0 due))
        ∙ get_or-set_same h.visited p true false near

    still : stirred g h ≡ true → stirred g k ≡ true
    still e = parts (or_cases _ _ e)
      where
        work : any_below (length h.cells) (workable g h) ≡ true → any_below (length k.cells) (workable g k) ≡ true
        work x = let r = any_found (length h.cells) (workable g h) x in let at = r.1.holds in let near = r.1.below in
            let apart : r.0 ≢ p = (λ e. let hand : is_at_hand (cell h p).tag ≡ true =
            subst (λ (q : ℕ). is_at_hand (cell h q).tag ≡ true) e (both _ _ at).0 in
            let no_hand = held_not_at_hand (cell h p).tag held in absurd (cc)) in
            any_at (length k.cells) (workable g k) r.0 (rw length-set near) (ap (works_at g h.floor r.0) (cell_other r.0 apart) ∙ at)

        wait : any_below (length h.cells) (waits_for_visit g h) ≡ true → any_below (length k.cells) (waits_for_visit g k) ≡ true
        wait x = let r = any_found (length h.cells) (waits_for_visit g h) x in let at = r.1.holds in let near = r.1.below in
            let apart : r.0 ≢ p = (λ e. let some : nat_lt 0 (count_due h.due (outbox l c)) ≡ true =
            (both (unvisited h p) (nat_lt 0 (count_due h.due (outbox l c)))
            (subst (λ (q : ℕ). waits_for_visit g h q ≡ true) e at)).1 in
            let all : t ≡ count_due h.due (outbox l c) = if_true (nat_eq c.seat 0 && not (visited h p)) (count_due h.due (outbox l c)) 0
            (and_true _ _ seat_0 (true_from _ new)) in
            let none = none_taken in let more = ltb-true 0 (count_due h.due (outbox l c)) some in absurd (omega arith)) in
            any_at (length k.cells) (waits_for_visit g k) r.0 (rw length-set near)
            (ap (λ (x : Cell). waits_at g h.due r.0 (visited k r.0) x) (cell_other r.0 apart)
            ∙ (ap (λ (v : Bool). waits_at g h.due r.0 v (cell h r.0)) (visit_other r.0 apart) ∙ at))

        gathers : nat_lt 0 (length h.gather) ≡ true → nat_lt 0 (length k.gather) ≡ true
        gathers x = let more = ltb-true 0 (length h.gather) x in let a = length-append h.gather (take t (outbox l c)) in
            lt-ltb 0 (length k.gather) (omega arith)

        parts : ((any_below (length h.cells) (workable g h) || any_below (length h.cells) (waits_for_visit g h)) ≡ true)
            ⊎ (nat_lt 0 (length h.gather) ≡ true) → stirred g k ≡ true
        parts (inr x) = or_right (any_below (length k.cells) (workable g k) || any_below (length k.cells) (waits_for_visit g k))
            (nat_lt 0 (length k.gather)) (gathers x)
        parts (inl x) = or_left (any_below (length k.cells) (workable g k) || any_below (length k.cells) (waits_for_visit g k))
            (nat_lt 0 (length k.gather)) (two (or_cases _ _ x))
          where
            two : (any_below (length h.cells) (workable g h) ≡ true) ⊎ (any_below (length h.cells) (waits_for_visit g h) ≡ true)
                → (any_below (length k.cells) (workable g k) || any_below (length k.cells) (waits_for_visit g k)) ≡ true
            two (inl y) = or_left (any_below (length k.cells) (workable g k)) (any_below (length k.cells) (waits_for_visit g k)) (work y)
            two (inr y) = or_right (any_below (length k.cells) (workable g k)) (any_below (length k.cells) (waits_for_visit g k)) (wait y)

    fewer_unvisited : lacking k < lacking h
    fewer_unvisited = let here : bit (unvisited k p) ≡ 0 = ap bit (false_from _ visit_here) in
        let was : bit (unvisited h p) ≡ 1 = ap bit (true_from _ new) in
        let a = sum_less (length h.cells) p (λ q. bit (unvisited k q)) (λ q. bit (unvisited h q))
        (λ q near. dite (ℕ_discrete q p) (λ e. subst (λ (r : ℕ). bit (unvisited k r) ≤ bit (unvisited h r)) (sym e) (omega arith))
        (λ n. let z : bit (unvisited k q) ≡ bit (unvisited h q) = ap (λ (v : Bool). bit (not v)) (visit_other q n) in omega arith)) lt
        (omega arith) in
        let b : sum_below (length k.cells) (λ q. bit (unvisited k q)) < sum_below (length h.cells) (λ q. bit (unvisited h q)) =
        rw length-set a in
        let x = lacking_due k due in let y = lacking_due h due in omega arith

  -- giving back as it is brings the run nearer
  pub back_nearer : idle g h ≡ 1 → Nearer g h (Give c.seat p t 0 c.clock (is_ended c.tag))
  back_nearer none_lowers = record {
    allowed = may_give g h c.seat p t 0 c.clock (is_ended c.tag) gives_same;
    less = go (is_spare h p) refl;
  }
    where
      go : (b : Bool) → is_spare h p ≡ b → Less (left g k) (left g h)
      go false e = by_held g h k owes_same none_lowers (fewer_held e)
      go true e = by_lacking g h k owes_same none_lowers as_many_held (phase_due g h k (due e) (due e) (still e)) (fewer_unvisited e)
