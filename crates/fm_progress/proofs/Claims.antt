-- Releases, starts, paces and claims bring a run nearer to its end.
use Rattle.std.proofs.Common.{◌≡◌, ◌≢◌, ◌⊎◌, ℕ, ◌+◌, ◌-◌, ◌<◌, ◌≤◌, List, [], ◌∷◌, ◌++◌, length, take, drop, Bool, true, false, refl, sym, ap, ◌∙◌, subst, inl, inr, arith, ltb-true, length-append, length-set, get_or-set_same, get_or-set_other}
use Rattle.std.proofs.lemmas.Bool.{eqb-true, eq-eqb, lt-ltb}
use Rattle.std.proofs.lemmas.List.{length-take}
use Rattle.std.specs.Prelude.{not, ◌&&◌, ◌||◌, nat_eq, nat_lt, if◌then◌else◌}
use mathlib.Core.Logic.{dite}
use native.Mathlib.Decide.{ℕ_discrete}
use Rattle.fm_line.proofs.Sorting.{length-sorted}
use Rattle.fm_line.specs.Line.{line, upper, sum_below, total}
use Rattle.fm_line.specs.Piece.{sorted}
use Rattle.fm_line.specs.declared.line.Line.{Line}
use Rattle.fm_core.proofs.Below.{any_at, none_any, not_any}
use Rattle.fm_core.proofs.Booleans.{not_true, false_from, true_from, neither, or_left, or_right, or_cases, both, and_true, left_false, right_false, if_true, if_false, bit_one}
use Rattle.fm_core.proofs.Reasons.{no_reason}
use Rattle.fm_core.proofs.Sums.{sum_le, counted}
use Rattle.fm_core.proofs.TagLemmas.{unborn_open}
use Rattle.fm_core.specs.Effects.{with_cell, after, claimed, begun}
use Rattle.fm_core.specs.Floors.{floor_eq}
use Rattle.fm_core.specs.Invariant.{ValidSetting, Sound, of_process}
use Rattle.fm_core.specs.Numbers.{bit, find_below, any_below}
use Rattle.fm_core.specs.State.{Setting, State, Desk, cell, desk, visited, unborn, held_by, no_desk}
use Rattle.fm_core.specs.Steps.{Allowed, unvisited, table, holding}
use Rattle.fm_core.specs.Tags.{is_home, is_out, is_at_hand, is_held, is_claimable}
use Rattle.fm_core.specs.Taking.{is_due, count_due, outbox, must_take_at}
use Rattle.fm_core.specs.declared.cell.Cell.{Cell}
use Rattle.fm_core.specs.declared.due.Due.{Due}
use Rattle.fm_core.specs.declared.floor.Floor.{Floor}
use Rattle.fm_core.specs.declared.floor.Floor.TheVariants.{At, Done}
use Rattle.fm_core.specs.declared.sight.Sight.{Sight}
use Rattle.fm_core.specs.declared.step.Step.TheVariants.{Claim, Start, Pace, Release}
use Rattle.fm_msg.specs.Event.{TimedMessage}
use Rattle.fm_progress.proofs.ClaimedTags.{claimed_unborn, claimed_ended, claimed_held, hand_out, home_is}
use Rattle.fm_progress.proofs.Falls.{only_gathered, by_owed, by_idle, by_phase, by_empty_handed, by_pace, phase_due, lacking_due}
use Rattle.fm_progress.proofs.Owed.{owed_set, owed_falls}
use Rattle.fm_progress.specs.Left.{ready, owed, events_left, next_within, workable, may_compute_at, can_lower, can_lower_at, is_spare, spare_at, counts_at, waits_for_visit, stirred, idle, held_count, phase, lacking, left, Less, any_stale, any_stale_in, empty_handed, looks_in}
use Rattle.fm_progress.specs.NextStep.{startable}
use Rattle.fm_progress.specs.Progress.{Nearer}

same_floor : (a b : Floor) → floor_eq a b ≡ true → a ≡ b
same_floor (At a) (At b) e = ap At (eqb-true a b e)
same_floor (At a) Done e = absurd (cc)
same_floor Done (At b) e = absurd (cc)
same_floor Done Done e = refl

floor_is : (a : Floor) → floor_eq a a ≡ true
floor_is (At a) = eq-eqb a a refl
floor_is Done = refl

-- nothing is due of an empty outbox
pub none_empty : (d : Due) (l : Line) (c : Cell) → c.computed ≤ c.taken → count_due d (outbox l c) ≡ 0
none_empty d l c le = let z : c.computed - c.taken ≡ 0 = omega arith in let e : outbox l c ≡ [] = rw z (none (drop c.taken l.events)) in
    ap (count_due d) e
  where
    none : (xs : List TimedMessage) → take 0 xs ≡ []
    none [] = refl
    none (x ∷ xs) = refl

module _ (g : Setting) (h : State) (valid : ValidSetting g) (ok : Sound g h) where
  -- what is released and gathered was taken
  pub taken_all : length h.released + length h.gather ≤ total g.lines
  taken_all = let n : ℕ = length h.cells in let a = length-append h.released h.gather in
      let count = counted n (h.released ++ h.gather) ok.named in
      let each = sum_le n (λ p. length (of_process p (h.released ++ h.gather))) (λ p. length (line g.lines p).events) (λ p lt.
      let b = ap length (ok.kept p lt) in let c = length-take (cell h p).taken (line g.lines p).events in omega arith) in
      let same : sum_below n (λ p. length (line g.lines p).events) ≡ total g.lines =
      ap (λ (k : ℕ). sum_below k (λ p. length (line g.lines p).events)) ok.lined in
      omega arith

  module _ (none_lowers : idle g h ≡ 1) (none_held : (p : ℕ) → p < length h.cells → is_held (cell h p).tag ≡ false) where
    -- where nothing is held, nothing is as long as the processes stay as they are
    pub none_counts : (k : State) → k.cells ≡ h.cells → held_count k ≤ held_count h
    none_counts k e = rw e (sum_le (length h.cells) (λ q. counts_at k.due (visited k q) (cell h q))
        (λ q. counts_at h.due (visited h q) (cell h q)) (λ q lt. rw (none_held q lt) (omega arith)))

    free : (s : ℕ) → holding h s ≡ false
    free s = not_any (length h.cells) (λ p. held_by s (cell h p)) (λ q lt. left_false _ _ (none_held q lt))

    abbrev after_release : State
    after_release = after g h (Release (length h.gather))

    -- a release brings the run nearer
    pub release_nearer : is_due h.due ≡ true → any_below (length h.cells) (unvisited h) ≡ false
        → (nat_lt 0 (length h.gather) || not (any_below (length h.cells) (workable g h))) ≡ true → Nearer g h (Release (length h.gather))
    release_nearer due all_visited ready_to = record {
      allowed = no_reason (table g h (Release (length h.gather))) (false_from _ due, (all_visited, (false_from _ (eq-eqb _ _ refl), tt)));
      less = go (nat_lt 0 (length h.gather)) refl ready_to;
    }
      where
        out : length (h.released ++ sorted h.gather) ≡ length h.released + length h.gather
        out = let a = length-append h.released (sorted h.gather) in let b = length-sorted h.gather in omega arith

        go : (b : Bool) → nat_lt 0 (length h.gather) ≡ b → (b || not (any_below (length h.cells) (workable g h))) ≡ true
            → Less (left g after_release) (left g h)
        go true e f = let more = ltb-true 0 (length h.gather) e in let most = taken_all in let o = out in
            by_owed g h after_release (omega arith)
        go false e f = let o = out in
            let quiet : stirred g h ≡ false = neither _ _
            (neither _ _ (not_true _ f) (not_any (length h.cells) (waits_for_visit g h)
            (λ q lt. left_false _ _ (none_any (length h.cells) (unvisited h) all_visited q lt)))) e in
            let was : phase g h ≡ 3 = if_true {A = ℕ} (is_due h.due) (if stirred g h then 0 else 3) (if any_stale g h then 2 else 1) due
            ∙ if_false {A = ℕ} (stirred g h) 0 3 quiet in
            let is : phase g after_release ≤ 2 = at_most_two (any_stale g after_release) in
            by_phase g h after_release (omega arith) none_lowers (none_counts after_release refl) (omega arith)
          where
            at_most_two : (b : Bool) → (if b then 2 else 1) ≤ 2
            at_most_two true = omega arith
            at_most_two false = omega arith

    -- an unborn process whose predecessors are all ended is born
    pub start_nearer : (p : ℕ) → p < length h.cells → startable g h p ≡ true → Nearer g h (Start 0 p)
    start_nearer p lt can = let not_born = (both _ _ can).0 in let is_open = unborn_open (cell h p).tag not_born in record {
      allowed = no_reason (table g h (Start 0 p)) (
        false_from _ (lt-ltb _ _ ok.crew),
        (false_from _ (lt-ltb _ _ lt), (free 0, (false_from _ not_born, (not_true _ (both _ _ can).1, tt)))),
      );
      less = by_owed g h (with_cell h p (begun g (cell h p) 0 p))
          (owed_falls g h valid ok (with_cell h p (begun g (cell h p) 0 p)) p (begun g (cell h p) 0 p) refl refl lt
          (let a = bit_one (not (ready (line g.lines p) (begun g (cell h p) 0 p))) in rw (not_born, is_open) (omega arith)));
    }

    abbrev paced_desk : Desk
    paced_desk = record { sweep = (desk h 0).sweep; paced = h.floor }

    abbrev after_pace : State
    after_pace = after g h (Pace 0)

    -- seat 0 paces, where something can be worked at under the floor
    pub pace_nearer : floor_eq (desk h 0).paced h.floor ≡ false → Nearer g h (Pace 0)
    pace_nearer e = let same = ap (λ (d : Desk). d.sweep) here in record {
      allowed = no_reason (table g h (Pace 0)) (false_from _ (lt-ltb _ _ ok.crew), tt);
      less = by_pace g h after_pace (omega arith) none_lowers (none_counts after_pace refl)
          (eq_le (ap (λ (seen : List Sight). if is_due h.due then (if stirred g h then 0 else 3)
          else (if any_stale_in g h seen then 2 else 1)) same))
          (eq_le (ap (λ (seen : List Sight). if is_due h.due then sum_below (length h.cells) (λ p. bit (unvisited h p))
          else length h.cells - length seen) same))
          (omega arith)
          (eq_le (ap (λ (seen : List Sight). if is_due h.due then looks_in seen (find_below (length h.cells) (unvisited h)) else 0) same))
          (rw (e, ap (λ (d : Desk). d.paced) here, floor_is h.floor) (omega arith));
    }
      where
        here : desk after_pace 0 ≡ paced_desk
        here = get_or-set_same h.desks 0 paced_desk no_desk ok.crew

        eq_le : {a b : ℕ} → a ≡ b → a ≤ b
        eq_le e = rw e (omega arith)

    -- seat 0 claims a process: nothing is owed more, and what is owed can then be lowered
    module _ (p : ℕ) (lt : p < length h.cells) (takes : is_claimable 0 (cell h p).tag ≡ true) where
      abbrev c : Cell
      c = cell h p

      abbrev mine : Cell
      mine = claimed c 0

      abbrev k : State
      k = after g h (Claim 0 p)

      here : cell k p ≡ mine
      here = get_or-set_same h.cells p mine unborn lt

      other : (q : ℕ) → q ≢ p → cell k q ≡ cell h q
      other q n = get_or-set_other h.cells p q mine unborn n

      claim_allowed : Allowed g h (Claim 0 p)
      claim_allowed = no_reason (table g h (Claim 0 p)) (
        false_from _ (lt-ltb _ _ ok.crew),
        (false_from _ (lt-ltb _ _ lt), (free 0, (false_from _ takes, tt))),
      )

      same_ready : ready (line g.lines p) mine ≡ ready (line g.lines p) c
      same_ready = ap (λ (b : Bool). not b && nat_eq c.clock (upper (line g.lines p) c.computed)) (claimed_unborn c.tag takes)

      owes_same : owed g k ≤ owed g h
      owes_same = owed_set g h valid ok k p mine refl refl lt
          (let a = ap bit (claimed_unborn c.tag takes) in let b = ap (λ (x : Bool). bit (not x)) (claimed_ended c.tag takes) in
          let d = ap (λ (x : Bool). bit (not x)) same_ready in omega arith)

      abbrev t : ℕ
      t = must_take_at h.due (visited h p) 0 (line g.lines p) mine

      now_lowers : can_lower_at g (desk h 0).paced p mine t ≡ true → can_lower g k p ≡ true
      now_lowers e = ap (λ (x : Cell). can_lower_at g (desk h x.seat).paced p x
          (must_take_at h.due (visited h p) x.seat (line g.lines p) x)) here ∙ e

      lowered : can_lower g k p ≡ true → Nearer g h (Claim 0 p)
      lowered can = record {
        allowed = claim_allowed;
        less = by_idle g h k owes_same (let z : idle g k ≡ 0 =
            ap (λ (b : Bool). bit (not b)) (any_at (length k.cells) (can_lower g k) p (rw length-set lt) can) in omega arith);
      }

      -- a workable process, under the paced floor
      pub work_nearer : workable g h p ≡ true → floor_eq (desk h 0).paced h.floor ≡ true → Nearer g h (Claim 0 p)
      work_nearer works paced = lowered (can (or_cases _ _ (both _ _ works).1))
        where
          hand : is_at_hand c.tag ≡ true
          hand = (both (is_at_hand c.tag) (not (ready (line g.lines p) c) || not (events_left g p c) || is_home c.tag
              && next_within g h.floor p c) works).0

          out : is_out mine.tag ≡ true
          out = ap is_out (hand_out c.tag hand)

          by_out : (not mine.recorded || not (ready (line g.lines p) mine) || not (events_left g p mine)
              || may_compute_at g (desk h 0).paced p mine t) ≡ true → can_lower g k p ≡ true
          by_out e = now_lowers (and_true _ _ (claimed_held c.tag) (or_right _ _ (and_true _ _ out e)))

          old : (not (ready (line g.lines p) c) ≡ true) ⊎ (not (events_left g p c) ≡ true) → can_lower g k p ≡ true
          old (inl e) = by_out (or_left _ _ (or_left _ _ (or_right _ _ (ap not same_ready ∙ e))))
          old (inr e) = by_out (or_left _ _ (or_right _ _ e))

          next : (b : Bool) → events_left g p c ≡ b → (is_home c.tag && next_within g h.floor p c) ≡ true → can_lower g k p ≡ true
          next false e f = by_out (or_left _ _ (or_right _ _ (true_from _ e)))
          next true e f = let home = (ok.fits p lt).home (home_is c.tag (both _ _ f).0) in
              let low : next_within g (desk h 0).paced p mine ≡ true = ap (λ (x : Floor). next_within g x p mine)
              (same_floor (desk h 0).paced h.floor paced) ∙ (both _ _ f).1 in
              by_out (or_right _ _ (and_true _ _ e (and_true _ _ low (lt-ltb c.computed (g.room + c.taken + t) (omega arith)))))

          can : ((not (ready (line g.lines p) c) || not (events_left g p c)) ≡ true)
              ⊎ ((is_home c.tag && next_within g h.floor p c) ≡ true) → can_lower g k p ≡ true
          can (inr e) = next (events_left g p c) refl e
          can (inl e) = old (or_cases _ _ e)

      -- an unvisited process with a due event in its outbox
      pub take_nearer : waits_for_visit g h p ≡ true → Nearer g h (Claim 0 p)
      take_nearer waits_here = let parts = both (unvisited h p) (nat_lt 0 (count_due h.due (outbox (line g.lines p) c))) waits_here in
          let must : t ≡ count_due h.due (outbox (line g.lines p) c) = if_true (nat_eq 0 0 && unvisited h p)
          (count_due h.due (outbox (line g.lines p) c)) 0 parts.0 in
          let more = ltb-true 0 _ parts.1 in
          lowered (now_lowers (and_true _ _ (claimed_held c.tag) (or_left _ _ (lt-ltb 0 t (omega arith)))))

      -- the least unvisited process is taken, so that it is given back as visited
      pub visit_nearer : is_due h.due ≡ true → unvisited h p ≡ true → ((q : ℕ) → q < length h.cells → workable g h q ≡ false)
          → ((q : ℕ) → q < length h.cells → waits_for_visit g h q ≡ false) → Nearer g h (Claim 0 p)
      visit_nearer due new none_works none_waits = record {
        allowed = claim_allowed;
        less = by_empty_handed g h k owes_same none_lowers counts (phase_due g h k due due still) lacks takes_one;
      }
        where
          spare_now : is_spare k p ≡ true
          spare_now = ap (λ (x : Cell). spare_at h.due (visited h p) x) here
              ∙ and_true _ _ (and_true _ _ (claimed_held c.tag) refl) (and_true _ _ new due)

          counts : held_count k ≤ held_count h
          counts = rw length-set (sum_le (length h.cells) (λ q. counts_at k.due (visited k q) (cell k q))
              (λ q. counts_at h.due (visited h q) (cell h q)) (λ q near. dite (ℕ_discrete q p)
              (λ e. let z : counts_at k.due (visited k q) (cell k q) ≡ 0 =
              ap bit (right_false _ _ (false_from _ (subst (λ (r : ℕ). is_spare k r ≡ true) (sym e) spare_now))) in omega arith)
              (λ n. let z = ap (λ (x : Cell). counts_at h.due (visited h q) x) (other q n) in omega arith)))

          still : stirred g h ≡ true → stirred g k ≡ true
          still e = or_right (any_below (length k.cells) (workable g k) || any_below (length k.cells) (waits_for_visit g k))
              (nat_lt 0 (length h.gather)) (only_gathered g h none_works none_waits e)

          lacks : lacking k ≤ lacking h
          lacks = let x = lacking_due k due in let y = lacking_due h due in
              let z = ap (λ (n : ℕ). sum_below n (λ q. bit (unvisited h q))) (length-set h.cells p mine) in omega arith

          takes_one : empty_handed k < empty_handed h
          takes_one = let a : empty_handed k ≡ 0 = ap (λ (b : Bool). bit (not b))
              (any_at (length k.cells) (is_spare k) p (rw length-set lt) spare_now) in
              let b : empty_handed h ≡ 1 = ap (λ (b : Bool). bit (not b))
              (not_any (length h.cells) (is_spare h) (λ q near. left_false _ _ (left_false _ _ (none_held q near)))) in omega arith
