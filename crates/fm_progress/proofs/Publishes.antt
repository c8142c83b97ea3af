-- A publish of a fresh sweep leaves something that can be worked at or taken.
use Rattle.std.proofs.Common.{◌≡◌, ◌⊎◌, ℕ, zero, suc, ◌+◌, ◌-◌, ◌<◌, ◌≤◌, List, [], ◌∷◌, ◌++◌, length, get_or, drop, Bool, true, false, Option, Some, None, refl, sym, ap, ◌∙◌, subst, inl, inr, ⊎_elim, arith, ltb-true, length-append}
use Rattle.std.proofs.lemmas.Bool.{eqb-true, eq-eqb, le-ltb, lt-ltb}
use Rattle.std.proofs.lemmas.List.{get_or-take, get_or-drop, length-take, length-drop}
use Rattle.std.specs.Prelude.{not, ◌&&◌, ◌||◌, nat_lt}
use mathlib.Core.Logic.{dite}
use native.Mathlib.Decide.{ℕ_discrete}
use Rattle.fm_line.specs.Line.{line, event, event_at, upper, sum_below, total}
use Rattle.fm_line.specs.declared.line.Line.{Line}
use Rattle.fm_core.proofs.Below.{any_at, none_any, any_found}
use Rattle.fm_core.proofs.Booleans.{not_false, not_true, false_from, true_from, either_false, or_left, or_right, or_join, both, and_true, and_false, same_bool, if_true, if_false}
use Rattle.fm_core.proofs.Bounds.{bound_born, bound_above}
use Rattle.fm_core.proofs.Elements.{same_all}
use Rattle.fm_core.proofs.Reasons.{no_reason}
use Rattle.fm_core.proofs.Sums.{sum_le, sum_same, counted}
use Rattle.fm_core.proofs.Sweeps.{lowest, LeastOf, least_is}
use Rattle.fm_core.specs.Least.{Lowest}
use Rattle.fm_core.proofs.TagLemmas.{at_home, ended_here, drained_is}
use Rattle.fm_core.specs.Effects.{published}
use Rattle.fm_core.specs.Invariant.{ValidSetting, Sound, of_process}
use Rattle.fm_core.specs.Numbers.{bit, any_below}
use Rattle.fm_core.specs.State.{Setting, State, cell, desk}
use Rattle.fm_core.specs.Steps.{table}
use Rattle.fm_core.specs.Sweep.{sight, bound, least}
use Rattle.fm_core.specs.Tags.{is_unborn, is_home, is_at_hand, is_ended, is_held, is_drained}
use Rattle.fm_core.specs.Taking.{is_due, covers, count_due, outbox, due_of}
use Rattle.fm_core.specs.declared.cell.Cell.{Cell}
use Rattle.fm_core.specs.declared.due.Due.{Due}
use Rattle.fm_core.specs.declared.due.Due.TheVariants.{Pair, Everything}
use Rattle.fm_core.specs.declared.step.Step.TheVariants.{Publish}
use Rattle.fm_core.specs.declared.tag.Tag.TheVariants.{Home, Full}
use Rattle.fm_msg.specs.Event.{TimedMessage}
use Rattle.fm_progress.proofs.Falls.{by_phase}
use Rattle.fm_progress.specs.Left.{events_left, workable, waits_for_visit, is_spare, stirred, stale_in, any_stale, idle, phase}
use Rattle.fm_progress.specs.NextStep.{is_finished, startable}
use Rattle.fm_progress.specs.Progress.{Nearer}

-- one due event is counted
pub some_due : (d : Due) (es : List TimedMessage) (k : ℕ) (e : TimedMessage) → k < length es → covers d (get_or es k e) ≡ true
    → 0 < count_due d es
some_due d [] k e lt due = absurd (omega arith)
some_due d (x ∷ xs) zero e lt due = rw due (omega arith)
some_due d (x ∷ xs) (suc k) e lt due = let a = some_due d xs k e (omega arith) due in omega arith

-- the first event of an outbox
pub first_out : (l : Line) (c : Cell) → c.taken < c.computed → c.computed ≤ length l.events
    → (0 < length (outbox l c)) × (get_or (outbox l c) 0 (event_at l.end) ≡ event l c.taken)
first_out l c some fits = let n : ℕ = c.computed - c.taken in let lt : 0 < n = omega arith in
    let z : c.taken + 0 ≡ c.taken = omega arith in (
      rw (length-take, length-drop) (omega arith),
      get_or-take n (drop c.taken l.events) 0 (event_at l.end) lt
          ∙ (get_or-drop c.taken l.events 0 (event_at l.end) ∙ ap (event l) z),
    )

module _ (g : Setting) (h : State) (valid : ValidSetting g) (ok : Sound g h) where
  -- where all is drained and nothing gathered, all is released
  pub all_out : h.gather ≡ [] → ((p : ℕ) → p < length h.cells → is_drained (cell h p).tag ≡ true) → length h.released ≡ total g.lines
  all_out none drained = let n : ℕ = length h.cells in
      let whole : length (h.released ++ h.gather) ≡ length h.released = (let a = length-append h.released h.gather in
      let b : length h.gather ≡ 0 = ap length none in omega arith) in
      let count = counted n (h.released ++ h.gather) ok.named in
      let each = sum_same n (λ p. length (of_process p (h.released ++ h.gather))) (λ p. length (line g.lines p).events) (λ p lt.
      let f = ok.fits p lt in let d = drained_is (cell h p).tag (drained p lt) in let a = f.drained d in
      let b = f.whole (ap is_ended d) in
      ap length (ok.kept p lt) ∙ rw length-take (omega arith)) in
      let same : sum_below n (λ p. length (line g.lines p).events) ≡ total g.lines =
      ap (λ (k : ℕ). sum_below k (λ p. length (line g.lines p).events)) ok.lined in
      omega arith

  module _ (none_due : is_due h.due ≡ false) (none_gathered : h.gather ≡ []) (none_held : (p : ℕ) → p < length h.cells
      → is_held (cell h p).tag ≡ false)
      (none_works : (p : ℕ) → p < length h.cells → workable g h p ≡ false) (none_starts : (p : ℕ) → p < length h.cells
      → startable g h p ≡ false)
      (fresh : any_stale g h ≡ false) (full : length (desk h 0).sweep ≡ length h.cells) (busy : is_finished g h ≡ false) where
    fresh_at : (i : ℕ) → i < length h.cells → ((sight (desk h 0).sweep i).clock ≡ bound g h i)
        × ((sight (desk h 0).sweep i).ended ≡ is_ended (cell h i).tag)
    fresh_at i lt = let near : i < length (desk h 0).sweep = omega arith in
        let two = either_false _ _ (none_any (length (desk h 0).sweep) (stale_in g h (desk h 0).sweep) fresh i near) in
        (eqb-true _ _ (not_false _ two.0), same_bool _ _ (not_false _ two.1))

    -- where all was seen ended, some process that is ended has events left
    all_seen : ((j : ℕ) → j < length (desk h 0).sweep → (sight (desk h 0).sweep j).ended ≡ true)
        → any_below (length h.cells) (waits_for_visit g (published h None)) ≡ true
    all_seen seen = go (any_below (length h.cells) (λ p. not (is_drained (cell h p).tag))) refl
      where
        go : (b : Bool) → any_below (length h.cells) (λ p. not (is_drained (cell h p).tag)) ≡ b
            → any_below (length h.cells) (waits_for_visit g (published h None)) ≡ true
        go true e = let r = any_found (length h.cells) (λ p. not (is_drained (cell h p).tag)) e in let p : ℕ = r.0 in
            let lt = r.1.below in let f = ok.fits p lt in
            let near : p < length (desk h 0).sweep = omega arith in
            let is = ended_here (cell h p).tag (sym (fresh_at p lt).1 ∙ seen p near) (none_held p lt) (not_true _ r.1.holds) in
            let some = first_out (line g.lines p) (cell h p) (f.left (rw is refl)) f.computed in
            any_at (length h.cells) (waits_for_visit g (published h None)) p lt
            (and_true _ _ (true_from _ (same_all (length h.cells) p false))
            (lt-ltb 0 _ (some_due Everything (outbox (line g.lines p) (cell h p)) 0 (event_at 0) some.0 refl)))
        go false e = let all = all_out none_gathered
            (λ p lt. not_false _ (none_any (length h.cells) (λ q. not (is_drained (cell h q).tag)) e p lt)) in
            let done : is_finished g h ≡ true = and_true _ _ (eq-eqb _ _ all) (true_from _ e) in absurd (cc)

    -- the process of the least pair is born
    least_born : (a : ℕ × ℕ) → Lowest (desk h 0).sweep a.0 a.1 → a.1 < length h.cells → (b : Bool) → is_unborn (cell h a.1).tag ≡ b
        → is_unborn (cell h a.1).tag ≡ false
    least_born a r lt false e = e
    least_born a r lt true e = let waiting = not_false _ (and_false _ _ (none_starts a.1 lt) e) in
        let w = any_found (length (line g.lines a.1).predecessors)
        (λ i. not (is_ended (cell h (get_or (line g.lines a.1).predecessors i 0)).tag)) waiting in
        let q : ℕ = get_or (line g.lines a.1).predecessors w.0 0 in let low : q < a.1 = valid.lines.below a.1 w.0 0 w.1.below in
        let here : q < length h.cells = omega arith in let near : q < length (desk h 0).sweep = omega arith in
        let f = fresh_at q here in let open_there : (sight (desk h 0).sweep q).ended ≡ false = f.1 ∙ not_true _ w.1.holds in
        let up : bound g h q ≤ bound g h a.1 = bound_above g h valid.lines a.1 w.0 lt e w.1.below in
        let mine : bound g h a.1 ≡ a.0 = sym (fresh_at a.1 lt).0 ∙ r.clock in
        let seen : (sight (desk h 0).sweep q).clock ≡ bound g h q = f.0 in
        absurd (⊎_elim (λ (x : a.0 < (sight (desk h 0).sweep q).clock). omega arith)
        (λ (x : (a.0 ≡ (sight (desk h 0).sweep q).clock) × (a.1 ≤ q)). let y = x.1 in omega arith) (r.lower q near open_there))

    -- the process of the least pair can be worked at, or is full of what is due
    pair_stirs : (a : ℕ × ℕ) → Lowest (desk h 0).sweep a.0 a.1 → (any_below (length h.cells) (workable g (published h (Some a))) ≡ true)
        ⊎ (any_below (length h.cells) (waits_for_visit g (published h (Some a))) ≡ true)
    pair_stirs a r = let low = r.below in let lt : a.1 < length h.cells = omega arith in let i : ℕ = a.1 in let c : Cell = cell h i in
        let l : Line = line g.lines i in let f = ok.fits i lt in
        let born = least_born a r lt (is_unborn c.tag) refl in let fresh_here = fresh_at i lt in
        let clock : c.clock ≡ a.0 = sym (bound_born g h i born) ∙ (sym fresh_here.0 ∙ r.clock) in
        let open_here : is_ended c.tag ≡ false = sym fresh_here.1 ∙ r.open_there in
        let place = at_home c.tag born open_here (none_held i lt) in
        let hand : is_at_hand c.tag ≡ true = ⊎_elim (λ (e : c.tag ≡ Home). ap is_at_hand e)
        (λ (e : c.tag ≡ Full). ap is_at_hand e) place in
        let not_work = and_false _ _ (none_works i lt) hand in
        let tests = either_false _ _ (either_false _ _ not_work).0 in
        let is_ready = both _ _ (not_false _ tests.0) in let is_left : events_left g i c ≡ true = not_false _ tests.1 in
        let more = ltb-true c.computed (length l.events) is_left in
        let next : upper l c.computed ≡ a.0 = sym (eqb-true _ _ is_ready.1) ∙ clock in
        ⊎_elim
        (λ (e : c.tag ≡ Home). inl (any_at (length h.cells) (workable g (published h (Some a))) i lt
        (and_true _ _ hand (or_right _ _ (and_true _ _ (ap is_home e)
        (true_from _ (le-ltb (a.0 + g.lead) (upper l c.computed) (omega arith))))))))
        (λ (e : c.tag ≡ Full). let is_full = f.full e in let room = valid.some_room in let some : c.taken < c.computed = omega arith in
        let out = first_out l c some f.computed in
        let early : upper l c.taken ≤ upper l c.computed = valid.lines.rising i c.taken c.computed f.taken in
        let there : c.taken < length l.events = omega arith in let mine = (valid.lines.numbered i c.taken there).0 in
        let due : covers (Pair a.0 i) (event l c.taken) ≡ true = covered a.0 i (event l c.taken) (omega arith) mine in
        inr (any_at (length h.cells) (waits_for_visit g (published h (Some a))) i lt
        (and_true _ _ (true_from _ (same_all (length h.cells) i false))
        (lt-ltb 0 _ (some_due (Pair a.0 i) (outbox l c) 0 (event_at l.end) out.0
        (subst (λ (x : TimedMessage). covers (Pair a.0 i) x ≡ true) (sym out.1) due))))))
        place
      where
        covered : (m i : ℕ) (e : TimedMessage) → e.time ≤ m → e.process ≡ i → covers (Pair m i) e ≡ true
        covered m i e le same = dite (ℕ_discrete e.time m)
            (λ at. or_right _ _ (and_true _ _ (eq-eqb _ _ at) (true_from _ (le-ltb i e.process (omega arith)))))
            (λ d. or_left _ _ (lt-ltb e.time m (omega arith)))

    stirred_by : (w : Option (ℕ × ℕ)) → LeastOf 0 (desk h 0).sweep w → (is_due (due_of w) ≡ true) × (stirred g (published h w) ≡ true)
    stirred_by None r = (refl, or_left _ _ (or_right _ _ (all_seen r)))
    stirred_by (Some a) r = (
      refl,
      or_left (any_below (length h.cells) (workable g (published h (Some a)))
          || any_below (length h.cells) (waits_for_visit g (published h (Some a)))) (nat_lt 0 (length h.gather))
          (or_join (any_below (length h.cells) (workable g (published h (Some a))))
          (any_below (length h.cells) (waits_for_visit g (published h (Some a)))) (pair_stirs a (lowest (desk h 0).sweep a r))),
    )

    -- a publish of a fresh sweep brings the run nearer
    pub publish_nearer : idle g h ≡ 1 → Nearer g h Publish
    publish_nearer none_lowers = let w = least (desk h 0).sweep in let now = stirred_by w (least_is 0 (desk h 0).sweep) in
        let was : phase g h ≡ 1 = if_false (is_due h.due) _ _ none_due ∙ if_false (any_stale g h) _ _ fresh in
        let then_is : phase g (published h w) ≡ 0 = if_true (is_due (due_of w)) _ _ now.0
        ∙ if_true (stirred g (published h w)) _ _ now.1 in
        record {
          allowed = no_reason (table g h Publish) (false_from _ (eq-eqb _ _ full), (none_due, tt));
          less = by_phase g h (published h w) (omega arith) none_lowers
              (sum_le (length h.cells) (λ p. bit (is_held (cell h p).tag && not (is_spare (published h w) p)))
              (λ p. bit (is_held (cell h p).tag && not (is_spare h p))) (λ q lt. rw (none_held q lt) (omega arith))) (omega arith);
        }
