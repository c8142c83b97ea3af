-- Looks and paces keep the state sound.
use Rattle.std.proofs.Common.{◌≡◌, ◌⊎◌, ℕ, ◌<◌, ◌≤◌, List, [], ◌∷◌, ◌++◌, length, get_or, set, Bool, true, false, refl, sym, ap, ◌∙◌, subst, inl, inr, arith, ltb-true, length-append, length-set}
use Rattle.std.proofs.Math.Seq.{get_or-append_seam}
use Rattle.std.proofs.lemmas.Bool.{eqb-true, le-ltb}
use Rattle.std.proofs.lemmas.List.{get_or_append_left}
use Rattle.std.specs.Prelude.{not, ◌&&◌, nat_eq, if◌then◌else◌, map}
use mathlib.Core.Logic.{dite}
use native.Mathlib.Decide.{ℕ_discrete}
use Rattle.fm_line.specs.Line.{line, upper, greatest}
use Rattle.fm_core.proofs.Below.{none_any, any_found}
use Rattle.fm_core.proofs.Booleans.{not_false, not_true, true_from, both, if_true, if_false, clash}
use Rattle.fm_core.proofs.Bounds.{greatest_above, same_greatest, bound_born, bound_unborn, greatest_on}
use Rattle.fm_core.proofs.Elements.{or_set}
use Rattle.fm_core.proofs.Reasons.{none_holds}
use Rattle.fm_core.proofs.TagLemmas.{nothing_is, ended_born}
use Rattle.fm_core.specs.Effects.{after, visits_by_look}
use Rattle.fm_core.specs.Floors.{floor_le}
use Rattle.fm_core.specs.Invariant.{ValidSetting, Sound, NotBelow, of_process}
use Rattle.fm_core.specs.Numbers.{any_below}
use Rattle.fm_core.specs.State.{Setting, State, Desk, cell, desk, visited, no_desk}
use Rattle.fm_core.specs.Steps.{Allowed, table}
use Rattle.fm_core.specs.Sweep.{sight, bound, sighted, swept, unseen}
use Rattle.fm_core.specs.Tags.{is_unborn, is_ended, has_nothing}
use Rattle.fm_core.specs.declared.due.Due.TheVariants.{Pair, Everything}
use Rattle.fm_core.specs.declared.floor.Floor.{Floor}
use Rattle.fm_core.specs.declared.floor.Floor.TheVariants.{At, Done}
use Rattle.fm_core.specs.declared.sight.Sight.{Sight}
use Rattle.fm_core.specs.declared.step.Step.TheVariants.{Look, Pace}
use Rattle.fm_core.specs.declared.tag.Tag.TheVariants.{Drained}

floor_refl : (f : Floor) → floor_le f f ≡ true
floor_refl (At f) = true_from _ (le-ltb f f (omega arith))
floor_refl Done = refl

module _ (g : Setting) (h : State) (valid : ValidSetting g) (ok : Sound g h) where
  -- what one sight of the process i may say
  pub record Good (s i : ℕ) (x : Sight) : Type 0 where
    pub clock : x.clock ≤ bound g h i
    pub ended : x.ended ≡ true → (is_ended (cell h i).tag ≡ true) × (x.clock ≡ (line g.lines i).end)
    pub high : (f : ℕ) → s ≡ 0 → h.floor ≡ At f → x.ended ≡ false → f ≤ x.clock
    pub done : s ≡ 0 → h.floor ≡ Done → x.ended ≡ true

  -- what a sweep may say
  pub record Kept (s : ℕ) (xs : List Sight) : Type 0 where
    pub short : length xs ≤ length h.cells
    pub each : (i : ℕ) → i < length xs → Good s i (sight xs i)

  -- the marks of who was visited may grow by those that have nothing
  pub record Marks (vs : List Bool) : Type 0 where
    pub marked : length vs ≡ length h.cells
    pub kept : (q : ℕ) → visited h q ≡ true → get_or vs q false ≡ true
    pub new : (q : ℕ) → get_or vs q false ≡ true → (visited h q ≡ true) ⊎ (has_nothing (cell h q).tag ≡ true)

  -- marks that stay are marks that may be
  pub same_marks : Marks h.visited
  same_marks = record { marked = ok.marked; kept = λ q e. e; new = λ q e. inl e }

  kept_now : (s : ℕ) → s < length h.desks → Kept s (desk h s).sweep
  kept_now s near = record {
    short = ok.short s near;
    each = λ i there. record {
      clock = ok.seen s i near there;
      ended = ok.seen_ended s i near there;
      high = λ f e at open_there. subst (λ (r : ℕ). f ≤ (sight (desk h r).sweep i).clock) (sym e)
          (ok.swept_high f i at (subst (λ (r : ℕ). i < length (desk h r).sweep) e there)
          (subst (λ (r : ℕ). (sight (desk h r).sweep i).ended ≡ false) e open_there));
      done = λ e at. subst (λ (r : ℕ). (sight (desk h r).sweep i).ended ≡ true) (sym e)
          (ok.done_seen i at (subst (λ (r : ℕ). i < length (desk h r).sweep) e there));
    };
  }

  visited_rest : (vs : List Bool) → Marks vs → (m i q k : ℕ) → h.due ≡ Pair m i → q < length h.cells → get_or vs q false ≡ true
      → (cell h q).taken ≤ k → k < length (line g.lines q).events → NotBelow m i (upper (line g.lines q) k) q
  visited_rest vs w m i q k d near v le less = go (w.new q v)
    where
      nothing : (is_unborn (cell h q).tag ≡ true) ⊎ ((cell h q).tag ≡ Drained) → NotBelow m i (upper (line g.lines q) k) q
      nothing (inl u) = let f = ok.fits q near in let z = f.unborn u in ok.due_rest m i q k d near (omega arith) less
      nothing (inr x) = let f = ok.fits q near in let a = f.drained x in let b = f.whole (ap is_ended x) in absurd (omega arith)

      go : (visited h q ≡ true) ⊎ (has_nothing (cell h q).tag ≡ true) → NotBelow m i (upper (line g.lines q) k) q
      go (inl e) = ok.visited_below m i q k d near e le less
      go (inr e) = nothing (nothing_is (cell h q).tag e)

  visited_whole : (vs : List Bool) → Marks vs → (q : ℕ) → h.due ≡ Everything → q < length h.cells → get_or vs q false ≡ true
      → (cell h q).taken ≡ length (line g.lines q).events
  visited_whole vs w q d near v = go (w.new q v)
    where
      nothing : (is_unborn (cell h q).tag ≡ true) ⊎ ((cell h q).tag ≡ Drained) → (cell h q).taken ≡ length (line g.lines q).events
      nothing (inl u) = absurd (clash _ u (ended_born _ (ok.done q (ok.due_all d) near)))
      nothing (inr x) = let f = ok.fits q near in let a = f.drained x in let b = f.whole (ap is_ended x) in omega arith

      go : (visited h q ≡ true) ⊎ (has_nothing (cell h q).tag ≡ true) → (cell h q).taken ≡ length (line g.lines q).events
      go (inl e) = ok.visited_all q d near e
      go (inr e) = nothing (nothing_is (cell h q).tag e)

  gathered_on : (vs : List Bool) → Marks vs → (q : ℕ) → q < length h.cells
      → length (of_process q h.gather) ≤ (if get_or vs q false then g.room else 0)
  gathered_on vs w q near = go (visited h q) (get_or vs q false) refl refl (ok.gathered q near)
    where
      go : (a b : Bool) → visited h q ≡ a → get_or vs q false ≡ b → length (of_process q h.gather) ≤ (if a then g.room else 0)
          → length (of_process q h.gather) ≤ (if b then g.room else 0)
      go true true e f x = x
      go true false e f x = absurd (clash _ (w.kept q e) f)
      go false true e f x = omega arith
      go false false e f x = x

  -- one desk changes, and marks grow
  pub redesked : (s : ℕ) (d : Desk) (vs : List Bool) → s < length h.desks → Kept s d.sweep → floor_le d.paced h.floor ≡ true → Marks vs
      → Sound g (record {
        cells = h.cells;
        floor = h.floor;
        desks = set h.desks s d;
        due = h.due;
        visited = vs;
        gather = h.gather;
        released = h.released;
      })
  redesked s d vs near w paced marks = record {
    lined = ok.lined;
    marked = marks.marked;
    crew = rw length-set ok.crew;
    root = ok.root;
    short = λ r there. or_set (λ (x : Desk). length x.sweep ≤ length h.cells) h.desks s r d no_desk near (λ _. w.short)
        (λ _. ok.short r (rw length-set at there));
    named = ok.named;
    fits = ok.fits;
    after_all = ok.after_all;
    seated = λ p lt held. rw length-set (ok.seated p lt held);
    alone = ok.alone;
    seen = λ r i there. or_set (λ (x : Desk). i < length x.sweep → (sight x.sweep i).clock ≤ bound g h i) h.desks s r d no_desk near
        (λ _ k. (w.each i k).clock) (λ _. ok.seen r i (rw length-set at there));
    seen_ended = λ r i there. or_set (λ (x : Desk). i < length x.sweep → (sight x.sweep i).ended ≡ true
        → (is_ended (cell h i).tag ≡ true) × ((sight x.sweep i).clock ≡ (line g.lines i).end)) h.desks s r d no_desk near
        (λ _ k. (w.each i k).ended) (λ _. ok.seen_ended r i (rw length-set at there));
    paced = λ r there. or_set (λ (x : Desk). floor_le x.paced h.floor ≡ true) h.desks s r d no_desk near (λ _. paced)
        (λ _. ok.paced r (rw length-set at there));
    floored = ok.floored;
    swept_high = λ f i at. or_set (λ (x : Desk). i < length x.sweep → (sight x.sweep i).ended ≡ false
        → f ≤ (sight x.sweep i).clock) h.desks s 0 d no_desk near (λ e k. (w.each i k).high f (sym e) at) (λ _. ok.swept_high f i at);
    led = ok.led;
    done = ok.done;
    done_seen = λ i at. or_set (λ (x : Desk). i < length x.sweep → (sight x.sweep i).ended ≡ true) h.desks s 0 d no_desk near
        (λ e k. (w.each i k).done (sym e) at) (λ _. ok.done_seen i at);
    due_floor = ok.due_floor;
    due_rest = ok.due_rest;
    due_all = ok.due_all;
    kept = ok.kept;
    not_due = ok.not_due;
    gathered_due = ok.gathered_due;
    gathered = gathered_on vs marks;
    visited_below = visited_rest vs marks;
    visited_all = visited_whole vs marks;
    prefix = ok.prefix;
  }

  -- an allowed pace keeps the state sound
  pub keeps_pace : (s : ℕ) → Allowed g h (Pace s) → Sound g (after g h (Pace s))
  keeps_pace s allowed = let no_test = none_holds (table g h (Pace s)) allowed in let near = ltb-true s _ (not_false _ (no_test 0)) in
      redesked s (record { sweep = (desk h s).sweep; paced = h.floor }) h.visited near (kept_now s near) (floor_refl h.floor) same_marks

  module _ (s u : ℕ) (near : s < length h.desks) (lt : u < length h.cells) where
    abbrev seen : List Sight
    seen = (desk h s).sweep

    abbrev x : Sight
    x = sighted g h seen u

    -- the predecessors of the next process are in the sweep
    module _ (swept_before : (i : ℕ) → i < length (line g.lines u).predecessors
        → get_or (line g.lines u).predecessors i 0 < length seen) where
      unborn_clock : is_unborn (cell h u).tag ≡ true → x.clock ≡ greatest (map (λ q. (sight seen q).clock) (line g.lines u).predecessors)
      unborn_clock e = if_true {A = ℕ} (is_unborn (cell h u).tag)
          (greatest (map (λ q. (sight seen q).clock) (line g.lines u).predecessors)) (cell h u).clock e

      born_clock : is_unborn (cell h u).tag ≡ false → x.clock ≡ (cell h u).clock
      born_clock e = if_false {A = ℕ} (is_unborn (cell h u).tag)
          (greatest (map (λ q. (sight seen q).clock) (line g.lines u).predecessors)) (cell h u).clock e

      early : (b : Bool) → is_unborn (cell h u).tag ≡ b → x.clock ≤ bound g h u
      early true e = let a = unborn_clock e in let b = bound_unborn g h valid.lines u lt e in
          let c = greatest_on (λ q. (sight seen q).clock) (bound g h) (line g.lines u).predecessors
          (λ i there. ok.seen s (get_or (line g.lines u).predecessors i 0) near (swept_before i there)) in omega arith
      early false e = let a = born_clock e in let b = bound_born g h u e in omega arith

      high : (f : ℕ) → s ≡ 0 → h.floor ≡ At f → is_ended (cell h u).tag ≡ false → (b : Bool) → is_unborn (cell h u).tag ≡ b → f ≤ x.clock
      high f z at open_here false e = let a = born_clock e in let b = bound_born g h u e in let c = ok.floored f u at lt open_here in
          omega arith
      high f z at open_here true e = go (any_below (length (line g.lines u).predecessors)
          (λ i. not (sight seen (get_or (line g.lines u).predecessors i 0)).ended)) refl
        where
          go : (b : Bool) → any_below (length (line g.lines u).predecessors)
              (λ i. not (sight seen (get_or (line g.lines u).predecessors i 0)).ended) ≡ b → f ≤ x.clock
          go true k = let r = any_found (length (line g.lines u).predecessors)
              (λ i. not (sight seen (get_or (line g.lines u).predecessors i 0)).ended) k in
              let q : ℕ = get_or (line g.lines u).predecessors r.0 0 in
              let a = ((kept_now s near).each q (swept_before r.0 r.1.below)).high f z at (not_true _ r.1.holds) in
              let b : (sight seen q).clock ≤ greatest (map (λ q. (sight seen q).clock) (line g.lines u).predecessors) =
              greatest_above (λ (y : ℕ). (sight seen y).clock) (line g.lines u).predecessors r.0 r.1.below in
              let c = unborn_clock e in omega arith
          go false k = let a = unborn_clock e in let b = bound_unborn g h valid.lines u lt e in let c = ok.floored f u at lt open_here in
              let d = same_greatest (λ q. (sight seen q).clock) (bound g h) (line g.lines u).predecessors
              (λ i there. let q : ℕ = get_or (line g.lines u).predecessors i 0 in
              let was = not_false _ (none_any (length (line g.lines u).predecessors)
              (λ j. not (sight seen (get_or (line g.lines u).predecessors j 0)).ended) k i there) in
              let two = ok.seen_ended s q near (swept_before i there) was in let low : q < u = valid.lines.below u i 0 there in
              let at_end = (ok.fits q (omega arith)).at_end two.0 in
              let is = bound_born g h q (ended_born _ two.0) in two.1 ∙ (sym at_end ∙ sym is)) in omega arith

      good : Good s u x
      good = record {
        clock = early (is_unborn (cell h u).tag) refl;
        ended = λ e. (e, born_clock (ended_born _ e) ∙ (ok.fits u lt).at_end e);
        high = λ f z at open_here. high f z at open_here (is_unborn (cell h u).tag) refl;
        done = λ z at. ok.done u at lt;
      }

    anew : u ≡ 0 → Kept s (x ∷ [])
    anew z = record {
      short = omega arith;
      each = λ i less. let e : 0 ≡ i = omega arith in subst (λ (j : ℕ). Good s j (sight (x ∷ []) j)) e (subst (λ (j : ℕ). Good s j x) z
          (good (λ i there. let none : (line g.lines u).predecessors ≡ [] = subst (λ (j : ℕ). (line g.lines j).predecessors ≡ [])
          (sym z) valid.lines.root in let k = ap length none in absurd (omega arith))));
    }

    onto : u ≡ length seen → Kept s (seen ++ x ∷ [])
    onto z = let old = kept_now s near in record {
      short = let l = length-append seen (x ∷ []) in omega arith;
      each = λ i less. dite (ℕ_discrete i (length seen))
          (λ e. subst (λ (j : ℕ). Good s j (sight (seen ++ x ∷ []) j)) (sym e)
          (subst (λ (y : Sight). Good s (length seen) y) (sym (get_or-append_seam seen x [] unseen)) (subst (λ (j : ℕ). Good s j x) z
          (good (λ i there. let low = valid.lines.below u i 0 there in omega arith)))))
          (λ d. let here : i < length seen = (let l = length-append seen (x ∷ []) in omega arith) in
          subst (λ (y : Sight). Good s i y) (sym (get_or_append_left seen (x ∷ []) unseen i here)) (old.each i here));
    }

    kept_swept : Kept s (swept seen u x)
    kept_swept = go (nat_eq u 0) (nat_eq u (length seen)) refl refl
      where
        go : (a b : Bool) → nat_eq u 0 ≡ a → nat_eq u (length seen) ≡ b
            → Kept s (if a then x ∷ [] else if b then seen ++ x ∷ [] else seen)
        go true b e f = anew (eqb-true u 0 e)
        go false true e f = onto (eqb-true u (length seen) f)
        go false false e f = kept_now s near

    marks : Marks (visits_by_look h s u)
    marks = go (nat_eq s 0 && has_nothing (cell h u).tag) refl
      where
        go : (b : Bool) → (nat_eq s 0 && has_nothing (cell h u).tag) ≡ b → Marks (if b then set h.visited u true else h.visited)
        go false e = same_marks
        go true e = let there : u < length h.visited = (let m = ok.marked in omega arith) in record {
          marked = length-set h.visited u true ∙ ok.marked;
          kept = λ q v. or_set (λ (b : Bool). b ≡ true) h.visited u q true false there (λ _. refl) (λ _. v);
          new = λ q. or_set (λ (b : Bool). b ≡ true
              → (visited h q ≡ true) ⊎ (has_nothing (cell h q).tag ≡ true)) h.visited u q true false there
              (λ same _. inr (subst (λ (r : ℕ). has_nothing (cell h r).tag ≡ true) (sym same) (both _ _ e).1)) (λ _ v. inl v);
        }

  -- an allowed look keeps the state sound
  pub keeps_look : (s u : ℕ) → Allowed g h (Look s u) → Sound g (after g h (Look s u))
  keeps_look s u allowed = let no_test = none_holds (table g h (Look s u)) allowed in let near = ltb-true s _ (not_false _ (no_test 0)) in
      let lt = ltb-true u _ (not_false _ (no_test 1)) in
      redesked s (record { sweep = swept (desk h s).sweep u (sighted g h (desk h s).sweep u); paced = (desk h s).paced })
      (visits_by_look h s u) near (kept_swept s u near lt) (ok.paced s near) (marks s u near lt)
