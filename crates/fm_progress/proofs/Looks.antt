-- Looks bring a run nearer to its end.
use Rattle.std.proofs.Common.{◌≡◌, ◌≢◌, ◌⊎◌, ℕ, ◌+◌, ◌-◌, ◌<◌, ◌≤◌, List, [], ◌∷◌, ◌++◌, length, get_or, set, Bool, true, false, refl, sym, ap, ◌∙◌, subst, inl, inr, arith, ltb-true, length-append, get_or-set_same, get_or-set_other}
use Rattle.std.proofs.Math.Seq.{get_or-append_seam}
use Rattle.std.proofs.lemmas.Bool.{eqb-true, eq-eqb, le-ltb, lt-ltb}
use Rattle.std.proofs.lemmas.List.{get_or_append_left}
use Rattle.std.specs.Prelude.{not, ◌||◌, nat_eq, nat_lt, if◌then◌else◌, map}
use mathlib.Core.Logic.{dite}
use native.Mathlib.Decide.{ℕ_discrete}
use Rattle.fm_line.specs.Line.{line, greatest}
use Rattle.fm_core.proofs.Below.{found_is, Found, none_any, not_any}
use Rattle.fm_core.proofs.Booleans.{not_false, false_from, either_false, neither, or_left, or_right, or_cases, left_false, not_below, if_true, if_false, bit_one}
use Rattle.fm_core.proofs.Bounds.{bound_born, bound_unborn, same_greatest}
use Rattle.fm_core.proofs.Elements.{or_set}
use Rattle.fm_core.proofs.Reasons.{no_reason}
use Rattle.fm_core.proofs.Sums.{sum_le, sum_less}
use Rattle.fm_core.specs.Effects.{after}
use Rattle.fm_core.specs.Invariant.{ValidSetting, Sound}
use Rattle.fm_core.specs.Numbers.{bit, find_below, any_below, bool_eq}
use Rattle.fm_core.specs.State.{Setting, State, Desk, cell, desk, visited, no_desk}
use Rattle.fm_core.specs.Steps.{Allowed, unvisited, table}
use Rattle.fm_core.specs.Sweep.{sight, unseen, bound, sighted, swept}
use Rattle.fm_core.specs.Tags.{is_unborn, is_ended, is_held, has_nothing}
use Rattle.fm_core.specs.Taking.{is_due}
use Rattle.fm_core.specs.declared.sight.Sight.{Sight}
use Rattle.fm_core.specs.declared.step.Step.TheVariants.{Look}
use Rattle.fm_progress.proofs.Claims.{none_counts}
use Rattle.fm_progress.proofs.Falls.{only_gathered, by_phase, by_lacking, by_looks, phase_due, phase_not_due, lacking_due, lacking_not_due, looks_away_due}
use Rattle.fm_progress.specs.Left.{workable, is_spare, waits_for_visit, stirred, idle, phase, lacking, any_stale, any_stale_in, empty_handed, looks_in, looks_to, stale_in}
use Rattle.fm_progress.specs.Progress.{Nearer}

-- numbers that differ are told apart
pub apart : (a b : ℕ) → a ≢ b → nat_eq a b ≡ false
apart a b n = go (nat_eq a b) refl
  where
    go : (x : Bool) → nat_eq a b ≡ x → nat_eq a b ≡ false
    go true e = absurd (n (eqb-true a b e))
    go false e = e

differ : (a b : ℕ) → nat_eq a b ≡ false → a ≢ b
differ a b e same = let yes_it = eq-eqb a b same in absurd (cc)

positive : (t : ℕ) → t ≢ 0 → 0 < t
positive t n = dite (ℕ_discrete t 0) (λ e. absurd (n e)) (λ d. omega arith)

-- a process that the sweep has not reached is as many looks away as it lacks
pub looks_far : (n t : ℕ) → t ≢ 0 → t + 1 ≢ n → n ≤ t → looks_to n t ≡ t + 1 - n
looks_far n t a b c = if_false {A = ℕ} (nat_eq t 0 || nat_eq (t + 1) n) 1 (if nat_lt t n then t + 1 else t + 1 - n)
    (neither _ _ (apart t 0 a) (apart (t + 1) n b)) ∙ if_false {A = ℕ} (nat_lt t n) (t + 1) (t + 1 - n) (le-ltb t n c)

-- one that the sweep has passed is reached from 0 on
pub looks_back : (n t : ℕ) → t ≢ 0 → t + 1 ≢ n → t < n → looks_to n t ≡ t + 1
looks_back n t a b c = if_false {A = ℕ} (nat_eq t 0 || nat_eq (t + 1) n) 1 (if nat_lt t n then t + 1 else t + 1 - n)
    (neither _ _ (apart t 0 a) (apart (t + 1) n b)) ∙ if_true {A = ℕ} (nat_lt t n) (t + 1) (t + 1 - n) (lt-ltb t n c)

empty_is : (xs : List Sight) → length xs ≡ 0 → xs ≡ []
empty_is [] e = refl
empty_is (x ∷ xs) e = absurd (omega arith)

-- the next process is in turn
pub turn_next : (n : ℕ) → (nat_eq n 0 || nat_eq n n || nat_eq (n + 1) n) ≡ true
turn_next n = or_left (nat_eq n 0 || nat_eq n n) (nat_eq (n + 1) n) (or_right (nat_eq n 0) (nat_eq n n) (eq-eqb n n refl))

-- a look at the next process extends the sweep
pub swept_next : (seen : List Sight) (x : Sight) → swept seen (length seen) x ≡ seen ++ x ∷ []
swept_next seen x = go (nat_eq (length seen) 0) refl
  where
    go : (b : Bool) → nat_eq (length seen) 0 ≡ b
        → (if b then x ∷ [] else if nat_eq (length seen) (length seen) then seen ++ x ∷ [] else seen) ≡ seen ++ x ∷ []
    go true e = ap (λ (xs : List Sight). xs ++ x ∷ []) (sym (empty_is seen (eqb-true (length seen) 0 e)))
    go false e = if_true (nat_eq (length seen) (length seen)) (seen ++ x ∷ []) seen (eq-eqb (length seen) (length seen) refl)

module _ (g : Setting) (h : State) (valid : ValidSetting g) (ok : Sound g h) (none_lowers : idle g h ≡ 1) (none_held : (p : ℕ)
    → p < length h.cells → is_held (cell h p).tag ≡ false) where
  abbrev seen : List Sight
  seen = (desk h 0).sweep

  abbrev at : ℕ → State
  at u = after g h (Look 0 u)

  look_allowed : (u : ℕ) → u < length h.cells → (nat_eq u 0 || nat_eq u (length seen) || nat_eq (u + 1) (length seen)) ≡ true
      → Allowed g h (Look 0 u)
  look_allowed u lt turn = no_reason (table g h (Look 0 u)) (
    false_from _ (lt-ltb _ _ ok.crew),
    (false_from _ (lt-ltb _ _ lt), (false_from _ turn, tt)),
  )

  sweep_is : (u : ℕ) → (desk (at u) 0).sweep ≡ swept seen u (sighted g h seen u)
  sweep_is u = ap (λ (d : Desk). d.sweep)
      (get_or-set_same h.desks 0 (record { sweep = swept seen u (sighted g h seen u); paced = (desk h 0).paced }) no_desk ok.crew)

  visit_other : (u q : ℕ) → q ≢ u → visited (at u) q ≡ visited h q
  visit_other u q n = go (has_nothing (cell h u).tag)
    where
      go : (b : Bool) → get_or (if b then set h.visited u true else h.visited) q false ≡ get_or h.visited q false
      go true = get_or-set_other h.visited u q true false n
      go false = refl

  visit_kept : (u q : ℕ) → u < length h.cells → visited h q ≡ true → visited (at u) q ≡ true
  visit_kept u q lt e = go (has_nothing (cell h u).tag)
    where
      go : (b : Bool) → get_or (if b then set h.visited u true else h.visited) q false ≡ true
      go true = or_set (λ (b : Bool). b ≡ true) h.visited u q true false (let m = ok.marked in omega arith) (λ _. refl) (λ _. e)
      go false = e

  visit_here : (u : ℕ) → u < length h.cells → has_nothing (cell h u).tag ≡ true → visited (at u) u ≡ true
  visit_here u lt e = ap (λ (vs : List Bool). get_or vs u false) (if_true (has_nothing (cell h u).tag) (set h.visited u true) h.visited e)
      ∙ get_or-set_same h.visited u true false (let m = ok.marked in omega arith)

  fewer : (u q : ℕ) → u < length h.cells → bit (unvisited (at u) q) ≤ bit (unvisited h q)
  fewer u q lt = go (visited h q) (visited (at u) q) (λ e. visit_kept u q lt e)
    where
      go : (a b : Bool) → (a ≡ true → b ≡ true) → bit (not b) ≤ bit (not a)
      go true b f = rw (f refl) (omega arith)
      go false b f = bit_one (not b)

  none_spare : empty_handed h ≡ 1
  none_spare = ap (λ (b : Bool). bit (not b))
      (not_any (length h.cells) (is_spare h) (λ q near. left_false _ _ (left_false _ _ (none_held q near))))

  module _ (due : is_due h.due ≡ true) (none_works : (q : ℕ) → q < length h.cells → workable g h q ≡ false) (none_waits : (q : ℕ)
      → q < length h.cells → waits_for_visit g h q ≡ false) where
    still : (u : ℕ) → stirred g h ≡ true → stirred g (at u) ≡ true
    still u e = or_right (any_below (length h.cells) (workable g (at u)) || any_below (length h.cells) (waits_for_visit g (at u)))
        (nat_lt 0 (length h.gather)) (only_gathered g h none_works none_waits e)

    lacks_no_more : (u : ℕ) → u < length h.cells → lacking (at u) ≤ lacking h
    lacks_no_more u lt = let x = lacking_due (at u) due in let y = lacking_due h due in
        let z = sum_le (length h.cells) (λ q. bit (unvisited (at u) q)) (λ q. bit (unvisited h q)) (λ q near. fewer u q lt) in omega arith

    -- a look that visits
    pub direct_nearer : (t : ℕ) → t < length h.cells → unvisited h t ≡ true → has_nothing (cell h t).tag ≡ true
        → (nat_eq t 0 || nat_eq t (length seen) || nat_eq (t + 1) (length seen)) ≡ true → Nearer g h (Look 0 t)
    direct_nearer t lt new nothing turn = record {
      allowed = look_allowed t lt turn;
      less = by_lacking g h (at t) (omega arith) none_lowers (none_counts g h valid ok none_lowers none_held (at t) refl)
          (phase_due g h (at t) due due (still t))
          (let x = lacking_due (at t) due in let y = lacking_due h due in let was : bit (unvisited h t) ≡ 1 = ap bit new in
          let is : bit (unvisited (at t) t) ≡ 0 = ap bit (false_from _ (visit_here t lt nothing)) in
          let z = sum_less (length h.cells) t (λ q. bit (unvisited (at t) q)) (λ q. bit (unvisited h q)) (λ q near. fewer t q lt) lt
          (omega arith) in omega arith);
    }

    -- a look that comes nearer to the least unvisited process
    pub toward_nearer : (t u : ℕ) → Found (length h.cells) (unvisited h) t → u < t
        → (nat_eq u 0 || nat_eq u (length seen) || nat_eq (u + 1) (length seen)) ≡ true
        → looks_to (length (swept seen u (sighted g h seen u))) t < looks_to (length seen) t → Nearer g h (Look 0 u)
    toward_nearer t u r before_it turn nearer = let low = r.below in let lt : u < length h.cells = omega arith in record {
      allowed = look_allowed u lt turn;
      less = by_looks g h (at u) (omega arith) none_lowers (none_counts g h valid ok none_lowers none_held (at u) refl)
          (phase_due g h (at u) due due (still u)) (lacks_no_more u lt)
          (let a = none_spare in let b : empty_handed (at u) ≤ 1 = bit_one _ in omega arith)
          (let x = looks_away_due (at u) due in let y = looks_away_due h due in
          let was : looks_in (desk h 0).sweep (find_below (length h.cells) (unvisited h)) ≡ looks_to (length seen) t =
          ap (looks_in seen) (found_is (length h.cells) (unvisited h) t r) in
          let is : looks_in (desk (at u) 0).sweep (find_below (length h.cells) (unvisited (at u))) ≡ looks_to
          (length (swept seen u (sighted g h seen u))) t = ap (looks_in (desk (at u) 0).sweep)
          (found_is (length h.cells) (unvisited (at u)) t (same_least lt))
          ∙ ap (λ (s : List Sight). looks_to (length s) t) (sweep_is u) in
          omega arith);
    }
      where
        same_least : u < length h.cells → Found (length h.cells) (unvisited (at u)) t
        same_least lt = record {
          below = r.below;
          holds = ap not (visit_other u t (λ e. absurd (omega arith))) ∙ r.holds;
          least = λ q less. false_from _ (visit_kept u q lt (not_false _ (r.least q less)));
        }

    -- the look that is to be made
    pub visits_nearer : (t : ℕ) → Found (length h.cells) (unvisited h) t → has_nothing (cell h t).tag ≡ true → (b c : Bool)
        → (nat_eq t 0 || nat_eq (t + 1) (length seen)) ≡ b → nat_lt t (length seen) ≡ c
        → Nearer g h (if b then Look 0 t else if c then Look 0 0 else Look 0 (length seen))
    visits_nearer t r nothing true c e f = direct_nearer t r.below r.holds nothing (turn (or_cases _ _ e))
      where
        turn : (nat_eq t 0 ≡ true) ⊎ (nat_eq (t + 1) (length seen) ≡ true)
            → (nat_eq t 0 || nat_eq t (length seen) || nat_eq (t + 1) (length seen)) ≡ true
        turn (inl x) = or_left _ _ (or_left _ _ x)
        turn (inr x) = or_right _ _ x
    visits_nearer t r nothing false true e f = let two = either_false _ _ e in let a = differ t 0 two.0 in
        let b = differ (t + 1) (length seen) two.1 in let lt = ltb-true t (length seen) f in let some : 0 < t = positive t a in
        toward_nearer t 0 r some refl (let x = looks_back (length seen) t a b lt in let y = looks_far 1 t a (λ k. a (omega arith)) some in
        omega arith)
    visits_nearer t r nothing false false e f = let two = either_false _ _ e in let a = differ t 0 two.0 in
        let b = differ (t + 1) (length seen) two.1 in let le = not_below t (length seen) f in
        dite (ℕ_discrete t (length seen))
        (λ (same : t ≡ length seen). subst (λ (u : ℕ). Nearer g h (Look 0 u)) same
        (direct_nearer t r.below r.holds nothing (or_left _ _ (or_right _ _ (eq-eqb _ _ same)))))
        (λ d. let far : length seen < t = omega arith in toward_nearer t (length seen) r far (turn_next (length seen))
        (let z = ap length (swept_next seen (sighted g h seen (length seen))) in
        let w = length-append seen (sighted g h seen (length seen) ∷ []) in
        let long : length (swept seen (length seen) (sighted g h seen (length seen))) ≡ length seen + 1 = omega arith in
        let x = looks_far (length seen) t a b le in
        let y : looks_to (length (swept seen (length seen) (sighted g h seen (length seen)))) t ≡ t + 1 - (length seen + 1) =
        ap (λ (n : ℕ). looks_to n t) long ∙ looks_far (length seen + 1) t a (λ k. d (omega arith)) (omega arith) in omega arith))

  module _ (none_due : is_due h.due ≡ false) where
    phase_stale : any_stale g h ≡ true → phase g h ≡ 2
    phase_stale e = phase_not_due g h none_due ∙ if_true {A = ℕ} (any_stale g h) 2 1 e

    phase_fresh : (k : State) → is_due k.due ≡ false → any_stale g k ≡ false → phase g k ≡ 1
    phase_fresh k d e = phase_not_due g k d ∙ if_false {A = ℕ} (any_stale g k) 2 1 e

    -- what a look enters is so
    fresh_look : (u : ℕ) → u < length h.cells
        → ((i : ℕ) → i < length (line g.lines u).predecessors
        → (sight seen (get_or (line g.lines u).predecessors i 0)).clock ≡ bound g h (get_or (line g.lines u).predecessors i 0))
        → (not (nat_eq (sighted g h seen u).clock (bound g h u)) || not (bool_eq (sighted g h seen u).ended (is_ended (cell h u).tag)))
        ≡ false
    fresh_look u lt early = neither _ _ (false_from _ (eq-eqb _ _ (go (is_unborn (cell h u).tag) refl)))
        (false_from _ (reflexive (is_ended (cell h u).tag)))
      where
        reflexive : (b : Bool) → bool_eq b b ≡ true
        reflexive true = refl
        reflexive false = refl

        go : (b : Bool) → is_unborn (cell h u).tag ≡ b
            → (if is_unborn (cell h u).tag then greatest (map (λ q. (sight seen q).clock) (line g.lines u).predecessors)
            else (cell h u).clock) ≡ bound g h u
        go true e = if_true {A = ℕ} (is_unborn (cell h u).tag) (greatest (map (λ q. (sight seen q).clock) (line g.lines u).predecessors))
            (cell h u).clock e
            ∙ (same_greatest (λ q. (sight seen q).clock) (bound g h) (line g.lines u).predecessors early
            ∙ sym (bound_unborn g h valid.lines u lt e))
        go false e = if_false {A = ℕ} (is_unborn (cell h u).tag)
            (greatest (map (λ q. (sight seen q).clock) (line g.lines u).predecessors)) (cell h u).clock e ∙ sym (bound_born g h u e)

    -- a sweep that is not fresh is begun anew
    pub anew_nearer : 0 < length h.cells → any_stale g h ≡ true → Nearer g h (Look 0 0)
    anew_nearer some stale = record {
      allowed = look_allowed 0 some refl;
      less = by_phase g h (at 0) (omega arith) none_lowers (none_counts g h valid ok none_lowers none_held (at 0) refl)
          (let a = phase_stale stale in let b = phase_fresh (at 0) none_due (ap (any_stale_in g h) (sweep_is 0)
          ∙ not_any 1 (stale_in g h (sighted g h seen 0 ∷ [])) only) in omega arith);
    }
      where
        only : (q : ℕ) → q < 1 → stale_in g h (sighted g h seen 0 ∷ []) q ≡ false
        only q lt = let z : 0 ≡ q = omega arith in subst (λ (r : ℕ). stale_in g h (sighted g h seen 0 ∷ []) r ≡ false) z
            (fresh_look 0 some (λ i less. let none : length (line g.lines 0).predecessors ≡ 0 = ap length valid.lines.root in
            absurd (omega arith)))

    -- a fresh sweep goes on
    pub on_nearer : length seen < length h.cells → any_stale g h ≡ false → Nearer g h (Look 0 (length seen))
    on_nearer short fresh = record {
      allowed = look_allowed (length seen) short (turn_next (length seen));
      less = by_lacking g h (at (length seen)) (omega arith) none_lowers
          (none_counts g h valid ok none_lowers none_held (at (length seen)) refl)
          (let a = phase_fresh h none_due fresh in
          let b = phase_fresh (at (length seen)) none_due (ap (any_stale_in g h) whole
          ∙ not_any (length (seen ++ sighted g h seen (length seen) ∷ []))
          (stale_in g h (seen ++ sighted g h seen (length seen) ∷ [])) each) in omega arith)
          (let a = lacking_not_due h none_due in let b = lacking_not_due (at (length seen)) none_due in let c = ap length whole in
          let d = length-append seen (sighted g h seen (length seen) ∷ []) in omega arith);
    }
      where
        whole : (desk (at (length seen)) 0).sweep ≡ seen ++ sighted g h seen (length seen) ∷ []
        whole = sweep_is (length seen) ∙ swept_next seen (sighted g h seen (length seen))

        old : (i : ℕ) → i < length seen → (sight seen i).clock ≡ bound g h i
        old i lt = eqb-true _ _ (not_false _ (either_false _ _ (none_any (length seen) (stale_in g h seen) fresh i lt)).0)

        each : (q : ℕ) → q < length (seen ++ sighted g h seen (length seen) ∷ [])
            → stale_in g h (seen ++ sighted g h seen (length seen) ∷ []) q ≡ false
        each q lt = dite (ℕ_discrete q (length seen))
            (λ (e : q ≡ length seen). subst (λ (r : ℕ). stale_in g h (seen ++ sighted g h seen (length seen) ∷ []) r ≡ false) (sym e)
            (ap (λ (s : Sight). not (nat_eq s.clock (bound g h (length seen)))
            || not (bool_eq s.ended (is_ended (cell h (length seen)).tag)))
            (get_or-append_seam seen (sighted g h seen (length seen)) [] unseen)
            ∙ fresh_look (length seen) short (λ i near. old (get_or (line g.lines (length seen)).predecessors i 0)
            (valid.lines.below (length seen) i 0 near))))
            (λ d. let near : q < length seen = (let l = length-append seen (sighted g h seen (length seen) ∷ []) in omega arith) in
            ap (λ (s : Sight). not (nat_eq s.clock (bound g h q)) || not (bool_eq s.ended (is_ended (cell h q).tag)))
            (get_or_append_left seen (sighted g h seen (length seen) ∷ []) unseen q near)
            ∙ none_any (length seen) (stale_in g h seen) fresh q near)
