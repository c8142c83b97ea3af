-- Where processes start and end: in levels of the plan, within the limits.
use Rattle.std.proofs.Common.{◌≡◌, refl, sym, ◌∙◌, ap, subst, arith, ℕ, zero, suc, ◌+◌, ◌-◌, ◌<◌, ◌≤◌, List, [], ◌∷◌, ◌++◌, length, map, reverse, Bool, true, false, ◌&&◌, nat_lt, nat_le, nat_eq, if◌then◌else◌, Option, Some, None, slice_get, slice_index_or, length-append}
use Rattle.std.specs.List.{list_all}
use Rattle.std.specs.Option.{option_map}
use Rattle.std.proofs.lemmas.List.{reverse-append, length-map}
use Rattle.fm_tick.specs.declared.tick.TheConstants.{MAX_TICK}
use Rattle.fm_warp.specs.declared.part.Part.{Part}
use Rattle.fm_line.specs.Marks.{Mark}
use Rattle.fm_line.specs.Validity.{each_below, all_once}
use Rattle.fm_nest.specs.declared.nest.TheConstants.{MAX_LEVELS}
use Rattle.fm_program.specs.declared.op.Op.{Op}
use Rattle.fm_program.specs.declared.op.Op.TheVariants as op
use Rattle.fm_program.specs.declared.plan.TheConstants.{MAX_STEPS}
use Rattle.fm_program.specs.Parts.{StockParts, PlanParts, process_program}
use Rattle.fm_program.specs.Action.{Action, action_of, amount_of, duration_of, parts_at, repeats_of, scope_at}
use Rattle.fm_program.specs.State.{OpenFrame, counting, cycling, OpenLevel, Standing, repeats_drawn}
use Rattle.fm_program.specs.Needs.{levels_hold}
use Rattle.fm_program.specs.Run.{Stepped, over, stuck, done, step, step_from, step_at, program_run, loop_opened, round_over, frame_closed, level_closed}
use Rattle.fm_program.specs.Process.{Played, Spot, outset, start_spot, end_spot, spot_reached, levels_opened, plan_played, process_run}
use Rattle.fm_program.specs.Fit.{PartsFit, ends_in, joins, same_numbers}
use Rattle.fm_player.specs.Course.{begun, code_of, standing, steps_of}
use Rattle.fm_player.specs.Player.{left_by}
use Rattle.fm_player.proofs.FrameLemmas.{false_true}
use Rattle.fm_player.proofs.StockLemmas.{below_of, both, equal_of, list_all-at}
use Rattle.fm_player.proofs.TimeLemmas.{held_of}
use Rattle.fm_player.proofs.DrawLemmas.{number-kept, duration-kept, repeats-kept}
use Rattle.fm_player.proofs.NoteLemmas.{note-kept}
use Rattle.fm_player.proofs.RunLemmas.{Goes, cut-next, follows, goes, op-goes, quiet, sounds, stops}
use Rattle.fm_player.proofs.CourseLemmas.{advances, get-action, over-left, process-as, process-ends}

-- ---- levels of the plan

-- levels play the deformations that they name
abbrev pub AreOf : StockParts → List OpenLevel → Type 0
AreOf t [] = Unit {0}
AreOf t (l ∷ ls) = (l.parts ≡ parts_at t l.warp) × AreOf t ls

-- a state in levels of the plan, not too many, with its position within the limit
pub record Sound (t : StockParts) (w : Standing) : Type 0 where
  pub of : AreOf t w.levels
  pub few : length w.levels ≤ MAX_LEVELS
  pub hold : levels_hold w.levels w.position ≡ true

of-round : (t : StockParts) (back : ℕ) (w : Standing) (fs : List OpenFrame) → AreOf t w.levels → AreOf t (round_over back w fs).levels
of-round t back w [] is = is
of-round t back w (cycling es c ∷ fs) is = is
of-round t back w (counting i zero b ∷ fs) is = is
of-round t back w (counting i (suc n) b ∷ fs) is = is

of-closed : (t : StockParts) (w : Standing) (fs : List OpenFrame) → AreOf t w.levels → AreOf t (frame_closed w fs).levels
of-closed t w [] is = is
of-closed t w (f ∷ fs) is = is

of-left : (t : StockParts) (w : Standing) (ls : List OpenLevel) → AreOf t w.levels → AreOf t ls → AreOf t (level_closed w ls).levels
of-left t w [] is same = is
of-left t w (l ∷ ls) is same = same.1

of-loop : (t : StockParts) (n past : ℕ) (w : Standing) → AreOf t w.levels → AreOf t (loop_opened n past w).levels
of-loop t zero past w is = is
of-loop t (suc n) past w is = is

-- an operation of the plan opens levels of the plan alone
of-done : (t : StockParts) (o : Op) (w : Standing) → AreOf t w.levels → AreOf t (left_by (done (action_of t o) w) w).levels
of-done t (op.Note chord span ch gate loud scope) w is = subst (AreOf t) (sym (note-kept t chord span gate loud scope w).levels) is
of-done t (op.Rest span scope) w is = subst (AreOf t) (sym (duration-kept (duration_of t span) (scope_at t scope) w).levels) is
of-done t (op.Send pt ch x scope) w is = subst (AreOf t) (sym (number-kept (amount_of t x) (scope_at t scope) w).levels) is
of-done t (op.Set r e scope) w is = is
of-done t (op.Test e scope past) w is = is
of-done t (op.Jump to) w is = is
of-done t (op.Loop n scope past) w is =
    of-loop t (repeats_drawn (repeats_of t n) (scope_at t scope) w).value past (repeats_drawn (repeats_of t n) (scope_at t scope) w).after
    (subst (AreOf t) (sym (repeats-kept (repeats_of t n) (scope_at t scope) w).levels) is)
of-done t (op.Again back) w is = of-round t back w w.frames is
of-done t (op.Begin l) w is = is
of-done t op.Close w is = of-closed t w w.frames is
of-done t (op.Enter v) w is = (refl, is)
of-done t op.Leave w is = of-left t w w.levels is is

-- a step leaves a sound state
step-sound : (p : PlanParts) (j : ℕ) (w : Standing) → Sound p.stock w → (step (code_of p j) w ≡ over → ⊥)
    → (step (code_of p j) w ≡ stuck → ⊥) → Sound p.stock (left_by (step (code_of p j) w) w)
step-sound p j w sound lives goes-on = at w.due refl
  where
    found : w.due ≡ [] → (o : Option Op) → slice_get (process_program p j).ops w.operation ≡ o
        → Sound p.stock (left_by (step (code_of p j) w) w)
    found due None none =
        absurd (lives (ap (step_from (code_of p j) w) due
        ∙ ap (λ (a : Option Action). step_at a w) (get-action p.stock (process_program p j).ops w.operation
        ∙ ap (option_map (action_of p.stock)) none)))
    found due (Some o) is =
        let made : step (code_of p j) w ≡ step_at (Some (action_of p.stock o)) w =
        ap (step_from (code_of p j) w) due
        ∙ ap (λ (a : Option Action). step_at a w)
        (get-action p.stock (process_program p j).ops w.operation ∙ ap (option_map (action_of p.stock)) is) in
        let can = op-goes (action_of p.stock o) w (λ bad. goes-on (made ∙ bad)) in
        subst (λ (x : Stepped). Sound p.stock (left_by x w)) (sym (made ∙ can.is))
        (let held = held_of (left_by (done (action_of p.stock o) w) w) can.within in
        record { of = of-done p.stock o w sound.of; few = held.levels; hold = held.position })

    at : (ms : List Mark) → w.due ≡ ms → Sound p.stock (left_by (step (code_of p j) w) w)
    at (m ∷ ms) due =
        subst (λ (x : Stepped). Sound p.stock (left_by x w)) (sym (ap (step_from (code_of p j) w) due))
        (record { of = sound.of; few = sound.few; hold = sound.hold })
    at [] due = found due (slice_get (process_program p j).ops w.operation) refl

-- a process that starts in a sound state stays sound
pub sound-standing : (p : PlanParts) (j n : ℕ) → PartsFit p → j < length p.programs → n ≤ steps_of p j → Sound p.stock (begun p j)
    → Sound p.stock (standing p j n)
sound-standing p j zero fits below within start = start
sound-standing p j (suc n) fits below within start =
    let before = sound-standing p j n fits below (omega arith) start in
    let lives : step (code_of p j) (standing p j n) ≡ over → ⊥ = λ ended.
    (let gone : n ≡ steps_of p j = (over-left p j n fits below (omega arith) ended).0 in omega arith) in
    subst (Sound p.stock) (sym (cut-next (code_of p j) n (begun p j)))
    (step-sound p j (standing p j n) before lives (advances p j n fits below (omega arith) lives).stays)

-- the last state of a run is that after all its steps
pub last-standing : (p : PlanParts) (j : ℕ) → PartsFit p → j < length p.programs
    → (process_run p j).run.last ≡ standing p j (steps_of p j)
last-standing p j fits below =
    let so = follows (code_of p j) MAX_STEPS (steps_of p j) (steps_of p j) (begun p j) (process-ends p j fits below) (omega arith) in
    ap (λ r. r.last) (process-as p j below).run
    ∙ sym so.last
    ∙ at (goes (code_of p j) (MAX_STEPS - steps_of p j) (steps_of p j - steps_of p j) (standing p j (steps_of p j)) so.ends)
  where
    at : Goes (code_of p j) (MAX_STEPS - steps_of p j) (steps_of p j - steps_of p j) (standing p j (steps_of p j))
        → (program_run (code_of p j) (MAX_STEPS - steps_of p j) (standing p j (steps_of p j))).last ≡ standing p j (steps_of p j)
    at (stops none is marks last) = last
    at (quiet k n t kk ss is ends marks last) = absurd (omega arith)
    at (sounds k n m t kk ss is ends marks last) = absurd (omega arith)

-- ---- starts

-- equal numbers
pub same-of : (xs ys : List ℕ) → same_numbers xs ys ≡ true → xs ≡ ys
same-of [] [] is = refl
same-of [] (y ∷ ys) is = absurd (false_true is)
same-of (x ∷ xs) [] is = absurd (false_true is)
same-of (x ∷ xs) (y ∷ ys) is =
    let split = both (nat_eq x y) (same_numbers xs ys) is in
    ap (λ (z : ℕ). z ∷ xs) (equal_of x y split.0) ∙ ap (λ (zs : List ℕ). y ∷ zs) (same-of xs ys split.1)

-- a level more that is opened
opened-last : (t : StockParts) (ws os : List ℕ) (v o : ℕ) (ls : List OpenLevel) → length ws ≡ length os
    → levels_opened t (ws ++ v ∷ []) (os ++ o ∷ []) ls
    ≡ record { warp = v; parts = parts_at t v; origin = o } ∷ levels_opened t ws os ls
opened-last t [] [] v o ls same = refl
opened-last t [] (x ∷ os) v o ls same = absurd (omega arith)
opened-last t (w ∷ ws) [] v o ls same = absurd (omega arith)
opened-last t (w ∷ ws) (x ∷ os) v o ls same =
    opened-last t ws os v o (record { warp = w; parts = parts_at t w; origin = x } ∷ ls) (omega arith)

reverse-length : (xs : List ℕ) → length (reverse xs) ≡ length xs
reverse-length [] = refl
reverse-length (x ∷ xs) =
    ap length (reverse-append (x ∷ []) xs) ∙ length-append (reverse xs) (x ∷ [])
    ∙ (let is : length (reverse xs) + 1 ≡ suc (length xs) = omega (arith, reverse-length xs) in is)

-- levels of the plan are those that are opened anew
pub reopened : (t : StockParts) (ls : List OpenLevel) → AreOf t ls
    → levels_opened t (reverse (map (λ l. l.warp) ls)) (reverse (map (λ l. l.origin) ls)) [] ≡ ls
reopened t [] is = refl
reopened t (l ∷ ls) is =
    ap (λ (ws : List ℕ). levels_opened t ws (reverse (map (λ l. l.origin) (l ∷ ls))) [])
    (reverse-append (l.warp ∷ []) (map (λ l. l.warp) ls))
    ∙ ap (λ (os : List ℕ). levels_opened t (reverse (map (λ l. l.warp) ls) ++ l.warp ∷ []) os [])
    (reverse-append (l.origin ∷ []) (map (λ l. l.origin) ls))
    ∙ opened-last t (reverse (map (λ l. l.warp) ls)) (reverse (map (λ l. l.origin) ls)) l.warp l.origin []
    (reverse-length (map (λ l. l.warp) ls) ∙ length-map ls (λ l. l.warp)
    ∙ sym (reverse-length (map (λ l. l.origin) ls) ∙ length-map ls (λ l. l.origin)))
    ∙ ap (λ (ps : List Part). record { warp = l.warp; parts = ps; origin = l.origin }
    ∷ levels_opened t (reverse (map (λ l. l.warp) ls)) (reverse (map (λ l. l.origin) ls)) []) (sym is.0)
    ∙ ap (λ (ks : List OpenLevel). l ∷ ks) (reopened t ls is.1)

-- the end of one of the processes is where they meet
pub record Latest (played : List Played) (js : List ℕ) : Type 0 where
  pub at : ℕ
  pub within : at < length js
  pub is : start_spot played js ≡ end_spot played (slice_index_or js at 0)

latest : (played : List Played) (js : List ℕ) → 0 < length js → Latest played js
latest played [] some = absurd (omega arith)
latest played (j ∷ []) some = record {
  at = 0;
  within = omega arith;
  is = ap (λ (b : Bool). if b then start_spot played [] else end_spot played j) (never (end_spot played j).position);
}
  where
    never : (x : ℕ) → nat_lt x 0 ≡ false
    never x = grind arith
latest played (j ∷ k ∷ ks) some = at (nat_lt (end_spot played j).position (start_spot played (k ∷ ks)).position) refl
    (latest played (k ∷ ks) (omega arith))
  where
    at : (b : Bool) → nat_lt (end_spot played j).position (start_spot played (k ∷ ks)).position ≡ b → Latest played (k ∷ ks)
        → Latest played (j ∷ k ∷ ks)
    at true is later = record {
      at = suc later.at;
      within = omega (arith, later.within);
      is = ap (λ (b : Bool). if b then start_spot played (k ∷ ks) else end_spot played j) is ∙ later.is;
    }
    at false is later = record {
      at = 0;
      within = omega arith;
      is = ap (λ (b : Bool). if b then start_spot played (k ∷ ks) else end_spot played j) is;
    }

each-at : (n : ℕ) (f : ℕ → Bool) (k : ℕ) → each_below n f ≡ true → k < n → f k ≡ true
each-at zero f k all below = absurd (omega arith)
each-at (suc n) f k all below = at (each-at n f k) (nat_eq k n) refl
  where
    at : (each_below n f ≡ true → k < n → f k ≡ true) → (b : Bool) → nat_eq k n ≡ b → f k ≡ true
    at later true is = subst (λ (i : ℕ). f i ≡ true) (sym (equal_of k n is)) (both (each_below n f) (f n) all).1
    at later false is = later (both (each_below n f) (f n) all).0 (let apart : k ≡ n → ⊥ = grind arith in grind arith)

-- what each process waits for
pub record Waits (p : PlanParts) (j : ℕ) : Type 0 where
  pub first : j ≡ 0 → (process_program p j).predecessors ≡ []
  pub some : 0 < j → 0 < length (process_program p j).predecessors
  pub below : list_all (λ q. nat_lt q j) (process_program p j).predecessors ≡ true
  pub once : all_once (process_program p j).predecessors ≡ true
  pub ends : list_all (λ q. ends_in (process_program p j).levels (process_run p j).start.origins (process_run p q))
      (process_program p j).predecessors ≡ true

pub waits : (p : PlanParts) (j : ℕ) → PartsFit p → j < length p.programs → Waits p j
waits p j fits below =
    let ws = (process_program p j).predecessors in
    let c0 = if nat_eq j 0 then nat_eq (length ws) 0 else nat_lt 0 (length ws) in
    let c1 = list_all (λ q. nat_lt q j) ws in
    let c2 = all_once ws in
    let c3 = list_all (λ q. ends_in (process_program p j).levels (process_run p j).start.origins (process_run p q)) ws in
    let all = each-at (length p.programs) (joins p) j fits.joins below in
    let a = both (c0 && c1 && c2) c3 all in
    let b = both (c0 && c1) c2 a.0 in
    let c = both c0 c1 b.0 in
    record {
      first = λ zero_is. none ws (length ws) refl (equal_of (length ws) 0
          (sym (ap (λ (b : Bool). if b then nat_eq (length ws) 0 else nat_lt 0 (length ws))
          (let is : nat_eq j 0 ≡ true = grind (arith, zero_is) in is)) ∙ c.0));
      some = λ more. below_of 0 (length ws)
          (sym (ap (λ (b : Bool). if b then nat_eq (length ws) 0 else nat_lt 0 (length ws))
          (let is : nat_eq j 0 ≡ false = grind (arith, more) in is)) ∙ c.0);
      below = c.1;
      once = b.1;
      ends = a.1;
    }
  where
    none : (xs : List ℕ) (n : ℕ) → n ≡ length xs → n ≡ 0 → xs ≡ []
    none [] n is zero_is = refl
    none (x ∷ xs) n is zero_is = absurd (omega arith)

-- a process starts as one of those that it waits for ended
pub record StartsAs (p : PlanParts) (j : ℕ) : Type 0 where
  pub before : ℕ
  pub less : before < j
  pub start : (process_run p j).start ≡ spot_reached (process_run p before).run.last
  pub warps : reverse (map (λ l. l.warp) (process_run p before).run.last.levels) ≡ (process_program p j).levels

pub starts-as : (p : PlanParts) (j : ℕ) → PartsFit p → j < length p.programs → 0 < j → StartsAs p j
starts-as p j fits below more =
    let w = waits p j fits below in
    let ws = (process_program p j).predecessors in
    let l = latest (plan_played p) ws (w.some more) in
    let q = slice_index_or ws l.at 0 in
    let ends = list_all-at (λ q. ends_in (process_program p j).levels (process_run p j).start.origins (process_run p q)) ws l.at 0
    w.ends l.within in
    record {
      before = q;
      less = below_of q j (list_all-at (λ q. nat_lt q j) ws l.at 0 w.below l.within);
      start = (process-as p j below).start w.below ∙ l.is;
      warps = same-of _ _ (both (same_numbers (reverse (map (λ l. l.warp) (process_run p q).run.last.levels)) (process_program p j).levels)
          (same_numbers (spot_reached (process_run p q).run.last).origins (process_run p j).start.origins) ends).0;
    }

-- the first process starts at the outset
pub first-start : (p : PlanParts) → PartsFit p → (process_run p 0).start ≡ outset
first-start p fits =
    let w = waits p 0 fits fits.some in
    (process-as p 0 fits.some).start w.below ∙ ap (start_spot (plan_played p)) (w.first refl)

-- the levels in which a process begins
pub begun-levels : (p : PlanParts) (j : ℕ) (s : StartsAs p j) → AreOf p.stock (process_run p s.before).run.last.levels
    → (begun p j).levels ≡ (process_run p s.before).run.last.levels
begun-levels p j s is =
    ap (λ (ws : List ℕ). levels_opened p.stock ws (process_run p j).start.origins []) (sym s.warps)
    ∙ ap (λ (x : Spot). levels_opened p.stock (reverse (map (λ l. l.warp) (process_run p s.before).run.last.levels)) x.origins []) s.start
    ∙ reopened p.stock (process_run p s.before).run.last.levels is

-- every process begins in a sound state: those below a number
sound-below : (p : PlanParts) (m : ℕ) → PartsFit p → (j : ℕ) → j < m → j < length p.programs → Sound p.stock (begun p j)
sound-below p zero fits j less below = absurd (omega arith)
sound-below p (suc m) fits zero less below =
    let none : (begun p 0).levels ≡ [] =
    ap (λ (ws : List ℕ). levels_opened p.stock ws (process_run p 0).start.origins []) fits.root in
    let position : (begun p 0).position ≡ 0 = ap (λ (x : Spot). x.position) (first-start p fits) in
    record {
      of = subst (AreOf p.stock) (sym none) tt;
      few = subst (λ (ls : List OpenLevel). length ls ≤ MAX_LEVELS) (sym none) (omega arith);
      hold = ap (λ (ls : List OpenLevel). levels_hold ls (begun p 0).position) none ∙ ap (λ (x : ℕ). nat_le x MAX_TICK) position;
    }
sound-below p (suc m) fits (suc j) less below =
    let s = starts-as p (suc j) fits below (omega arith) in
    let inside : s.before < length p.programs = omega (arith, s.less) in
    let start = sound-below p m fits s.before (omega (arith, s.less)) inside in
    let ended = sound-standing p s.before (steps_of p s.before) fits inside (omega arith) start in
    let last = subst (Sound p.stock) (sym (last-standing p s.before fits inside)) ended in
    let levels = begun-levels p (suc j) s last.of in
    record {
      of = subst (AreOf p.stock) (sym levels) last.of;
      few = subst (λ (ls : List OpenLevel). length ls ≤ MAX_LEVELS) (sym levels) last.few;
      hold = ap (λ (ls : List OpenLevel). levels_hold ls (begun p (suc j)).position) levels
          ∙ ap (λ (x : Spot). levels_hold (process_run p s.before).run.last.levels x.position) s.start ∙ last.hold;
    }

pub sound-start : (p : PlanParts) (j : ℕ) → PartsFit p → j < length p.programs → Sound p.stock (begun p j)
sound-start p j fits below = sound-below p (suc j) fits j (omega arith) below

pub sound-last : (p : PlanParts) (j : ℕ) → PartsFit p → j < length p.programs → Sound p.stock (process_run p j).run.last
sound-last p j fits below =
    subst (Sound p.stock) (sym (last-standing p j fits below))
    (sound-standing p j (steps_of p j) fits below (omega arith) (sound-start p j fits below))

-- as many origins as levels
pub start-depth : (p : PlanParts) (j : ℕ) → PartsFit p → j < length p.programs
    → length (process_program p j).levels ≡ length (process_run p j).start.origins
start-depth p zero fits below =
    ap length fits.root ∙ sym (ap (λ (x : Spot). length x.origins) (first-start p fits))
start-depth p (suc j) fits below =
    let s = starts-as p (suc j) fits below (omega arith) in
    let ls = (process_run p s.before).run.last.levels in
    sym (ap length s.warps)
    ∙ reverse-length (map (λ l. l.warp) ls) ∙ length-map ls (λ l. l.warp)
    ∙ sym (reverse-length (map (λ l. l.origin) ls) ∙ length-map ls (λ l. l.origin))
    ∙ sym (ap (λ (x : Spot). length x.origins) s.start)
