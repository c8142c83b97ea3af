-- The lines of a plan that fits are valid.
use Rattle.std.proofs.Common.{◌≡◌, ◌⊎◌, refl, sym, ◌∙◌, ap, subst, arith, inl, inr, ℕ, zero, suc, ◌-◌, ◌<◌, ◌≤◌, List, [], ◌∷◌, length, map, true, nat_lt, nat_le, nat_eq}
use Rattle.std.specs.Prelude.{◌||◌}
use Rattle.std.specs.List.{list_all}
use Rattle.std.proofs.lemmas.Bool.{and_from, or_left, or_right, le-leb, lt-ltb, eq-eqb}
use Rattle.fm_tick.specs.declared.tick.TheConstants.{MAX_TICK}
use Rattle.fm_warp.specs.declared.side.Side.TheVariants.{Onset}
use Rattle.fm_warp.specs.Deformation.{placed}
use Rattle.fm_msg.specs.Event.{TimedMessage}
use Rattle.fm_line.specs.Line.{line, start, total, ValidLines}
use Rattle.fm_line.specs.declared.limits.TheConstants.{MAX_PROCESSES, MAX_EVENTS, LAST_TICK}
use Rattle.fm_line.specs.Validity.{all_once, each_below, line_valid, run_valid}
use Rattle.fm_line.proofs.OutRising.{come_out-valid}
use Rattle.fm_line.proofs.NumberTests.{each_below_at, each_below_from}
use Rattle.fm_line.proofs.Validity.{valid_from}
use Rattle.fm_program.specs.Parts.{PlanParts}
use Rattle.fm_program.specs.State.{OpenLevel}
use Rattle.fm_program.specs.Needs.{levels_hold}
use Rattle.fm_program.specs.Process.{plan_lines, process_run}
use Rattle.fm_program.specs.Fit.{PartsFit, ends_in_time}
use Rattle.fm_program.proofs.Lines.{plan-lines-length, plan-lines-waits}
use Rattle.fm_player.specs.Ahead.{event_sound}
use Rattle.fm_player.specs.Course.{begun, steps_of, tick_of, to_come}
use Rattle.fm_player.proofs.StockLemmas.{both, most_of}
use Rattle.fm_player.proofs.TickLemmas.{on_tick, position-tick}
use Rattle.fm_player.proofs.StartLemmas.{sound-last, waits}
use Rattle.fm_player.proofs.LineLemmas.{line-end}
use Rattle.fm_player.proofs.TurnLemmas.{begins-to_come}
use Rattle.fm_player.proofs.BeginLemmas.{begin-rest, begin-tick}

-- ---- lines

-- a position that is held is put at a tick within the limit
on_tick-most : (ls : List OpenLevel) (x : ℕ) → levels_hold ls x ≡ true → on_tick ls x ≤ MAX_TICK
on_tick-most [] x held = most_of x MAX_TICK held
on_tick-most (l ∷ ls) x held =
    on_tick-most ls (placed Onset l.origin l.parts x) (both (nat_le x MAX_TICK) (levels_hold ls (placed Onset l.origin l.parts x)) held).1

end-most : (p : PlanParts) (j : ℕ) → PartsFit p → j < length p.programs → (line (plan_lines p) j).end ≤ LAST_TICK
end-most p j fits below =
    let w = (process_run p j).run.last in
    let end : (line (plan_lines p) j).end ≡ on_tick w.levels w.position = line-end p j fits below ∙ position-tick w in
    let most : on_tick w.levels w.position ≤ MAX_TICK = on_tick-most w.levels w.position (sound-last p j fits below).hold in
    omega arith

-- the events of a line rise from its start to its end, and are numbered in turn
line-run : (p : PlanParts) (j : ℕ) → PartsFit p → j < length p.programs
    → run_valid (start (plan_lines p) j) (line (plan_lines p) j).end j 0 (line (plan_lines p) j).events ≡ true
line-run p j fits below =
    let end = (line (plan_lines p) j).end in
    subst (λ (low : ℕ). run_valid low end j 0 (line (plan_lines p) j).events ≡ true) (begin-tick p j fits below)
    (subst (λ (es : List TimedMessage). run_valid (tick_of (begun p j)) end j 0 es ≡ true) (sym (begin-rest p j fits below))
    (come_out-valid (tick_of (begun p j)) end j (map event_sound (to_come p j 0))
    (begins-to_come p j (steps_of p j) 0 fits below (omega arith))))

line-last : (p : PlanParts) (j : ℕ) → PartsFit p → j < length p.programs
    → (line (plan_lines p) j).end ≤ (line (plan_lines p) (length (plan_lines p) - 1)).end
line-last p j fits below =
    subst (λ (n : ℕ). (line (plan_lines p) j).end ≤ (line (plan_lines p) (n - 1)).end) (sym (plan-lines-length p))
    (most_of _ _ (each_below_at (length p.programs) j (ends_in_time p) fits.in_time below))

line-waits : (p : PlanParts) (j : ℕ) → PartsFit p → j < length p.programs → (j ≡ 0) ⊎ (0 < j)
    → (nat_eq j 0 || nat_lt 0 (length (line (plan_lines p) j).predecessors)) ≡ true
line-waits p j fits below (inl first) = or_left _ _ (eq-eqb j 0 first)
line-waits p j fits below (inr more) =
    let some : 0 < length (line (plan_lines p) j).predecessors =
    omega (arith, ap length (plan-lines-waits p j), (waits p j fits below).some more) in
    or_right (nat_eq j 0) (nat_lt 0 (length (line (plan_lines p) j).predecessors))
    (lt-ltb 0 (length (line (plan_lines p) j).predecessors) some)

line-valid : (p : PlanParts) (j : ℕ) → PartsFit p → j < length p.programs → line_valid (plan_lines p) j ≡ true
line-valid p j fits below =
    let w = waits p j fits below in
    let same = sym (plan-lines-waits p j) in
    and_from _ _
    (and_from _ _
    (and_from _ _
    (and_from _ _
    (and_from _ _
    (line-waits p j fits below (cases_zero j))
    (subst (λ (qs : List ℕ). list_all (λ q. nat_lt q j) qs ≡ true) same w.below))
    (subst (λ (qs : List ℕ). all_once qs ≡ true) same w.once))
    (line-run p j fits below))
    (le-leb _ _ (end-most p j fits below)))
    (le-leb _ _ (line-last p j fits below))
  where
    cases_zero : (i : ℕ) → (i ≡ 0) ⊎ (0 < i)
    cases_zero zero = inl refl
    cases_zero (suc i) = inr (omega arith)

-- the lines of a plan that fits are valid
pub lines-valid : (p : PlanParts) → PartsFit p → ValidLines (plan_lines p)
lines-valid p fits =
    let ls = plan_lines p in
    let count = plan-lines-length p in
    let some : 0 < length ls = omega (arith, count, fits.some) in
    let few : length ls ≤ MAX_PROCESSES = omega (arith, count, fits.few) in
    let root : length (line ls 0).predecessors ≡ 0 = ap length (plan-lines-waits p 0 ∙ (waits p 0 fits fits.some).first refl) in
    let each = each_below_from (length p.programs) (line_valid ls) (λ j below. line-valid p j fits below) in
    valid_from ls
    (and_from _ _
    (and_from _ _
    (and_from _ _
    (and_from _ _ (lt-ltb 0 (length ls) some) (le-leb (length ls) MAX_PROCESSES few))
    (eq-eqb (length (line ls 0).predecessors) 0 root))
    (subst (λ (n : ℕ). each_below n (line_valid ls) ≡ true) (sym count) each))
    (le-leb (total ls) MAX_EVENTS fits.events))
