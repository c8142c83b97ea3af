-- Accepted texts: what the laws below say of them is what a plan needs.
use Rattle.std.proofs.Common.{◌≡◌, ℕ, ◌≤◌, List, [], arith}
use Rattle.fm_line.specs.Line.{ValidLines}
use Rattle.fm_program.specs.Process.{plan_played, plan_lines}
use Rattle.fm_program.specs.Fit.{all_steps, PartsFit}
use Rattle.fm_grammar.specs.Score.{Score}
use Rattle.fm_meaning.specs.Rules.{score_rules, profile_of}
use Rattle.fm_meaning.specs.Resolve.{resolved}
use Rattle.fm_meaning.specs.Lines.{played_lines, played_end}
use Rattle.fm_meaning.specs.Bounds.{score_bounds, fourth_walk}
use Rattle.fm_meaning.specs.Ranges.{second_walk}
use Rattle.fm_meaning.specs.Places.{outermost, third_walk}
use Rattle.fm_meaning.specs.Verdict.{Means}
use Rattle.fm_promise.specs.Limits.{IsWithinLimits}
use Rattle.fm_promise.specs.Levels.{IsInTime, EveryLevel}
use Rattle.fm_promise.specs.Kept.{KeptIn}
use Rattle.fm_promise.specs.Lists.{EntryListsKept}
use Rattle.std.specs.List.{AllByRecursion}
use Rattle.fm_expansion.specs.Numbering.{outline, score_plan}
use Rattle.fm_promise.proofs.Limits.{none_first}
use Rattle.fm_expansion.proofs.Resolving.{outline_found}
use Rattle.fm_fidelity.proofs.Fitting.{text_fits}
use Rattle.fm_fidelity.proofs.Listing.{tables_listed}
use Rattle.fm_fidelity.proofs.Whole.{Plannable, finished, lines_agree}
use Rattle.fm_fidelity.proofs.Fitted.{parts_fit}

-- what is known of each accepted text
pub record Promised : Type 0 where
  pub kept : (t : List ℕ) (s : Score) → Means t s → KeptIn outermost (resolved s).passage
  pub lists : (t : List ℕ) (s : Score) → Means t s → AllByRecursion EntryListsKept s.entries
  pub levels : (t : List ℕ) (s : Score) → Means t s → EveryLevel IsInTime (resolved s)
  pub limits : (t : List ℕ) (s : Score) → Means t s
      → IsWithinLimits (score_rules s) (score_bounds (resolved s))
  pub valid : (t : List ℕ) (s : Score) → Means t s → ValidLines (played_lines (resolved s))
  pub end : (t : List ℕ) (s : Score) → Means t s
      → played_end (resolved s) ≤ (score_bounds (resolved s)).length

-- the second walk finds nothing
second_none : (t : List ℕ) (s : Score) → Means t s → second_walk s ≡ []
second_none t s m = none_first (second_walk s) (third_walk (resolved s).passage)
    (none_first _ (fourth_walk (score_rules s) (resolved s)) m.faultless)

-- its outline can be planned
text_plannable : Promised → (t : List ℕ) (s : Score) → Means t s
    → Plannable (outline s).tables (outline s).value (resolved s)
text_plannable p t s m = record {
  stands = (outline_found s (second_none t s m)).0;
  fits = text_fits p.kept t s m;
  levels = (p.levels t s m).inner;
  soon = omega (arith, p.end t s m, (p.limits t s m).length);
  steps = omega (arith, (p.limits t s m).steps);
}

-- its plan has its lines
pub text_lines : Promised → (t : List ℕ) (s : Score) → Means t s
    → plan_lines (score_plan s) ≡ played_lines (resolved s)
text_lines p t s m =
    lines_agree (outline s).tables (outline s).value (resolved s) (text_plannable p t s m) (profile_of s)

-- its plan fits
pub text_fitted : Promised → (t : List ℕ) (s : Score) → Means t s → PartsFit (score_plan s)
text_fitted p t s m =
    let none = second_none t s m in
    let listed = tables_listed s (p.lists t s m) in
    parts_fit (outline s).tables (outline s).value (resolved s) (text_plannable p t s m)
    (outline_found s none).1 listed.lists listed.chords
    (p.valid t s m) (profile_of s)

-- and takes no more steps than its totals say
pub text_steps : Promised → (t : List ℕ) (s : Score) → Means t s
    → all_steps (plan_played (score_plan s)) ≤ (score_bounds (resolved s)).steps
text_steps p t s m =
    let steps = (finished (outline s).tables (outline s).value (resolved s)
    (text_plannable p t s m)).closed.spent in
    omega (arith, steps)
