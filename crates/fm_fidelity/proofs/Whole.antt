-- A whole score: the plan of its outline plays what it plays.
use Rattle.std.proofs.Common.{◌≡◌, ℕ, ◌+◌, ◌≤◌, true, List, [], ◌∷◌, ◌++◌, map, refl, sym, ap, ◌∙◌, subst, arith}
use Rattle.std.specs.Prelude.{slice_index_or}
use Rattle.std.proofs.lemmas.List.{map-append}
use Rattle.std.proofs.lemmas.Bool.{le-leb}
use Rattle.fm_msg.specs.declared.profile.Profile.{Profile}
use Rattle.fm_tick.specs.declared.tick.TheConstants.{MAX_TICK}
use Rattle.fm_line.specs.Marks.{lines_of}
use Rattle.fm_program.specs.declared.plan.TheConstants.{MAX_STEPS}
use Rattle.fm_program.specs.declared.op.Slot.{Slot}
use Rattle.fm_program.specs.Needs.{levels_hold}
use Rattle.fm_program.specs.Process.{played_marks, plan_played, plan_lines}
use Rattle.fm_meaning.specs.Resolved.{Resolved}
use Rattle.fm_meaning.specs.State.{Now, started}
use Rattle.fm_meaning.specs.Played.{mark_of_end, passage_plays, score_plays}
use Rattle.fm_meaning.specs.Lines.{played_lines, played_end}
use Rattle.fm_meaning.specs.Bounds.{bounds_in}
use Rattle.fm_meaning.specs.Places as places
use Rattle.fm_promise.specs.Levels.{IsInTime, LevelsIn}
use Rattle.fm_expansion.specs.Outline.{Tables, Block, passage_in}
use Rattle.fm_expansion.specs.Expansion.{outermost, nothing_made, expanded, expansion}
use Rattle.fm_fidelity.proofs.Plain.{plain, heard, lines_heard}
use Rattle.fm_fidelity.proofs.Fits.{FitsIn}
use Rattle.fm_expansion.proofs.Settings.{Setting}
use Rattle.fm_fidelity.proofs.Atoms.{around}
use Rattle.fm_expansion.proofs.Growing.{prefix_self, expand_in_grows}
use Rattle.fm_fidelity.proofs.Making.{Good, good_by, Closed, Finished, finish, fresh_good}
use Rattle.fm_fidelity.proofs.Forking.{expand_in_good}

-- what the law asks of an outline and of the score that it stands for
pub record Plannable (t : Tables) (b : Block) (r : Resolved) : Type 0 where
  pub stands : passage_in t b ≡ r.passage
  pub fits : FitsIn places.outermost r.passage
  pub levels : LevelsIn IsInTime r.passage (record { seed = r.seed; channel = 0 })
      (started (record { seed = r.seed; channel = 0 }) [] 0 [] [])
  pub soon : played_end r ≤ MAX_TICK
  pub steps : (bounds_in r.longest r.passage).steps ≤ MAX_STEPS

-- the scopes of all programs
abbrev pub all_scopes : Block → List (List Slot)
all_scopes b = (expanded b).scopes

-- what the first process is
abbrev first_now : ℕ → Now
first_now seed = started (around seed outermost) [] 0 [] []

-- the first scope has no loops
first_scope : (b : Block) → slice_index_or (all_scopes b) 0 [] ≡ []
first_scope b = ap (λ l. slice_index_or l 0 []) (expand_in_grows b outermost nothing_made).is

-- nothing is open round a score
pub outer_setting : (b : Block) → Setting (all_scopes b) places.outermost outermost []
outer_setting b = record {
  scope = first_scope b;
  loops = refl;
  frames = omega arith;
  few = omega arith;
  low = omega arith;
  levels = omega arith;
  flat = omega arith;
  channel = omega arith;
  warps = refl;
}

-- before the first statement
begun_good : (t : Tables) (b : Block) (seed : ℕ)
    → Good t (all_scopes b) seed nothing_made (first_now seed) [] [] [] 0
begun_good t b seed =
    let none : Closed t (all_scopes b) seed [] [] [] 0 = record {
      births_are = refl;
      heard_all = refl;
      ended = refl;
      spent = omega arith;
      joins = λ j within. absurd (omega (arith, within));
    } in
    fresh_good t (all_scopes b) seed [] [] outermost 0 [] [] [] [] 0 ([] ∷ []) refl tt tt none refl
    (record { ends = refl; below = tt })

-- all programs
pub finished : (t : Tables) (b : Block) (r : Resolved) → Plannable t b r
    → Finished t (all_scopes b) r.seed (expanded b)
    (passage_plays r.passage (around r.seed outermost) (first_now r.seed)).after []
    (heard [] (passage_plays r.passage (around r.seed outermost) (first_now r.seed)).marks)
    (bounds_in r.longest r.passage).steps
finished t b r p =
    let a = around r.seed outermost in
    let o = passage_plays r.passage a (first_now r.seed) in
    let cost = (bounds_in r.longest r.passage).steps in
    let good = expanded_good in
    finish t (all_scopes b) r.seed (expanded b) o.after [] [] (heard [] o.marks) cost p.steps good
  where
    expanded_good : Good t (all_scopes b) r.seed (expanded b)
        (passage_plays r.passage (around r.seed outermost) (first_now r.seed)).after [] []
        (heard [] (passage_plays r.passage (around r.seed outermost) (first_now r.seed)).marks)
        (bounds_in r.longest r.passage).steps
    expanded_good = subst (λ q. Good t (all_scopes b) r.seed (expanded b)
        (passage_plays q (around r.seed outermost) (first_now r.seed)).after [] []
        (heard [] (passage_plays q (around r.seed outermost) (first_now r.seed)).marks)
        (bounds_in r.longest q).steps) p.stands
        (good_by t (all_scopes b) r.seed (expanded b)
        (passage_plays (passage_in t b) (around r.seed outermost) (first_now r.seed)).after [] []
        ([] ++ heard [] (passage_plays (passage_in t b) (around r.seed outermost) (first_now r.seed)).marks)
        (heard [] (passage_plays (passage_in t b) (around r.seed outermost) (first_now r.seed)).marks)
        (0 + (bounds_in r.longest (passage_in t b)).steps) (bounds_in r.longest (passage_in t b)).steps
        refl (omega arith)
        (expand_in_good t (all_scopes b) r.seed r.longest b places.outermost outermost [] nothing_made
        (first_now r.seed) [] 0
        (subst (FitsIn places.outermost) (sym p.stands) p.fits) (outer_setting b) tt tt
        (subst (λ q. LevelsIn IsInTime q (around r.seed outermost) (first_now r.seed)) (sym p.stands)
        p.levels)
        (subst (λ q. levels_hold [] (passage_plays q (around r.seed outermost)
        (first_now r.seed)).after.position ≡ true) (sym p.stands)
        (le-leb (played_end r) MAX_TICK p.soon))
        (prefix_self (all_scopes b))
        (subst (λ q. 0 + (bounds_in r.longest q).steps ≤ MAX_STEPS) (sym p.stands) (omega (arith, p.steps)))
        (begun_good t b r.seed)).good)

-- the plan has the lines of the score
pub lines_agree : (t : Tables) (b : Block) (r : Resolved) → Plannable t b r → (profile : Profile)
    → plan_lines (expansion t r.seed profile b) ≡ played_lines r
lines_agree t b r p profile =
    let o = passage_plays r.passage (around r.seed outermost) (first_now r.seed) in
    let closed = (finished t b r p).closed in
    let ms = played_marks (plan_played (expansion t r.seed profile b)) in
    let same : map plain ms ≡ map plain (score_plays r).marks =
    sym closed.heard_all ∙ sym (map-append plain o.marks (mark_of_end o.after ∷ [])) in
    ap (λ births. lines_of births ms) (sym closed.births_are)
    ∙ lines_heard (score_plays r).after.births ms (score_plays r).marks same
