-- One statement of an outline further.
use Rattle.std.proofs.Common.{◌≡◌, ℕ, suc, ◌+◌, ◌<◌, ◌≤◌, Bool, false, List, [], ◌++◌, length}
use Rattle.std.proofs.Common.{drop, get_or, ap, sym, subst, ◌∙◌, arith, Some, add-one}
use Rattle.std.proofs.Math.Seq.{drop-cons}
use Rattle.std.proofs.lemmas.List.{drop_all}
use Rattle.std.specs.Prelude.{◌||◌}
use Rattle.fm_lex.specs.declared.spot.Spot.{Spot}
use Rattle.fm_grammar.specs.Score as tree
use Rattle.fm_line.specs.declared.limits.TheConstants.{MAX_EVENTS}
use Rattle.fm_meaning.specs.Rules.{score_rules, most_operations, most_steps}
use Rattle.fm_meaning.proofs.Versions.{few_processes, some_processes}
use Rattle.fm_meaning.specs.Fault.{NumberedFault}
use Rattle.fm_meaning.specs.Ranges.{second_walk}
use Rattle.fm_meaning.specs.Faults.{first_found}
use Rattle.fm_meaning.specs.Resolved.{Play, Passage, done, item}
use Rattle.fm_meaning.specs.Resolve.{resolved, seed_of}
use Rattle.fm_rules.specs.View.{rules_view}
use Rattle.fm_meaning.specs.Bounds.{Totals, totals, plus, score_totals, score_bounds, bounds_of}
use Rattle.fm_meaning.specs.Bounds.{bounds_in, forks, limit_faults, sums_faults, fourth_walk}
use Rattle.fm_expansion.specs.Outline.{Tables, play_in, passage_in}
use Rattle.fm_expansion.specs.Numbering.{outline}
use Rattle.fm_expansion.proofs.Longest.{longest_told}
use Rattle.fm_outline.specs.declared.outline.Outline.{Outline}
use Rattle.fm_outline.specs.declared.step.Step.{Step}
use Rattle.fm_outline.specs.View.{Look, Placed, step_view, block_view, tables_view, outline_view}
use Rattle.fm_outline.specs.Phrases.{ForksMarked}
use Rattle.fm_outline.specs.OfScore.{passage_of_outline}
use Rattle.fm_outline.proofs.SeenLemmas.{step_seen}
use Rattle.fm_outline.proofs.RefusalLemmas.{before as stays_first}
use Rattle.fm_check.specs.declared.totals.sums.Sums.{Sums}
use Rattle.fm_check.specs.Saturation.{capped, saturated}
use Rattle.fm_check.specs.Made.{IsMadeOf}
use Rattle.fm_check.specs.Reached.{Reached}
use Rattle.fm_check.proofs.SaturationLemmas.{capped_below}
use Rattle.fm_check.proofs.SumsLemmas.{none_saturated, sums}
use Rattle.fm_check.proofs.WeightLemmas.{same_totals, plus_plus}
use Rattle.fm_check.proofs.LimitLemmas.{are_within}

-- the totals with a statement more
abbrev pub after : {score : tree.Score} {before : Sums} {spot : Spot} {play : Play} {rest : Passage}
    → Reached score before (item spot play rest) → Totals
after {score = score} {play = play} r = plus r.so_far (bounds_of (resolved score).longest play)

-- within the limits the walk goes on
pub play_reached : (score : tree.Score) (before sums : Sums) (spot : Spot) (play : Play) (rest : Passage)
    → (r : Reached score before (item spot play rest)) → sums ≡ saturated (after r)
    → limit_faults (score_rules score) spot (score_totals (after r)) ≡ [] → Reached score sums rest
play_reached score before sums spot play rest r saturates none =
    let longest = (resolved score).longest in
    record {
      so_far = after r;
      saturates = saturates;
      within = are_within (score_rules score) spot (score_totals (after r)) none;
      faults = r.faults ∙ ap (λ fs. fs ++ sums_faults (score_rules score) longest (after r) rest) none;
      bounds = r.bounds ∙ plus_plus r.so_far (bounds_of longest play) (bounds_in longest rest);
    }

-- past a limit the fault is the first one
pub play_refused : (score : tree.Score) (before : Sums) (spot : Spot) (play : Play) (rest : Passage) (f : NumberedFault)
    → (r : Reached score before (item spot play rest))
    → first_found (limit_faults (score_rules score) spot (score_totals (after r))) ≡ Some f
    → first_found (fourth_walk (score_rules score) (resolved score)) ≡ Some f
play_refused score before spot play rest f r found =
    ap first_found r.faults
    ∙ stays_first (limit_faults (score_rules score) spot (score_totals (after r)))
    (sums_faults (score_rules score) (resolved score).longest (after r) rest) f found

-- ---- the beginning and the end

-- the greatest entry of all rhythms of a score is that of its outline
pub longest_kept : (score : tree.Score) (o : Outline) {longest : ℕ} → outline_view o ≡ outline score
    → longest ≡ capped (tables_view o.tables).longest → longest ≡ capped (resolved score).longest
longest_kept score o of is = is ∙ ap (λ v. capped v.tables.longest) of ∙ ap capped (longest_told score)

-- nothing was gone over yet
pub begun : (score : tree.Score) (p : Passage) → p ≡ (resolved score).passage
    → Reached score (sums 0 0 0 0 0) p
begun score p is = record {
  so_far = totals 0 0 0 0 0;
  saturates = none_saturated;
  within = record {
    processes = omega (arith, some_processes score);
    operations = omega arith;
    length = omega arith;
    events = omega arith;
    steps = omega arith;
  };
  faults = ap (sums_faults (score_rules score) (resolved score).longest (totals 0 0 0 0 0)) (sym is);
  bounds = ap (bounds_in (resolved score).longest) (sym is)
      ∙ same_totals (omega arith) (omega arith) (omega arith) (omega arith) (omega arith);
}

-- no statement is left
pub at_end : (score : tree.Score) (before : Sums) (t : Tables) (look : Look) (steps : List Step) (i : ℕ) → length steps ≤ i
    → Reached score before (passage_in t (block_view look (drop i steps))) → Reached score before done
at_end score before t look steps i all r =
    subst (λ l. Reached score before (passage_in t (block_view look l))) (drop_all i steps all) r

-- a statement is next
pub at_step : (score : tree.Score) (before : Sums) (t : Tables) (look : Look) (steps : List Step) (i : ℕ) (s : Step)
    → i < length steps → s ≡ get_or steps i s
    → Reached score before (passage_in t (block_view look (drop i steps)))
    → Reached score before (item s.spot (play_in t (step_view look s).what) (passage_in t (block_view look (drop (i + 1) steps))))
at_step score before t look steps i s within is r =
    let left = λ (x : Placed) (k : ℕ). item x.spot (play_in t x.what) (passage_in t (block_view look (drop k steps))) in
    subst (Reached score before)
    (ap (λ l. passage_in t (block_view look l)) (drop-cons steps i s within)
    ∙ ap (λ x. left (step_view look x) (suc i)) (sym is)
    ∙ ap (left (step_view look s)) (sym (add-one i))
    ∙ ap (λ x. item x (play_in t (step_view look s).what) (passage_in t (block_view look (drop (i + 1) steps))))
    (ap (λ p. p.spot) (step_seen look s)))
    r

-- the totals of a score, each the number itself and not past its limit
pub record Ends (score : tree.Score) (whole : Sums) : Type 0 where
  pub processes : whole.processes ≤ (score_rules score).most_processes
  pub operations : whole.operations ≤ most_operations
  pub events : whole.events ≤ MAX_EVENTS
  pub steps : whole.steps ≤ most_steps
  pub bounds : totals whole.processes whole.operations whole.length whole.events whole.steps ≡ score_bounds (resolved score)

-- so they are where no statement is left
pub ends : (score : tree.Score) (before whole : Sums)
    → ((a : Totals) → before ≡ saturated a → whole ≡ saturated (score_totals a))
    → Reached score before done → Ends score whole
ends score before whole is r =
    let same = is r.so_far r.saturates in
    let w = r.within in
    let a = score_totals r.so_far in
    let p : whole.processes ≡ a.processes = ap (λ s. s.processes) same
    ∙ capped_below a.processes (omega (arith, w.processes, few_processes score)) in
    let o : whole.operations ≡ a.operations = ap (λ s. s.operations) same ∙ capped_below a.operations (omega arith) in
    let l : whole.length ≡ a.length = ap (λ s. s.length) same ∙ capped_below a.length (omega arith) in
    let e : whole.events ≡ a.events = ap (λ s. s.events) same ∙ capped_below a.events (omega arith) in
    let s : whole.steps ≡ a.steps = ap (λ s. s.steps) same ∙ capped_below a.steps (omega arith) in
    record {
      processes = omega arith;
      operations = omega arith;
      events = omega arith;
      steps = omega arith;
      bounds = same_totals p o l e s
          ∙ sym (ap score_totals
          (r.bounds ∙ same_totals (omega arith) (omega arith) (omega arith) (omega arith) (omega arith)));
    }
