-- The static totals of a large score, and that it passes no limit.
use Rattle.std.proofs.Common.{◌≡◌, ◌∙◌, ◌+◌, ◌-◌, ◌*◌, ◌/◌, ◌==◌, ◌%◌, ◌≤◌, ℕ, Bool, true, false, List, [], ◌∷◌, refl, ap₂, arith, max, if◌then◌else◌}
use Rattle.std.specs.Prelude.{nat_lt}
use Rattle.std.proofs.lemmas.Bool.{le-leb}
use Rattle.std.proofs.lemmas.Bool.Decides.{nat_tests}
use Rattle.fm_lex.specs.declared.spot.Spot.{Spot}
use Rattle.fm_tick.specs.declared.tick.TheConstants.{MAX_TICK}
use Rattle.fm_warp.specs.declared.part.Part.{Part}
use Rattle.fm_warp.specs.Deformation as warps
use Rattle.fm_line.specs.declared.limits.TheConstants.{MAX_EVENTS}
use Rattle.fm_grammar.specs.Standing.{block_tree, branches_tree}
use Rattle.fm_meaning.specs.Bounds.{Totals, bounds_beside, bounds_in, fourth_walk, limit_faults, plus, score_bounds, score_totals, totals, warped_length}
use Rattle.fm_meaning.specs.Resolve.{fork_of, passage_of, resolved}
use Rattle.fm_meaning.specs.Rules.{VersionRules, most_operations, most_steps, score_rules}
use Rattle.fm_large.proofs.Clear.{known, parts_a, parts_b}
use Rattle.fm_large.proofs.Ends.{at_a, at_b}
use Rattle.fm_large.proofs.Forms.{at, branch_form, branches_form, double_form, single_form}
use Rattle.fm_large.proofs.Reading.{large_tree}
use Rattle.fm_large.proofs.Text.{channels}

-- ---- where voices end

-- a voice under the first shape, and under both
abbrev pub single_end : ℕ → ℕ → ℕ
single_end stretch notes = 24 * stretch / 25 + 96 * stretch / 25 + 120 * notes - 4680

-- under both
abbrev pub double_end : ℕ → ℕ → ℕ
double_end stretch notes = 24 * stretch / 25 + 96 * stretch / 25 + 120 * notes - 600

-- numbers of a large score
pub record IsLarge (stretch notes : ℕ) : Type 0 where
  pub slow : 500 ≤ stretch
  pub fast : stretch ≤ 1499
  pub some : 1000 ≤ notes
  pub few : notes ≤ 125000

warped : (parts : List Part) (x : ℕ) → x ≤ MAX_TICK → warped_length parts x ≡ warps.at parts x
warped parts x within = rw (le-leb x MAX_TICK within) refl

-- ---- one branch

record Sums (t : Totals) (notes end : ℕ) : Type 0 where
  processes : t.processes ≡ 0
  operations : t.operations ≤ 12
  length : t.length ≡ end
  events : t.events ≡ 2 * notes
  steps : t.steps ≤ 10 + 4 * notes

single_sums : (longest line stretch notes number : ℕ) → IsLarge stretch notes
    → Sums (bounds_in longest (passage_of (known stretch) (block_tree (single_form line notes number)))) notes (single_end stretch notes)
single_sums longest line stretch notes number large =
    let inner : warped_length (parts_a stretch) (notes * 120 + 0) ≡ single_end stretch notes =
    warped (parts_a stretch) (notes * 120 + 0) (omega (arith, large)) ∙ at_a stretch (notes * 120 + 0) large.slow large.fast
    (omega (arith, large)) ∙ omega arith in
    record {
      processes = refl;
      operations = omega arith;
      length = rw inner (omega arith);
      events = omega arith;
      steps = omega arith;
    }

double_sums : (longest line stretch notes number : ℕ) → IsLarge stretch notes
    → Sums (bounds_in longest (passage_of (known stretch) (block_tree (double_form line notes number)))) notes (double_end stretch notes)
double_sums longest line stretch notes number large =
    let inmost : warped_length parts_b (notes * 120 + 0) ≡ notes * 120 + 0 + 4080 =
    warped parts_b (notes * 120 + 0) (omega (arith, large)) ∙ at_b (notes * 120 + 0) (omega (arith, large)) in
    let inner : warped_length (parts_a stretch) (notes * 120 + 0 + 4080 + 0) ≡ double_end stretch notes =
    warped (parts_a stretch) (notes * 120 + 0 + 4080 + 0) (omega (arith, large))
    ∙ at_a stretch (notes * 120 + 0 + 4080 + 0) large.slow large.fast (omega (arith, large)) ∙ omega arith in
    record {
      processes = refl;
      operations = omega arith;
      length = rw (inmost, inner) (omega arith);
      events = omega arith;
      steps = omega arith;
    }

-- ---- all branches

-- on a channel
abbrev pub branch_end : ℕ → ℕ → ℕ → ℕ
branch_end stretch notes number = if number % 2 == 1 then double_end stretch notes else single_end stretch notes

block_sums : (longest line stretch notes number : ℕ) → IsLarge stretch notes
    → Sums (bounds_in longest (passage_of (known stretch) (block_tree (branch_form line notes number)))) notes
    (branch_end stretch notes number)
block_sums longest line stretch notes number large = go (number % 2 == 1)
  where
    go : (b : Bool) → Sums (bounds_in longest (passage_of (known stretch)
        (block_tree (if b then double_form line notes number else single_form line notes number)))) notes
        (if b then double_end stretch notes else single_end stretch notes)
    go true = double_sums longest line stretch notes number large
    go false = single_sums longest line stretch notes number large

-- so many for each of some channels
abbrev pub each : ℕ → List ℕ → ℕ
each n [] = 0
each n (number ∷ numbers) = n + each n numbers

-- the greatest of their ends
abbrev pub last_end : ℕ → ℕ → List ℕ → ℕ
last_end stretch notes [] = 0
last_end stretch notes (number ∷ numbers) = max (branch_end stretch notes number) (last_end stretch notes numbers)

record ForkSums (t : Totals) (stretch notes : ℕ) (numbers : List ℕ) : Type 0 where
  processes : t.processes ≡ 1 + each 1 numbers
  operations : t.operations ≤ each 12 numbers
  length : t.length ≡ last_end stretch notes numbers
  events : t.events ≡ each (2 * notes) numbers
  steps : t.steps ≤ each (10 + 4 * notes) numbers

fork_sums : (longest line stretch notes : ℕ) (numbers : List ℕ) → IsLarge stretch notes
    → ForkSums (bounds_beside longest (fork_of (known stretch) (branches_tree (branches_form line notes numbers)))) stretch notes numbers
fork_sums longest line stretch notes [] large =
    record { processes = refl; operations = omega arith; length = refl; events = refl; steps = omega arith }
fork_sums longest line stretch notes (number ∷ numbers) large =
    let one = block_sums longest line stretch notes number large in
    let rest = fork_sums longest (line + 1) stretch notes numbers large in
    record {
      processes = rw (one.processes, rest.processes) (omega arith);
      operations = omega (arith, one.operations, rest.operations);
      length = ap₂ max one.length rest.length;
      events = rw (one.events, rest.events) refl;
      steps = omega (arith, one.steps, rest.steps);
    }

-- ---- the last end of all

pair_end : (e o m : ℕ) → e ≤ o → m ≤ o → max e (max o m) ≡ o
pair_end e o m before within = omega arith

-- that is the end of the voices under both
pub last_end_is : (stretch notes : ℕ) → IsLarge stretch notes → last_end stretch notes (0 ∷ channels) ≡ double_end stretch notes
last_end_is stretch notes large =
    let before : single_end stretch notes ≤ double_end stretch notes = omega arith in
    let o = double_end stretch notes in
    let step = λ (m : ℕ) (is : m ≡ o). pair_end (single_end stretch notes) o m before (omega (arith, is)) in
    step _ (step _ (step _ (step _ (step _ (step _ (step _ (pair_end (single_end stretch notes) o 0 before (omega arith))))))))

-- ---- no limit is passed

not_above : (n most : ℕ) → n ≤ most → nat_lt most n ≡ false
not_above n most within = grind (arith, nat_tests)

record Within (rules : VersionRules) (t : Totals) : Type 0 where
  processes : t.processes ≤ rules.most_processes
  operations : t.operations ≤ most_operations
  length : t.length ≤ MAX_TICK
  events : t.events ≤ MAX_EVENTS
  steps : t.steps ≤ most_steps

none_passed : (rules : VersionRules) (spot : Spot) (t : Totals) → Within rules t → limit_faults rules spot t ≡ []
none_passed rules spot t within =
    rw (
      not_above t.processes rules.most_processes within.processes,
      not_above t.operations most_operations within.operations,
      not_above t.length MAX_TICK within.length,
      not_above t.events MAX_EVENTS within.events,
      not_above t.steps most_steps within.steps,
    ) refl

module _ (number stretch notes : ℕ) (large : IsLarge stretch notes) where
  -- the totals of the fork
  abbrev fork_totals : Totals
  fork_totals = bounds_beside 0 (fork_of (known stretch) (branches_tree (branches_form 6 notes (0 ∷ channels))))

  facts : ForkSums fork_totals stretch notes (0 ∷ channels)
  facts = fork_sums 0 6 stretch notes (0 ∷ channels) large

  length_is : fork_totals.length ≡ double_end stretch notes
  length_is = facts.length ∙ last_end_is stretch notes large

  all_within : Within (score_rules (large_tree number stretch notes)) (score_totals (plus (totals 0 0 0 0 0) fork_totals))
  all_within = record {
    processes = omega (arith, facts.processes);
    operations = omega (arith, facts.operations, facts.processes);
    length = omega (arith, length_is, large.fast, large.few);
    events = omega (arith, facts.events, large.few);
    steps = omega (arith, facts.steps, facts.processes, large.few);
  }

  -- no total passes its limit
  pub limits_faultless : fourth_walk (score_rules (large_tree number stretch notes)) (resolved (large_tree number stretch notes)) ≡ []
  limits_faultless =
      rw (none_passed (score_rules (large_tree number stretch notes)) (at 5 1)
      (score_totals (plus (totals 0 0 0 0 0) fork_totals)) all_within) refl

  -- there are eighteen processes
  pub processes_are : (score_bounds (resolved (large_tree number stretch notes))).processes ≡ 18
  processes_are = omega (arith, facts.processes)
