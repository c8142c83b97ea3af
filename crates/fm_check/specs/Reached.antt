-- How far the walk over the statements of an outline has come.
use Rattle.std.specs.Prelude.{◌≡◌, ℕ, ◌≤◌, Bool}
use Rattle.fm_tick.specs.declared.tick.TheConstants.{MAX_TICK}
use Rattle.fm_line.specs.declared.limits.TheConstants.{MAX_EVENTS}
use Rattle.fm_grammar.specs.Score.{Score}
use Rattle.fm_meaning.specs.Rules.{score_rules, most_operations, most_steps}
use Rattle.fm_meaning.specs.Resolved.{Passage}
use Rattle.fm_meaning.specs.Resolve.{resolved}
use Rattle.fm_outline.specs.declared.outline.Outline.{Outline}
use Rattle.fm_outline.specs.OfScore.{IsOutlineOf, passage_of_outline}
use Rattle.fm_meaning.specs.Bounds.{Totals, plus, score_totals, bounds_in, sums_faults, fourth_walk}
use Rattle.fm_check.specs.declared.totals.bounds.Bounds.{Bounds}
use Rattle.fm_check.specs.declared.totals.sums.Sums.{Sums}
use Rattle.fm_check.specs.Saturation.{saturated}

-- the outline of a score whose names and numbers have no fault: it stands for what the score plays
pub record IsSoundOutline (o : Outline) (s : Score) : Type 0 where
  pub is : IsOutlineOf o s
  pub passage : passage_of_outline o ≡ (resolved s).passage

-- the totals as a contract sees them
abbrev pub totals_of : Bounds → Totals
totals_of b = record {
  processes = b.processes;
  operations = b.operations;
  length = b.length;
  events = b.events;
  steps = b.steps;
}

-- no total passes its limit
pub record AreWithin (most : ℕ) (a : Totals) : Type 0 where
  pub processes : a.processes ≤ most
  pub operations : a.operations ≤ most_operations
  pub length : a.length ≤ MAX_TICK
  pub events : a.events ≤ MAX_EVENTS
  pub steps : a.steps ≤ most_steps

-- before these statements of a score nothing was too much, and so much was added
pub record Reached (score : Score) (before : Sums) (rest : Passage) : Type 0 where
  pub so_far : Totals
  pub saturates : before ≡ saturated so_far
  pub within : AreWithin (score_rules score).most_processes (score_totals so_far)
  pub faults : fourth_walk (score_rules score) (resolved score)
      ≡ sums_faults (score_rules score) (resolved score).longest so_far rest
  pub bounds : bounds_in (resolved score).longest (resolved score).passage
      ≡ plus so_far (bounds_in (resolved score).longest rest)
