-- What is claimed of the large score of a number.
use Rattle.std.specs.Prelude.{◌≡◌, ℕ, ◌+◌, ◌-◌, ◌*◌, ◌/◌, length}
use Rattle.fm_grammar.specs.Score.{Score}
use Rattle.fm_meaning.specs.Lines.{played_end, played_lines, played_piece}
use Rattle.fm_meaning.specs.Resolve.{resolved}
use Rattle.fm_meaning.specs.Verdict.{Means}
use Rattle.fm_gen.specs.LargeScore.{large_score, notes_of, stretch_of}

-- the tick at which the voices under both shapes end. They have 120 ticks a note, of which the second shape makes 4,080
-- more. The first makes 960 ticks and what a slope adds of its whole note, 120 of the breath, and what the last stretch
-- gives of two whole notes; these three whole notes are 5,760 of the ticks
abbrev pub large_end : ℕ → ℕ
large_end number =
    24 * stretch_of number / 25 + 96 * stretch_of number / 25 + 120 * notes_of number - 600

-- the text of a number means a score, with so many processes and events, which ends at that tick
pub record IsPerformed (number : ℕ) : Type 0 where
  pub score : Score
  pub means : Means (large_score number) score
  pub processes : length (played_lines (resolved score)) ≡ 18
  pub events : length (played_piece (resolved score)) ≡ 32 * notes_of number
  pub last : played_end (resolved score) ≡ large_end number
