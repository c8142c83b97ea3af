-- What an outline stands for: statements in turn, and the score that it is made of.
use Rattle.std.specs.Prelude.{◌≡◌}
use Rattle.fm_grammar.specs.Score as text
use Rattle.fm_meaning.specs.Rules.{score_rules}
use Rattle.fm_meaning.specs.Resolved.{Passage}
use Rattle.fm_meaning.specs.Resolve.{seed_of}
use Rattle.fm_rules.specs.View.{rules_view}
use Rattle.fm_expansion.specs.Outline.{passage_in}
use Rattle.fm_expansion.specs.Numbering.{outline}
use Rattle.fm_outline.specs.declared.outline.Outline.{Outline}
use Rattle.fm_outline.specs.View.{outline_view}
use Rattle.fm_outline.specs.Phrases.{ForksMarked, NeedsMarked}

-- what is played, with nothing left to look up
abbrev pub passage_of_outline : Outline → Passage
passage_of_outline o = passage_in (outline_view o).tables (outline_view o).value

-- the outline is that of a score: its statements and tables, the seed of its draws, and what its version fixes; and its
-- statements say rightly whether they fork, and what they ask
pub record IsOutlineOf (o : Outline) (s : text.Score) : Type 0 where
  pub view : outline_view o ≡ outline s
  pub seed : o.seed ≡ seed_of s.seed
  pub rules : rules_view o.rules ≡ score_rules s
  pub marked : ForksMarked o
  pub asking : NeedsMarked o
