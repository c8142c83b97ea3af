-- The phrases of an outline by their numbers.
use Rattle.std.specs.Prelude.{◌≡◌, ℕ, List, [], map, vec_items, slice_index_or}
use Rattle.fm_outline.specs.declared.step.Step.{Step}
use Rattle.fm_outline.specs.declared.outline.Outline.{Outline}
use Rattle.fm_outline.specs.View.{look_of, block_view, tables_view}
use Rattle.fm_outline.specs.Forking.{AreAsking, AreMarked, PhrasesAsk, PhrasesMarked}

-- the statements of a phrase, none where there is no phrase of the number
abbrev pub phrase_steps : Outline → ℕ → List Step
phrase_steps o n = slice_index_or (map vec_items o.phrases.items) n []

-- each phrase stands for its statements with the other phrases in their places, so that no phrase names itself, nor
-- one that names it
pub record PhrasesStand (o : Outline) : Type 0 where
  pub at : (n : ℕ) → look_of o n ≡ block_view (look_of o) (phrase_steps o n)

-- each statement says rightly whether it forks
pub record ForksMarked (o : Outline) : Type 0 where
  pub block : AreMarked (look_of o) o.block.items
  pub phrases : PhrasesMarked (map vec_items o.phrases.items)

-- each statement says rightly what it asks
pub record NeedsMarked (o : Outline) : Type 0 where
  pub block : AreAsking (tables_view o.tables) (look_of o) o.block.items
  pub phrases : PhrasesAsk (tables_view o.tables) (map vec_items o.phrases.items)
