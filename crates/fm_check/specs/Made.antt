-- An outline that the walk over names and numbers made.
use Rattle.std.specs.Prelude.{◌≡◌, []}
use Rattle.fm_grammar.specs.Score.{Score}
use Rattle.fm_meaning.specs.Ranges.{second_walk}
use Rattle.fm_outline.specs.declared.outline.Outline.{Outline}
use Rattle.fm_check.specs.Reached.{IsSoundOutline}

-- the outline is that of a score without a fault of names and numbers
pub record IsMadeOf (o : Outline) (s : Score) : Type 0 where
  pub sound : IsSoundOutline o s
  pub faultless : second_walk s ≡ []
