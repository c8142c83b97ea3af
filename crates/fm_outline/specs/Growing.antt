-- Statements that are done, before those that are left.
use Rattle.std.specs.Prelude.{List}
use Rattle.fm_expansion.specs.Outline as plain
use Rattle.fm_expansion.specs.Numbering.{Numbered, numbered}
use Rattle.fm_outline.specs.View.{Placed, before}

-- statements before those that are left
abbrev pub followed : List Placed → Numbered plain.Block → Numbered plain.Block
followed ps rest = numbered (before ps rest.value) rest.tables
