use Rattle.std.proofs.Common.{◌≡◌, take}
use Rattle.fm_line.specs.Line.{greatest}
use Rattle.fm_outline.proofs.tables.greatest.Given as goal

-- of the entries so far
abbrev pub invariant-loop-entry : goal.invariant-loop-entry
invariant-loop-entry l = l.most ≡ greatest (take l.entry-index l.entries)
