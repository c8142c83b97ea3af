-- The line that sums up a performance.
use Rattle.std.specs.Prelude.{ℕ, List, [], ◌∷◌, ◌++◌, codes}
use Rattle.std.specs.Fmt.{decimal}
use Rattle.fm_gen.specs.declared.summary.Summary.{Summary}

-- the four totals in decimal, and a line end
abbrev pub summary_line : Summary → List ℕ
summary_line s =
    codes "processes " ++ decimal s.processes ++ codes " events " ++ decimal s.events
    ++ codes " last " ++ decimal s.last ++ codes " bytes " ++ decimal s.bytes ++ 10 ∷ []
