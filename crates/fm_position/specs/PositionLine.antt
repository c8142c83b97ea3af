-- The line that tells where a tick lies.
use Rattle.std.specs.Prelude.{ℕ, List, [], ◌∷◌, ◌++◌, length, take, codes}
use Rattle.std.specs.Fmt.{decimal}
use Rattle.fm_locate.specs.declared.levels.Located.{Located}
use Rattle.fm_locate.specs.declared.levels.Located.TheVariants.{There, Never}
use Rattle.fm_position.specs.declared.position.Position.{Position}

-- the front of the line: the process, how many levels are open where it starts, and the tick of its start
abbrev pub head_text : (process depth tick : ℕ) → List ℕ
head_text process depth tick =
    codes "process " ++ decimal process ++ codes " levels " ++ decimal depth ++ codes " start " ++ decimal tick

-- numbers, a blank in front of each
abbrev pub numbers_text : List ℕ → List ℕ
numbers_text [] = []
numbers_text (x ∷ xs) = codes " " ++ decimal x ++ numbers_text xs

-- the line for a position in each level
unfoldable pub there_text : (process tick : ℕ) → List ℕ → List ℕ
there_text process tick positions =
    head_text process (length positions) tick ++ codes " positions" ++ numbers_text positions ++ codes "\n"

-- the line for the first level, counted from 1, that has none
unfoldable pub never_text : (process depth tick level : ℕ) → List ℕ
never_text process depth tick level =
    head_text process depth tick ++ codes " never " ++ decimal level ++ codes "\n"

-- what stands behind the front: of the positions those of open levels alone
abbrev pub found_text : ℕ → Located → List ℕ
found_text depth (There positions) = codes " positions" ++ numbers_text (take depth positions)
found_text depth (Never level) = codes " never " ++ decimal level

-- the line of a position
abbrev pub position_text : Position → List ℕ
position_text p = head_text p.process p.depth p.start ++ found_text p.depth p.located ++ codes "\n"
