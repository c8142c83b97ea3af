-- What is told of a tick is that it was located, and it is told once.
use Rattle.std.proofs.Common.{◌≡◌, ℕ, ◌+◌, List, ◌++◌, length, take, codes, sym, ◌∙◌, ap, subst, append_assoc}
use Rattle.std.specs.Fmt.{decimal}
use Rattle.fm_line.specs.Line.{start}
use Rattle.fm_locate.specs.Locating.{AreLocated}
use Rattle.fm_locate.specs.declared.levels.Located.{Located}
use Rattle.fm_locate.specs.declared.levels.Located.TheVariants.{There, Never}
use Rattle.fm_locate.proofs.OnceLemmas.{located_once, located_or_never, never_once}
use Rattle.fm_program.specs.Parts.{PlanParts}
use Rattle.fm_program.specs.Process.{plan_lines}
use Rattle.fm_position.specs.declared.position.Position.{Position}
use Rattle.fm_position.specs.Levels.{IsFound, IsPosition, depth_at, levels_at}
use Rattle.fm_position.specs.PositionLine.{found_text, head_text, never_text, numbers_text, position_text, there_text}
use Rattle.fm_position.specs.Told.{IsLocated, there, never}
use Rattle.fm_position.proofs.LevelLemmas.{AreLocated-open, length-open}

-- the line for positions, of which there are as many as levels
there_spelt : (process depth tick : ℕ) (xs : List ℕ) → length xs ≡ depth
    → head_text process depth tick ++ (codes " positions" ++ numbers_text xs) ++ codes "\n" ≡ there_text process tick xs
unfolding there_text
there_spelt process depth tick xs many =
    ap (λ (text : List ℕ). text ++ codes "\n") (sym (append_assoc (head_text process depth tick) (codes " positions") (numbers_text xs)))
    ∙ ap (λ (n : ℕ). head_text process n tick ++ codes " positions" ++ numbers_text xs ++ codes "\n") (sym many)

never_spelt : (process depth tick level : ℕ)
    → head_text process depth tick ++ (codes " never " ++ decimal level) ++ codes "\n" ≡ never_text process depth tick level
unfolding never_text
never_spelt process depth tick level =
    ap (λ (text : List ℕ). text ++ codes "\n") (sym (append_assoc (head_text process depth tick) (codes " never ") (decimal level)))

-- what was found in the levels of a process is told
found_told : (p : PlanParts) (j tick : ℕ) (located : Located) → length (levels_at p j) ≡ depth_at p j
    → IsFound p.stock.warps (levels_at p j) tick located
    → IsLocated p j tick (head_text j (depth_at p j) (start (plan_lines p) j) ++ found_text (depth_at p j) located ++ codes "\n")
found_told p j tick (There xs) many found =
    let inside : AreLocated p.stock.warps (levels_at p j) tick (take (depth_at p j) xs) =
    subst (λ (n : ℕ). AreLocated p.stock.warps (levels_at p j) tick (take n xs)) many
    (AreLocated-open p.stock.warps (levels_at p j) tick xs found) in
    let long : length (take (depth_at p j) xs) ≡ depth_at p j =
    ap (λ (n : ℕ). length (take n xs)) (sym many) ∙ length-open p.stock.warps (levels_at p j) tick xs found ∙ many in
    there (take (depth_at p j) xs) long inside
    (there_spelt j (depth_at p j) (start (plan_lines p) j) (take (depth_at p j) xs) long)
found_told p j tick (Never level) many found =
    never found.0 found.2
    (never_spelt j (depth_at p j) (start (plan_lines p) j) level
    ∙ ap (never_text j (depth_at p j) (start (plan_lines p) j)) found.1)

-- the line of a position says what was located
pub position_told : (p : PlanParts) (j tick : ℕ) (position : Position) → length (levels_at p j) ≡ depth_at p j
    → IsPosition p j tick position → IsLocated p j tick (position_text position)
position_told p j tick position many is =
    rw (is.process, is.depth, is.start) (found_told p j tick position.located many is.found)

-- a tick is told once
pub told_once : (p : PlanParts) (j tick : ℕ) (a b : List ℕ) → IsLocated p j tick a → IsLocated p j tick b → a ≡ b
told_once p j tick a b (there xs long located is) (there ys many also same) =
    is
    ∙ ap (there_text j (start (plan_lines p) j))
    (located_once p.stock.warps (levels_at p j) tick xs ys (long ∙ sym many) located also)
    ∙ sym same
told_once p j tick a b (there xs long located is) (never k gone same) =
    absurd (located_or_never p.stock.warps (levels_at p j) tick k xs located gone)
told_once p j tick a b (never k gone is) (there ys long located same) =
    absurd (located_or_never p.stock.warps (levels_at p j) tick k ys located gone)
told_once p j tick a b (never k gone is) (never l also same) =
    is
    ∙ ap (λ (n : ℕ). never_text j (depth_at p j) (start (plan_lines p) j) (n + 1))
    (never_once p.stock.warps (levels_at p j) tick k l gone also)
    ∙ sym same
