-- A player that made no step is where its process starts.
use Rattle.std.proofs.Common.{◌≡◌, sym, ◌∙◌, ap, arith, ℕ, List, [], ◌∷◌, ◌++◌, length, map, reverse}
use Rattle.std.proofs.lemmas.List.{append-nil, append_assoc, reverse-append}
use Rattle.fm_program.specs.Parts.{PlanParts, StockParts, process_program}
use Rattle.fm_program.specs.Action.{parts_at}
use Rattle.fm_program.specs.State.{OpenLevel}
use Rattle.fm_program.specs.Process.{levels_opened, process_run, spot_reached}
use Rattle.fm_player.specs.declared.player.Player.{Player}
use Rattle.fm_player.specs.Course.{place_of, standing, start_place, steps_of}
use Rattle.fm_player.specs.Player.{InCourse, place_reached, steps_left}
use Rattle.fm_player.proofs.StartLemmas.{start-depth}

origins-opened : (t : StockParts) (ws os : List ℕ) (ls : List OpenLevel) → length ws ≡ length os
    → reverse (map (λ (l : OpenLevel). l.origin) (levels_opened t ws os ls)) ≡ reverse (map (λ (l : OpenLevel). l.origin) ls) ++ os
origins-opened t [] [] ls same = sym (append-nil (reverse (map (λ (l : OpenLevel). l.origin) ls)))
origins-opened t [] (o ∷ os) ls same = absurd (omega arith)
origins-opened t (w ∷ ws) [] ls same = absurd (omega arith)
origins-opened t (w ∷ ws) (o ∷ os) ls same =
    origins-opened t ws os (record { warp = w; parts = parts_at t w; origin = o } ∷ ls) (omega arith)
    ∙ (ap (λ (xs : List ℕ). xs ++ os) (reverse-append (o ∷ []) (map (λ (l : OpenLevel). l.origin) ls))
    ∙ append_assoc (reverse (map (λ (l : OpenLevel). l.origin) ls)) (o ∷ []) os)

-- where all steps are left, none was made
pub outset : (p : PlanParts) (s : Player) → InCourse p s → steps_left p s ≡ steps_of p s.process → s.made ≡ 0
unfolding steps_left
outset p s course all = let within = course.within in omega arith

-- a player that made no step is where its process starts
pub outset-place : (p : PlanParts) (s : Player) → InCourse p s → s.made ≡ 0 → place_reached p s ≡ start_place p s.process
unfolding place_reached start_place
outset-place p s course none =
    let start = (process_run p s.process).start in
    ap (λ (n : ℕ). place_of (spot_reached (standing p s.process n))) none
    ∙ ap (λ (os : List ℕ). place_of (record { position = start.position; origins = os }))
    (origins-opened p.stock (process_program p s.process).levels start.origins [] (start-depth p s.process course.fits course.process))
