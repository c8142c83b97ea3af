-- The levels that are open where a process starts: how many they are, and the positions in them alone.
use Rattle.std.proofs.Common.{◌≡◌, ℕ, suc, ◌+◌, ◌<◌, ◌≤◌, List, [], ◌∷◌, length, take, refl, ◌∙◌, ap, subst, arith}
use Rattle.fm_warp.specs.declared.part.Part.{Part}
use Rattle.fm_nest.specs.declared.frame.Frame.{Frame}
use Rattle.fm_nest.specs.declared.place.Place.{Place}
use Rattle.fm_nest.specs.Nesting.{framed}
use Rattle.fm_locate.specs.Locating.{AreLocated, IsNeverAt}
use Rattle.fm_locate.specs.declared.levels.Located.{Located}
use Rattle.fm_locate.specs.declared.levels.Located.TheVariants.{There, Never}
use Rattle.fm_program.specs.Parts.{PlanParts, process_program}
use Rattle.fm_program.specs.Fit.{PartsFit}
use Rattle.fm_strand.specs.Course.{start_place}
use Rattle.fm_player.proofs.BeginLemmas.{begin-depth}
use Rattle.fm_strand.proofs.PlaceLemmas.{start-fits}
use Rattle.fm_position.specs.Levels.{IsFound, depth_at, levels_at}

-- levels of ids with origins enough
length-framed : (ids origins : List ℕ) → length ids ≤ length origins → length (framed ids origins) ≡ length ids
length-framed [] origins enough = refl
length-framed (id ∷ ids) [] enough = absurd (omega arith)
length-framed (id ∷ ids) (origin ∷ origins) enough = ap suc (length-framed ids origins (omega arith))

-- there are as many levels as the place says
pub length-levels_at : (p : PlanParts) (j : ℕ) → PartsFit p → j < length p.programs → length (levels_at p j) ≡ depth_at p j
unfolding levels_at
length-levels_at p j fits below =
    let place = start-fits p j fits below in
    let ids : length (process_program p j).levels ≡ (start_place p j).depth = begin-depth p j (start_place p j) fits below refl in
    length-framed (process_program p j).levels (start_place p j).origins (omega (arith, ids, place.depth, place.origins)) ∙ ids

-- the positions of the levels themselves, without those behind the last
pub AreLocated-open : (warps : List (List Part)) (frames : List Frame) (t : ℕ) (xs : List ℕ) → AreLocated warps frames t xs
    → AreLocated warps frames t (take (length frames) xs)
AreLocated-open warps [] t xs located = tt
AreLocated-open warps (frame ∷ inner) t [] located = absurd located
AreLocated-open warps (frame ∷ inner) t (x ∷ xs) located = (located.0, AreLocated-open warps inner x xs located.1)

-- there is one for each
pub length-open : (warps : List (List Part)) (frames : List Frame) (t : ℕ) (xs : List ℕ) → AreLocated warps frames t xs
    → length (take (length frames) xs) ≡ length frames
length-open warps [] t xs located = refl
length-open warps (frame ∷ inner) t [] located = absurd located
length-open warps (frame ∷ inner) t (x ∷ xs) located = ap suc (length-open warps inner x xs located.1)

-- what is found in levels of these ids and deformations at the place of a start is found in the levels of the process
pub IsFound-start : (p : PlanParts) (j tick : ℕ) (place : Place) (ids : List ℕ) (warps : List (List Part)) (located : Located)
    → place ≡ start_place p j → ids ≡ (process_program p j).levels → warps ≡ p.stock.warps
    → ((xs : List ℕ) → located ≡ There xs → AreLocated warps (framed ids place.origins) tick xs)
    → ((level : ℕ) → located ≡ Never level → (k : ℕ) × (level ≡ k + 1) × IsNeverAt warps (framed ids place.origins) tick k)
    → IsFound p.stock.warps (levels_at p j) tick located
unfolding levels_at
IsFound-start p j tick place ids warps located at_start named of are never = at located are never
  where
    frames : framed ids place.origins ≡ framed (process_program p j).levels (start_place p j).origins
    frames =
        ap (λ (x : Place). framed ids x.origins) at_start
        ∙ ap (λ (ws : List ℕ). framed ws (start_place p j).origins) named

    at : (found : Located)
        → ((xs : List ℕ) → found ≡ There xs → AreLocated warps (framed ids place.origins) tick xs)
        → ((level : ℕ) → found ≡ Never level → (k : ℕ) × (level ≡ k + 1) × IsNeverAt warps (framed ids place.origins) tick k)
        → IsFound p.stock.warps (levels_at p j) tick found
    at (There xs) are never =
        subst (λ (fs : List Frame). AreLocated p.stock.warps fs tick xs) frames
        (subst (λ (ws : List (List Part)). AreLocated ws (framed ids place.origins) tick xs) of (are xs refl))
    at (Never level) are never =
        let gone = never level refl in (
          gone.0,
          gone.1,
          subst (λ (fs : List Frame). IsNeverAt p.stock.warps fs tick gone.0) frames
              (subst (λ (ws : List (List Part)). IsNeverAt ws (framed ids place.origins) tick gone.0) of gone.2),
        )
