-- A walk through levels from the outermost inwards, with the positions found so far.
use Rattle.std.proofs.Common.{◌≡◌, ℕ, zero, suc, ◌+◌, ◌<◌, ◌≤◌, List, [], ◌∷◌, ◌++◌, drop, set, get_or, length, refl, subst, arith, add-one, append_assoc}
use Rattle.std.proofs.lemmas.List.{drop_more, drop-set-lt, length-append}
use Rattle.fm_warp.specs.declared.part.Part.{Part}
use Rattle.fm_nest.specs.declared.frame.Frame.{Frame}
use Rattle.fm_nest.specs.Nesting.{framed, parts_of}
use Rattle.fm_locate.specs.Locating.{AreLocated, AreZero, IsLeastAt, IsNever, IsNeverAt}

-- what the levels inside have at the tick sought makes, behind what was found, what all levels have at t
pub record Walks (warps : List (List Part)) (frames : List Frame) (t : ℕ) (done : List ℕ) (inner : List Frame) (sought : ℕ) : Type 0 where
  pub found : (xs : List ℕ) → AreLocated warps inner sought xs → AreLocated warps frames t (done ++ xs)
  pub never : (k : ℕ) → IsNeverAt warps inner sought k → IsNeverAt warps frames t (length done + k)

-- before the first level nothing is found
pub Walks-none : (warps : List (List Part)) (frames : List Frame) (t : ℕ) → Walks warps frames t [] frames t
Walks-none warps frames t = record {
  found = λ xs located. located;
  never = λ k never. subst (λ (n : ℕ). IsNeverAt warps frames t n) (omega arith) never;
}

-- one level more
pub Walks-more : (warps : List (List Part)) (frames : List Frame) (t : ℕ) (done : List ℕ) (frame : Frame) (inner : List Frame)
    (sought x : ℕ) → Walks warps frames t done (frame ∷ inner) sought →
    IsLeastAt frame.origin (parts_of warps frame) sought x → Walks warps frames t (done ++ x ∷ []) inner x
Walks-more warps frames t done frame inner sought x walks least = record {
  found = λ xs rest. rw (append_assoc done (x ∷ []) xs) (walks.found (x ∷ xs) (least, rest));
  never = λ k rest.
      subst (λ (n : ℕ). IsNeverAt warps frames t n) (omega (arith, length-append done (x ∷ [])))
      (walks.never (suc k) (x, least, rest));
}

-- a level that never comes to the tick sought is the first such of all
pub Walks-never : (warps : List (List Part)) (frames : List Frame) (t : ℕ) (done : List ℕ) (frame : Frame) (inner : List Frame)
    (sought : ℕ) → Walks warps frames t done (frame ∷ inner) sought → IsNever frame.origin (parts_of warps frame) sought →
    IsNeverAt warps frames t (length done)
Walks-never warps frames t done frame inner sought walks never =
    subst (λ (n : ℕ). IsNeverAt warps frames t n) (omega arith) (walks.never 0 never)

-- ---- levels of ids and origins

level_suc : (ids origins : List ℕ) (i : ℕ) → i < length ids → i < length origins →
    drop i (framed ids origins) ≡ record { warp = get_or ids i 0; origin = get_or origins i 0 } ∷ drop (suc i) (framed ids origins)
level_suc [] origins i below short = absurd (omega arith)
level_suc (first ∷ ids) [] i below short = absurd (omega arith)
level_suc (first ∷ ids) (origin ∷ origins) zero below short = refl
level_suc (first ∷ ids) (origin ∷ origins) (suc i) below short = level_suc ids origins i (omega arith) (omega arith)

-- the levels from one on are that level and those inside it
pub framed-drop : (ids origins : List ℕ) (i : ℕ) → i < length ids → i < length origins →
    drop i (framed ids origins) ≡ record { warp = get_or ids i 0; origin = get_or origins i 0 } ∷ drop (i + 1) (framed ids origins)
framed-drop ids origins i below short = rw add-one (level_suc ids origins i below short)

-- no level is left behind the last
pub framed-all : (ids origins : List ℕ) (i : ℕ) → length ids ≤ i → drop i (framed ids origins) ≡ []
framed-all [] origins zero all = refl
framed-all [] origins (suc i) all = refl
framed-all (first ∷ ids) [] zero all = refl
framed-all (first ∷ ids) [] (suc i) all = refl
framed-all (first ∷ ids) (origin ∷ origins) zero all = absurd (omega arith)
framed-all (first ∷ ids) (origin ∷ origins) (suc i) all = framed-all ids origins i (omega arith)

-- ---- positions written one by one

-- behind a position that is written, all is still 0
pub AreZero-set : (i x : ℕ) (positions : List ℕ) → i < length positions → AreZero (drop i positions) →
    AreZero (drop (i + 1) (set positions i x))
AreZero-set i x positions below zeros =
    rw (drop-set-lt (i + 1) positions i x (omega arith)) (subst AreZero (drop_more positions i 0 below) zeros).1
