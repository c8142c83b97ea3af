-- What the parts of a deformation up to one of them add, and where a walk along the parts stands.
use Rattle.std.proofs.Common.{◌≡◌, ℕ, suc, ◌+◌, ◌-◌, ◌<◌, ◌≤◌, List, [], ◌∷◌, ◌++◌, length, take, drop, ap, subst, arith, inl, inr, Some, slice_get, get_or, length-append}
use Rattle.std.proofs.lemmas.Bool.{cases_lt}
use Rattle.std.proofs.lemmas.List.{get_or_append_left, get_or_at, take-append-drop, take-append-le}
use Rattle.std.proofs.lemmas.List.Elements.{All-append, All-cons, All-nil}
use Rattle.std.proofs.lemmas.Option.{slice_get_within, get_or_from_slice_get}
use Rattle.std.proofs.Math.ListN.{drop_of_length-le}
use Rattle.std.proofs.Math.Seq.{drop-cons, take-length}
use Rattle.fm_warp.specs.declared.part.Part.{Part}
use Rattle.fm_warp.specs.declared.passed.Passed.{Passed}
use Rattle.fm_warp.specs.declared.side.Side.{Side}
use Rattle.fm_warp.specs.declared.walk.Walk.{Walk}
use Rattle.fm_warp.specs.declared.warp.TheConstants.{MAX_PARTS}
use Rattle.fm_warp.specs.Deformation.{IsPart, length_of, stretched_of, part_share, sum_from, deformed}
use Rattle.fm_warp.specs.Passed.{Adds, KeepsSums, added_of}
use Rattle.fm_warp.specs.Walk.{Reaches}
use Rattle.fm_warp.proofs.DeformationLemmas.{part_share-inside, sum_from-below}

-- one part more
pub KeepsSums-push : (parts : List Part) (passed : List Passed) (part : Part) (sums : Passed) → KeepsSums parts passed →
    length parts < MAX_PARTS → IsPart part → Adds (parts ++ part ∷ []) sums →
    KeepsSums (parts ++ part ∷ []) (passed ++ sums ∷ [])
KeepsSums-push parts passed part sums keeps few in_range adds =
    let long : length (parts ++ part ∷ []) ≡ length parts + 1 = length-append parts (part ∷ []) in
    record {
      few = omega (arith, long, few);
      in_range = All-append IsPart parts (part ∷ []) keeps.in_range (All-cons IsPart part [] in_range (All-nil IsPart));
      one_each = omega (arith, long, length-append passed (sums ∷ []), keeps.one_each);
      adds = λ i d below. elim (cases_lt i (length parts)) [
        | inl early ↦
            let same : take (i + 1) (parts ++ part ∷ []) ≡ take (i + 1) parts =
            take-append-le (i + 1) parts (part ∷ []) (omega arith) in
            let read : get_or (passed ++ sums ∷ []) i d ≡ get_or passed i d =
            get_or_append_left passed (sums ∷ []) d i (omega (arith, keeps.one_each)) in
            rw (same, read) (keeps.adds i d early)
        | inr late ↦
            let last : i + 1 ≡ length (parts ++ part ∷ []) = omega (arith, long, late, below) in
            let whole : take (i + 1) (parts ++ part ∷ []) ≡ parts ++ part ∷ [] = rw last (take-length (parts ++ part ∷ [])) in
            let read : get_or (passed ++ sums ∷ []) i d ≡ sums =
            get_or_at passed sums [] d i (omega (arith, long, late, below, keeps.one_each)) in
            rw (whole, read) adds
      ];
    }

-- the parts from an index on begin with the part at that index
drop-at : (parts : List Part) (i : ℕ) (part : Part) → slice_get parts i ≡ Some part →
    drop i parts ≡ part ∷ drop (i + 1) parts
drop-at parts i part here =
    let within : i < length parts = slice_get_within parts i part here in
    let whole : drop i parts ≡ get_or parts i part ∷ drop (suc i) parts = drop-cons parts i part within in
    let first : get_or parts i part ≡ part = get_or_from_slice_get parts i part part here in
    let next : suc i ≡ i + 1 = omega arith in
    rw first at (subst (λ (n : ℕ). drop i parts ≡ get_or parts i part ∷ drop n parts) next whole)

sum_from-at : (side : Side) (parts : List Part) (i : ℕ) (part : Part) (p x : ℕ) → slice_get parts i ≡ Some part →
    sum_from side (drop i parts) p x ≡ part_share side part p x + sum_from side (drop (i + 1) parts) (p + length_of part) x
sum_from-at side parts i part p x here =
    ap (λ (rest : List Part). sum_from side rest p x) (drop-at parts i part here)

-- where a walk stands, the sum over all parts is what those before it add and the sum over those from it on
deformed-split : (side : Side) (parts : List Part) (walk : Walk) (x : ℕ) → Reaches parts walk x →
    deformed side parts x ≡ added_of side walk.passed x + sum_from side (drop walk.index parts) walk.passed.position x
deformed-split side parts walk x reaches =
    subst (λ (all : List Part). deformed side all x ≡
    added_of side walk.passed x + sum_from side (drop walk.index parts) walk.passed.position x)
    (take-append-drop walk.index parts) (reaches.adds.splits side (drop walk.index parts) x reaches.rising)

-- where it stands inside the part at its place
pub deformed-inside : (side : Side) (parts : List Part) (walk : Walk) (part : Part) (x : ℕ) →
    slice_get parts walk.index ≡ Some part → Reaches parts walk x → x - walk.passed.position < length_of part →
    deformed side parts x ≡ added_of side walk.passed x + stretched_of part (x - walk.passed.position)
deformed-inside side parts walk part x here reaches below =
    let p = walk.passed.position in
    let short : x < p + length_of part = omega (arith, reaches.rising) in
    omega (
      arith,
      deformed-split side parts walk x reaches,
      sum_from-at side parts walk.index part p x here,
      part_share-inside side part p x reaches.rising short,
      sum_from-below side (drop (walk.index + 1) parts) (p + length_of part) x short,
    )

-- and where it stands past the last part
pub deformed-past : (side : Side) (parts : List Part) (walk : Walk) (x : ℕ) → length parts ≤ walk.index →
    Reaches parts walk x → deformed side parts x ≡ added_of side walk.passed x + (x - walk.passed.position)
deformed-past side parts walk x past reaches =
    rw (drop_of_length-le parts past) at (deformed-split side parts walk x reaches)
