-- A tick is located once.
use Rattle.std.proofs.Common.{◌≡◌, ℕ, zero, suc, List, [], ◌∷◌, length, refl, ap, subst, arith}
use Rattle.fm_warp.specs.declared.part.Part.{Part}
use Rattle.fm_nest.specs.declared.frame.Frame.{Frame}
use Rattle.fm_nest.specs.Nesting.{parts_of}
use Rattle.fm_locate.specs.Locating.{AreLocated, AreZero, IsLeastAt, IsNever, IsNeverAt}

one_least : (origin : ℕ) (parts : List Part) (t x y : ℕ) → IsLeastAt origin parts t x → IsLeastAt origin parts t y → x ≡ y
one_least origin parts t x y a b =
    let low = a.least y b.limited b.there in let high = b.least x a.limited a.there in omega (arith, low, high)

not_both : (origin : ℕ) (parts : List Part) (t x : ℕ) → IsLeastAt origin parts t x → IsNever origin parts t → ⊥
not_both origin parts t x a never =
    let there = a.there in let before = never x a.limited in absurd (omega (arith, there, before))

zeros_once : (xs ys : List ℕ) → length xs ≡ length ys → AreZero xs → AreZero ys → xs ≡ ys
zeros_once [] [] long a b = refl
zeros_once [] (y ∷ ys) long a b = absurd (omega (arith, long))
zeros_once (x ∷ xs) [] long a b = absurd (omega (arith, long))
zeros_once (x ∷ xs) (y ∷ ys) long a b = rw (a.0, b.0, zeros_once xs ys (omega (arith, long)) a.1 b.1) refl

pub located_once : (warps : List (List Part)) (frames : List Frame) (t : ℕ) (xs ys : List ℕ) → length xs ≡ length ys →
    AreLocated warps frames t xs → AreLocated warps frames t ys → xs ≡ ys
located_once warps [] t xs ys long a b = zeros_once xs ys long a b
located_once warps (frame ∷ inner) t [] ys long a b = absurd a
located_once warps (frame ∷ inner) t (x ∷ xs) [] long a b = absurd b
located_once warps (frame ∷ inner) t (x ∷ xs) (y ∷ ys) long a b =
    let same = one_least frame.origin (parts_of warps frame) t x y a.0 b.0 in
    let rest = located_once warps inner y xs ys (omega (arith, long))
    (subst (λ (n : ℕ). AreLocated warps inner n xs) same a.1) b.1 in
    rw (same, rest) refl

pub never_once : (warps : List (List Part)) (frames : List Frame) (t k l : ℕ) → IsNeverAt warps frames t k →
    IsNeverAt warps frames t l → k ≡ l
never_once warps [] t k l a b = absurd a
never_once warps (frame ∷ inner) t zero zero a b = refl
never_once warps (frame ∷ inner) t zero (suc l) a b =
    absurd (not_both frame.origin (parts_of warps frame) t b.0 b.1 a)
never_once warps (frame ∷ inner) t (suc k) zero a b =
    absurd (not_both frame.origin (parts_of warps frame) t a.0 a.1 b)
never_once warps (frame ∷ inner) t (suc k) (suc l) a b =
    let same = one_least frame.origin (parts_of warps frame) t a.0 b.0 a.1 b.1 in
    ap suc (never_once warps inner b.0 k l (subst (λ (n : ℕ). IsNeverAt warps inner n k) same a.2) b.2)

pub located_or_never : (warps : List (List Part)) (frames : List Frame) (t k : ℕ) (xs : List ℕ) → AreLocated warps frames t xs →
    IsNeverAt warps frames t k → ⊥
located_or_never warps [] t k xs a b = absurd b
located_or_never warps (frame ∷ inner) t k [] a b = absurd a
located_or_never warps (frame ∷ inner) t zero (x ∷ xs) a b = not_both frame.origin (parts_of warps frame) t x a.0 b
located_or_never warps (frame ∷ inner) t (suc k) (x ∷ xs) a b =
    let same = one_least frame.origin (parts_of warps frame) t x b.0 a.0 b.1 in
    located_or_never warps inner b.0 k xs (subst (λ (n : ℕ). AreLocated warps inner n xs) same a.1) b.2
