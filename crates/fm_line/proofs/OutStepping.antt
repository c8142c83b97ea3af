-- What comes out before a sound, one at a time.
use Rattle.std.proofs.Common.{◌≡◌, ℕ, suc, ◌+◌, ◌<◌, ◌≤◌, List, [], ◌∷◌, length, refl, arith}
use Rattle.std.specs.List.{AllByRecursion}
use Rattle.fm_line.specs.Sounds.{Sound, pick, too_many, moved_to, out_before, left_waiting, most_waiting}
use Rattle.fm_line.proofs.OutPicking.{due-first, later-pick, due-none, later-all}

-- where the earliest one is due, it comes out first
pub out-due : (t k : ℕ) (x : Sound) (xs : List Sound) → (pick x xs).first.time ≤ t
    → out_before t k (x ∷ xs) ≡ (pick x xs).first ∷ out_before t k (pick x xs).others
out-due t k x xs l = rw (due-first t x xs l, later-pick t x xs l) refl

pub left-due : (t k : ℕ) (x : Sound) (xs : List Sound) → (pick x xs).first.time ≤ t
    → left_waiting t k (x ∷ xs) ≡ left_waiting t k (pick x xs).others
left-due t k x xs l = rw (later-pick t x xs l) refl

module _ (t k : ℕ) (x : Sound) (xs : List Sound) (late : AllByRecursion (λ (y : Sound). t < y.time) (x ∷ xs))
    (many : most_waiting < length (x ∷ xs) + k) where
  over : too_many k (x ∷ xs) ≡ suc (too_many k xs)
  over = omega arith

  -- where none is due and there are too many, the one that waits longest is cut
  pub out-cut : out_before t k (x ∷ xs) ≡ moved_to t x ∷ out_before t k xs
  out-cut =
      rw (due-none t (x ∷ xs) late, later-all t (x ∷ xs) late, due-none t xs late.1, later-all t xs late.1, over) refl

  pub left-cut : left_waiting t k (x ∷ xs) ≡ left_waiting t k xs
  left-cut = rw (later-all t (x ∷ xs) late, later-all t xs late.1, over) refl

module _ (t k : ℕ) (xs : List Sound) (late : AllByRecursion (λ (y : Sound). t < y.time) xs)
    (few : length xs + k ≤ most_waiting) where
  fits : too_many k xs ≡ 0
  fits = omega arith

  -- where none is due and there is room, nothing comes out
  pub out-none : out_before t k xs ≡ []
  out-none = rw (due-none t xs late, later-all t xs late, fits) refl

  pub left-none : left_waiting t k xs ≡ xs
  left-none = rw (later-all t xs late, fits) refl
