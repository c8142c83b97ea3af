-- Lists over the numbers below another, one after another.
use Rattle.std.proofs.Common.{◌≡◌, ℕ, zero, suc, ◌+◌, ◌-◌, ◌*◌, ◌<◌, ◌≤◌, List, [], ◌∷◌, ◌++◌, refl, sym, ◌∙◌, ap, arith, append_assoc, add-one, add-suc, add-zero}
use Rattle.std.specs.List.{flat_map}
use Rattle.std.proofs.lemmas.List.{append-nil}
use Rattle.std.proofs.lemmas.Grind.{flat_map-append}
use Rattle.fm_excerpt.specs.Excerpt.{below}

module _ {A : Type 0} where
  -- no number
  pub below_none : (f : ℕ → List A) → flat_map f (below 0) ≡ []
  unfolding below
  below_none f = refl

  pub below_suc : (f : ℕ → List A) (n : ℕ) → flat_map f (below (suc n)) ≡ flat_map f (below n) ++ f n
  unfolding below
  below_suc f n = flat_map-append f (below n) (n ∷ []) ∙ ap (λ z. flat_map f (below n) ++ z) (append-nil (f n))

  -- one number more
  pub below_more : (f : ℕ → List A) (n : ℕ) → flat_map f (below (n + 1)) ≡ flat_map f (below n) ++ f n
  below_more f n = rw add-one (below_suc f n)

  -- the same at each number
  pub below_same : (f g : ℕ → List A) (n : ℕ) → ((i : ℕ) → i < n → f i ≡ g i) → flat_map f (below n) ≡ flat_map g (below n)
  below_same f g zero same = below_none f ∙ sym (below_none g)
  below_same f g (suc n) same =
      below_suc f n ∙ ap (λ z. z ++ f n) (below_same f g n (λ i less. same i (omega arith)))
      ∙ ap (λ z. flat_map g (below n) ++ z) (same n (omega arith)) ∙ sym (below_suc g n)

  -- nothing at each number
  pub below_empty : (f : ℕ → List A) (n : ℕ) → ((i : ℕ) → i < n → f i ≡ []) → flat_map f (below n) ≡ []
  below_empty f zero none = below_none f
  below_empty f (suc n) none =
      below_suc f n ∙ ap (λ z. z ++ f n) (below_empty f n (λ i less. none i (omega arith))) ∙ none n (omega arith)

  -- the numbers below a sum
  pub below_add : (f : ℕ → List A) (m n : ℕ) →
      flat_map f (below (m + n)) ≡ flat_map f (below m) ++ flat_map (λ k. f (m + k)) (below n)
  below_add f m zero =
      rw add-zero (sym (ap (λ z. flat_map f (below m) ++ z) (below_none (λ k. f (m + k))) ∙ append-nil (flat_map f (below m))))
  below_add f m (suc n) =
      rw add-suc (below_suc f (m + n) ∙ ap (λ z. z ++ f (m + n)) (below_add f m n)
      ∙ append_assoc (flat_map f (below m)) (flat_map (λ k. f (m + k)) (below n)) (f (m + n))
      ∙ ap (λ z. flat_map f (below m) ++ z) (sym (below_suc (λ k. f (m + k)) n)))

  -- the numbers below a product, row by row
  pub below_rows : (f : ℕ → List A) (m n : ℕ) →
      flat_map f (below (n * m)) ≡ flat_map (λ c. flat_map (λ k. f (c * m + k)) (below m)) (below n)
  below_rows f m zero =
      ap (λ n. flat_map f (below n)) {x = 0 * m} {y = 0} (omega arith) ∙ below_none f
      ∙ sym (below_none (λ c. flat_map (λ k. f (c * m + k)) (below m)))
  below_rows f m (suc n) =
      ap (λ j. flat_map f (below j)) {x = suc n * m} {y = n * m + m} (omega arith) ∙ below_add f (n * m) m
      ∙ ap (λ z. z ++ flat_map (λ k. f (n * m + k)) (below m)) (below_rows f m n)
      ∙ sym (below_suc (λ c. flat_map (λ k. f (c * m + k)) (below m)) n)

  -- what the numbers from k on add
  pub record Left (f : ℕ → List A) (k n : ℕ) : Type 0 where
    pub more : List A
    pub all : flat_map f (below k) ++ more ≡ flat_map f (below n)

  pub below_left : (f : ℕ → List A) (k n : ℕ) → k ≤ n → Left f k n
  below_left f k n le = record {
    more = flat_map (λ j. f (k + j)) (below (n - k));
    all = sym (below_add f k (n - k)) ∙ ap (λ j. flat_map f (below j)) {x = k + (n - k)} {y = n} (omega arith);
  }
