-- What is read is what was written, and nothing else.
use Rattle.std.proofs.Common.{◌≡◌, ℕ, zero, suc, ◌+◌, ◌*◌, ◌/◌, ◌%◌, ◌<◌, ◌≤◌, List, [], ◌∷◌, ◌++◌, take, length, Bool, true, false, Option, Some, None, refl, sym, ◌∙◌, ap, subst, arith, length-take, add-one}
use Rattle.std.specs.Prelude.{if◌then◌else◌, nat_eq, nat_lt}
use Rattle.std.specs.Option.{option_map}
use Rattle.std.proofs.lemmas.Bool.{eqb-true, ltb-true, ltb-false, le-ltb}
use Rattle.std.proofs.lemmas.List.{append_cancel_left, take_more}
use Rattle.fm_core.specs.declared.step.Step.{Step}
use Rattle.fm_core.specs.declared.step.Step.TheVariants.{Look, Claim, Start, Record, Recall, Give, Publish, Pace, Release}
use Rattle.fm_record.specs.StepBytes.{clock_bound, HasFields, HaveFields, IsFirst, Begins, flag, step_bytes, steps_bytes, two, four, six}
use Rattle.fm_record.specs.Reading.{byte_at, made, read, size_of, two_at, four_at, six_at}

-- ---- what was written is read

-- whole fields are read as the step that they make
read_as : (bs : List ℕ) (s t : Step) (n : ℕ) → size_of (byte_at bs 0) ≡ n → n ≤ length bs → made bs ≡ Some t → t ≡ s
    → read bs ≡ Some (s, n)
read_as bs s t n size whole this same = rw (size, this, same, le-ltb (length bs) n whole) refl

two_back : (n : ℕ) → n / 256 * 256 + n % 256 ≡ n
two_back n = omega arith

pub four_back : (n : ℕ) → n < 4294967296
    → (n / 65536 / 256 * 256 + n / 65536 % 256) * 65536 + (n % 65536 / 256 * 256 + n % 65536 % 256) ≡ n
four_back n small = omega arith

six_back : (n : ℕ) → n < clock_bound
    → (n / 4294967296 / 256 * 256 + n / 4294967296 % 256) * 4294967296
    + ((n % 4294967296 / 65536 / 256 * 256 + n % 4294967296 / 65536 % 256) * 65536
    + (n % 4294967296 % 65536 / 256 * 256 + n % 4294967296 % 65536 % 256)) ≡ n
six_back n small = omega arith

-- a step is read from the front of its bytes
pub read_back : (s : Step) (rest : List ℕ) → HasFields s → read (step_bytes s ++ rest) ≡ Some (s, length (step_bytes s))
read_back (Look s p) rest fits =
    read_as (step_bytes (Look s p) ++ rest) (Look s p) _ 4 refl (omega arith) refl (rw (two_back p) refl)
read_back (Claim s p) rest fits =
    read_as (step_bytes (Claim s p) ++ rest) (Claim s p) _ 4 refl (omega arith) refl (rw (two_back p) refl)
read_back (Start s p) rest fits =
    read_as (step_bytes (Start s p) ++ rest) (Start s p) _ 4 refl (omega arith) refl (rw (two_back p) refl)
read_back (Record s p) rest fits =
    read_as (step_bytes (Record s p) ++ rest) (Record s p) _ 4 refl (omega arith) refl (rw (two_back p) refl)
read_back (Recall s p) rest fits =
    read_as (step_bytes (Recall s p) ++ rest) (Recall s p) _ 4 refl (omega arith) refl (rw (two_back p) refl)
read_back (Give s p t n clock true) rest fits =
    read_as (step_bytes (Give s p t n clock true) ++ rest) (Give s p t n clock true) _ 14 refl (omega arith) refl
    (rw (two_back p, two_back n, six_back clock fits.4) refl)
read_back (Give s p t n clock false) rest fits =
    read_as (step_bytes (Give s p t n clock false) ++ rest) (Give s p t n clock false) _ 14 refl (omega arith) refl
    (rw (two_back p, two_back n, six_back clock fits.4) refl)
read_back Publish rest fits = read_as (step_bytes Publish ++ rest) Publish Publish 1 refl (omega arith) refl refl
read_back (Pace s) rest fits = read_as (step_bytes (Pace s) ++ rest) (Pace s) (Pace s) 2 refl (omega arith) refl refl
read_back (Release k) rest fits =
    read_as (step_bytes (Release k) ++ rest) (Release k) _ 5 refl (omega arith) refl (rw (four_back k fits) refl)

-- ---- what is read was written

-- the first n bytes, one after the other
abbrev pub firsts : ℕ → List ℕ → List ℕ
firsts zero bs = []
firsts (suc n) bs = firsts n bs ++ byte_at bs n ∷ []

-- a list begins with its first elements
pub take_firsts : (n : ℕ) (bs : List ℕ) → n ≤ length bs → take n bs ≡ firsts n bs
take_firsts zero bs whole = refl
take_firsts (suc n) bs whole =
    (rw add-one at (take_more bs n 0 (omega arith))) ∙ ap (λ (xs : List ℕ). xs ++ byte_at bs n ∷ []) (take_firsts n bs (omega arith))

-- one of two answers was given
by_test : {P : Type 0} (b : Bool) (x y : Option Step) (s : Step) → (if b then x else y) ≡ Some s
    → (b ≡ true → x ≡ Some s → P) → (y ≡ Some s → P) → P
by_test true x y s given here else_ = here refl given
by_test false x y s given here else_ = else_ given

same_step : (s t : Step) → Some s ≡ Some t → s ≡ t
same_step s t e = cc

-- each of the bytes is one
abbrev AreBytes : List ℕ → Type 0
AreBytes bs = (i : ℕ) → byte_at bs i < 256

two_high : (a b : ℕ) → b < 256 → (a * 256 + b) / 256 ≡ a
two_high a b small = omega arith

two_low : (a b : ℕ) → b < 256 → (a * 256 + b) % 256 ≡ b
two_low a b small = omega arith

two_pair : (a b : ℕ) → b < 256 → two (a * 256 + b) ≡ a ∷ b ∷ []
two_pair a b small = rw (two_high a b small, two_low a b small) refl

pair_spelt : (bs : List ℕ) (k : ℕ) → AreBytes bs → 4 ≤ length bs → byte_at bs 0 ≡ k
    → take 4 bs ≡ k ∷ byte_at bs 1 ∷ two (two_at bs 2)
pair_spelt bs k bytes whole kind =
    take_firsts 4 bs whole ∙ rw (two_pair (byte_at bs 2) (byte_at bs 3) (bytes 3), kind) refl

two_small : (bs : List ℕ) (i : ℕ) → AreBytes bs → two_at bs i < 65536
two_small bs i bytes = let high = bytes i in let low = bytes (i + 1) in omega arith

four_small : (bs : List ℕ) (i : ℕ) → AreBytes bs → four_at bs i < 4294967296
four_small bs i bytes = let high = two_small bs i bytes in let low = two_small bs (i + 2) bytes in omega arith

six_small : (bs : List ℕ) (i : ℕ) → AreBytes bs → six_at bs i < clock_bound
six_small bs i bytes = let high = two_small bs i bytes in let low = four_small bs (i + 2) bytes in omega arith

pub four_pair : (a b c d : ℕ) → b < 256 → c < 256 → d < 256
    → four ((a * 256 + b) * 65536 + (c * 256 + d)) ≡ a ∷ b ∷ c ∷ d ∷ []
four_pair a b c d sb sc sd =
    let high : ((a * 256 + b) * 65536 + (c * 256 + d)) / 65536 ≡ a * 256 + b = omega arith in
    let low : ((a * 256 + b) * 65536 + (c * 256 + d)) % 65536 ≡ c * 256 + d = omega arith in
    rw (high, low, two_high a b sb, two_low a b sb, two_high c d sd, two_low c d sd) refl

six_pair : (a b c d e f : ℕ) → b < 256 → c < 256 → d < 256 → e < 256 → f < 256
    → six ((a * 256 + b) * 4294967296 + ((c * 256 + d) * 65536 + (e * 256 + f))) ≡ a ∷ b ∷ c ∷ d ∷ e ∷ f ∷ []
six_pair a b c d e f sb sc sd se sf =
    let low_part : ℕ = (c * 256 + d) * 65536 + (e * 256 + f) in
    let high : ((a * 256 + b) * 4294967296 + low_part) / 4294967296 ≡ a * 256 + b = omega arith in
    let low : ((a * 256 + b) * 4294967296 + low_part) % 4294967296 ≡ low_part = omega arith in
    rw (high, low, two_high a b sb, two_low a b sb, four_pair c d e f sd se sf) refl

flag_back : (b : ℕ) → b < 2 → flag (nat_eq b 1) ≡ b
flag_back zero small = refl
flag_back (suc zero) small = refl
flag_back (suc (suc b)) small = absurd (omega arith)

give_parts : (k j s t f g : ℕ) (p q n m c d : List ℕ) → k ≡ j → p ≡ q → n ≡ m → c ≡ d → f ≡ g
    → k ∷ s ∷ p ++ t ∷ n ++ c ++ f ∷ [] ≡ j ∷ s ∷ q ++ t ∷ m ++ d ++ g ∷ []
give_parts k j s t f g p q n m c d a b e h i = rw (a, b, e, h, i) refl

give_spelt : (bs : List ℕ) → AreBytes bs → 14 ≤ length bs → byte_at bs 0 ≡ 6 → byte_at bs 13 < 2
    → take 14 bs ≡ step_bytes (Give (byte_at bs 1) (two_at bs 2) (byte_at bs 4) (two_at bs 5) (six_at bs 7) (nat_eq (byte_at bs 13) 1))
give_spelt bs bytes whole kind small =
    take_firsts 14 bs whole
    ∙ give_parts (byte_at bs 0) 6 (byte_at bs 1) (byte_at bs 4) (byte_at bs 13) (flag (nat_eq (byte_at bs 13) 1))
    (byte_at bs 2 ∷ byte_at bs 3 ∷ []) (two (two_at bs 2)) (byte_at bs 5 ∷ byte_at bs 6 ∷ []) (two (two_at bs 5))
    (byte_at bs 7 ∷ byte_at bs 8 ∷ byte_at bs 9 ∷ byte_at bs 10 ∷ byte_at bs 11 ∷ byte_at bs 12 ∷ []) (six (six_at bs 7))
    kind (sym (two_pair (byte_at bs 2) (byte_at bs 3) (bytes 3))) (sym (two_pair (byte_at bs 5) (byte_at bs 6) (bytes 6)))
    (sym (six_pair (byte_at bs 7) (byte_at bs 8) (byte_at bs 9) (byte_at bs 10) (byte_at bs 11) (byte_at bs 12) (bytes 8) (bytes 9)
    (bytes 10) (bytes 11) (bytes 12))) (sym (flag_back (byte_at bs 13) small))

no_step : (s : Step) → None ≡ Some s → ⊥
no_step s e = cc

module _ (bs : List ℕ) (s : Step) (bytes : AreBytes bs) (whole : size_of (byte_at bs 0) ≤ length bs) where
  -- whole fields of this kind are the step t, of n bytes
  of_kind : (k n : ℕ) (t : Step) → byte_at bs 0 ≡ k → size_of k ≡ n → HasFields t → (n ≤ length bs → take n bs ≡ step_bytes t)
      → Some t ≡ Some s → IsFirst bs s (size_of (byte_at bs 0))
  of_kind k n t kind size fits same this =
      let there : n ≤ length bs = rw (kind, size) at whole in
      subst (λ (x : Step). IsFirst bs x (size_of (byte_at bs 0))) (same_step t s this)
      (rw (kind, size) (record { fits = fits; whole = there; same = same there }))

  of_pair : (k : ℕ) (t : Step) → byte_at bs 0 ≡ k → size_of k ≡ 4 → HasFields t
      → step_bytes t ≡ k ∷ byte_at bs 1 ∷ two (two_at bs 2) → Some t ≡ Some s → IsFirst bs s (size_of (byte_at bs 0))
  of_pair k t kind size fits same this =
      of_kind k 4 t kind size fits (λ there. pair_spelt bs k bytes there kind ∙ sym same) this

  of_give : byte_at bs 0 ≡ 6
      → (if nat_lt (byte_at bs 13) 2 then
      Some (Give (byte_at bs 1) (two_at bs 2) (byte_at bs 4) (two_at bs 5) (six_at bs 7) (nat_eq (byte_at bs 13) 1))
      else None) ≡ Some s → IsFirst bs s (size_of (byte_at bs 0))
  of_give kind this =
      by_test _ _ _ s this
      (λ small. of_kind 6 14 _ kind refl (bytes 1, two_small bs 2 bytes, bytes 4, two_small bs 5 bytes, six_small bs 7 bytes)
      (λ there. give_spelt bs bytes there kind (ltb-true _ _ small)))
      (λ none. absurd (no_step s none))

  of_release : byte_at bs 0 ≡ 9 → 5 ≤ length bs → take 5 bs ≡ step_bytes (Release (four_at bs 1))
  of_release kind there =
      take_firsts 5 bs there
      ∙ rw (four_pair (byte_at bs 1) (byte_at bs 2) (byte_at bs 3) (byte_at bs 4) (bytes 2) (bytes 3) (bytes 4), kind) refl

  -- whole fields that make a step are that step
  pub made_only : made bs ≡ Some s → IsFirst bs s (size_of (byte_at bs 0))
  made_only this =
      by_test _ _ _ s this
      (λ is. of_pair 1 _ (eqb-true _ _ is) refl (bytes 1, two_small bs 2 bytes) refl)
      (λ this. by_test _ _ _ s this
      (λ is. of_pair 2 _ (eqb-true _ _ is) refl (bytes 1, two_small bs 2 bytes) refl)
      (λ this. by_test _ _ _ s this
      (λ is. of_pair 3 _ (eqb-true _ _ is) refl (bytes 1, two_small bs 2 bytes) refl)
      (λ this. by_test _ _ _ s this
      (λ is. of_pair 4 _ (eqb-true _ _ is) refl (bytes 1, two_small bs 2 bytes) refl)
      (λ this. by_test _ _ _ s this
      (λ is. of_pair 5 _ (eqb-true _ _ is) refl (bytes 1, two_small bs 2 bytes) refl)
      (λ this. by_test _ _ _ s this (λ is. of_give (eqb-true _ _ is))
      (λ this. by_test _ _ _ s this
      (λ is. of_kind 7 1 Publish (eqb-true _ _ is) refl tt (λ there. take_firsts 1 bs there ∙ rw (eqb-true _ _ is) refl))
      (λ this. by_test _ _ _ s this
      (λ is. of_kind 8 2 (Pace (byte_at bs 1)) (eqb-true _ _ is) refl (bytes 1)
      (λ there. take_firsts 2 bs there ∙ rw (eqb-true _ _ is) refl))
      (λ this. by_test _ _ _ s this
      (λ is. of_kind 9 5 (Release (four_at bs 1)) (eqb-true _ _ is) refl (four_small bs 1 bytes) (of_release (eqb-true _ _ is)))
      (λ none. absurd (no_step s none))))))))))

if_none : (b : Bool) (x : Option (Step × ℕ)) (y : Step × ℕ) → (if b then None else x) ≡ Some y → (b ≡ false) × (x ≡ Some y)
if_none true x y e = absurd cc
if_none false x y e = (refl, e)

-- a step and its size
abbrev sized : Step → ℕ → Step × ℕ
sized s n = (s, n)

some_pair : (s t : Step) (n m : ℕ) → Some (sized s n) ≡ Some (sized t m) → (s ≡ t) × (n ≡ m)
some_pair s t n m e =
    let same : sized s n ≡ sized t m = cc in
    (ap (λ (p : Step × ℕ). p.0) same, ap (λ (p : Step × ℕ). p.1) same)

mapped_some : (o : Option Step) (n m : ℕ) (s : Step) → option_map (λ t. sized t n) o ≡ Some (sized s m) → (o ≡ Some s) × (n ≡ m)
mapped_some None n m s e = absurd cc
mapped_some (Some t) n m s e =
    let parts = some_pair t s n m e in (ap (λ (x : Step). Some x) parts.0, parts.1)

-- what is read is what the bytes begin with
pub read_only : (bs : List ℕ) (s : Step) (n : ℕ) → ((i : ℕ) → byte_at bs i < 256) → read bs ≡ Some (s, n) → IsFirst bs s n
read_only bs s n bytes this =
    let parts = if_none _ _ (s, n) this in
    let inner = mapped_some (made bs) (size_of (byte_at bs 0)) n s parts.1 in
    subst (λ (k : ℕ). IsFirst bs s k) inner.1 (made_only bs s bytes (ltb-false _ _ parts.0) inner.0)

-- ---- steps are the only ones of their bytes

-- a step is the only one that begins its bytes
pub one_step : (s t : Step) (xs ys : List ℕ) → HasFields s → HasFields t → step_bytes s ++ xs ≡ step_bytes t ++ ys → s ≡ t
one_step s t xs ys fs ft same =
    (some_pair s t _ _ (sym (read_back s xs fs) ∙ ap read same ∙ read_back t ys ft)).0

pub some_bytes : (s : Step) (rest : List ℕ) → step_bytes s ++ rest ≡ [] → ⊥
some_bytes (Look a p) rest e = cc
some_bytes (Claim a p) rest e = cc
some_bytes (Start a p) rest e = cc
some_bytes (Record a p) rest e = cc
some_bytes (Recall a p) rest e = cc
some_bytes (Give a p t n c ends) rest e = cc
some_bytes Publish rest e = cc
some_bytes (Pace a) rest e = cc
some_bytes (Release k) rest e = cc

-- steps are the only ones of their bytes
pub all_steps : (ss ts : List Step) → HaveFields ss → HaveFields ts → steps_bytes ss ≡ steps_bytes ts → ss ≡ ts
all_steps [] [] fs ft same = refl
all_steps [] (t ∷ ts) fs ft same = absurd (some_bytes t (steps_bytes ts) (sym same))
all_steps (s ∷ ss) [] fs ft same = absurd (some_bytes s (steps_bytes ss) same)
all_steps (s ∷ ss) (t ∷ ts) fs ft same =
    let first = one_step s t (steps_bytes ss) (steps_bytes ts) fs.0 ft.0 same in
    let rest : steps_bytes ss ≡ steps_bytes ts =
    append_cancel_left (step_bytes t) (steps_bytes ss) (steps_bytes ts)
    (subst (λ (x : Step). step_bytes x ++ steps_bytes ss ≡ step_bytes t ++ steps_bytes ts) first same) in
    rw (first, all_steps ss ts fs.1 ft.1 rest) refl

-- where nothing is read, no step begins
pub read_none : (bs : List ℕ) → read bs ≡ None → Begins bs → ⊥
read_none bs none b =
    let found = read_back b.step b.rest b.fits in
    no_pair (b.step, length (step_bytes b.step)) (sym none ∙ ap read b.same ∙ found)
  where
    no_pair : (p : Step × ℕ) → None ≡ Some p → ⊥
    no_pair p e = cc

-- a step that is read has some bytes
pub first_size : (bs : List ℕ) (s : Step) (n : ℕ) → IsFirst bs s n → (n ≡ length (step_bytes s)) × (0 < n)
first_size bs s n first =
    let whole = first.whole in
    let long : n ≡ length (step_bytes s) = omega (arith, length-take n bs, ap length first.same) in
    (long, omega (arith, long, size_positive s))
  where
    size_positive : (t : Step) → 0 < length (step_bytes t)
    size_positive (Look a p) = omega arith
    size_positive (Claim a p) = omega arith
    size_positive (Start a p) = omega arith
    size_positive (Record a p) = omega arith
    size_positive (Recall a p) = omega arith
    size_positive (Give a p t n c true) = omega arith
    size_positive (Give a p t n c false) = omega arith
    size_positive Publish = omega arith
    size_positive (Pace a) = omega arith
    size_positive (Release k) = omega arith
