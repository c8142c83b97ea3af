-- Each sound comes out exactly once: as many of each kind of message, and as many in all.
use Rattle.std.proofs.Common.{◌≡◌, ℕ, zero, suc, ◌+◌, ◌≤◌, List, [], ◌∷◌, ◌++◌, length, Bool, true, false, filter, map, take, drop, refl, sym, ap, ◌∙◌, arith}
use Rattle.std.specs.Prelude.{if◌then◌else◌, nat_le, nat_lt}
use Rattle.std.specs.List.{AllByRecursion}
use Rattle.std.proofs.lemmas.Bool.{leb-true, leb-false, ltb-true, ltb-false}
use Rattle.fm_msg.specs.declared.msg.Msg.{Msg}
pub use Rattle.fm_line.specs.Runs.{one_if, count_of}
use Rattle.fm_line.specs.Sounds.{Sound, is_note_off, put_in, in_order, due_by, later_than, too_many, moved_to, out_before, left_waiting, most_waiting, ons_ahead, come_out_after, come_out, numbered}

module _ (p : Msg → Bool) where
  count-append : (xs ys : List Sound) → count_of p (xs ++ ys) ≡ count_of p xs + count_of p ys
  count-append [] ys = omega arith
  count-append (x ∷ xs) ys = let h = count-append xs ys in omega arith

  count-put : (x : Sound) (ys : List Sound) → count_of p (put_in x ys) ≡ one_if (p x.msg) + count_of p ys
  count-put x [] = refl
  count-put x (y ∷ ys) = by_test (nat_le x.time y.time) (count-put x ys)
    where
      by_test : (b : Bool) → count_of p (put_in x ys) ≡ one_if (p x.msg) + count_of p ys
          → count_of p (if b then x ∷ y ∷ ys else y ∷ put_in x ys) ≡ one_if (p x.msg) + (one_if (p y.msg) + count_of p ys)
      by_test true h = refl
      by_test false h = omega arith

  count-ordered : (xs : List Sound) → count_of p (in_order xs) ≡ count_of p xs
  count-ordered [] = refl
  count-ordered (x ∷ xs) = let h = count-ordered xs in let g = count-put x (in_order xs) in omega arith

  count-moved : (t : ℕ) (xs : List Sound) → count_of p (map (moved_to t) xs) ≡ count_of p xs
  count-moved t [] = refl
  count-moved t (x ∷ xs) = ap (λ (n : ℕ). one_if (p x.msg) + n) (count-moved t xs)

  count-split : (n : ℕ) (xs : List Sound) → count_of p (take n xs) + count_of p (drop n xs) ≡ count_of p xs
  count-split zero xs = omega arith
  count-split (suc n) [] = refl
  count-split (suc n) (x ∷ xs) = let h = count-split n xs in omega arith

  -- what passes a test up to a tick, and what is later
  parted : (t : ℕ) (xs : List Sound)
      → count_of p (filter (λ (x : Sound). nat_le x.time t) xs) + count_of p (later_than t xs) ≡ count_of p xs
  parted t [] = refl
  parted t (x ∷ xs) = by_test (nat_le x.time t) (nat_lt t x.time) refl refl (parted t xs)
    where
      by_test : (b c : Bool) → nat_le x.time t ≡ b → nat_lt t x.time ≡ c
          → count_of p (filter (λ (y : Sound). nat_le y.time t) xs) + count_of p (later_than t xs) ≡ count_of p xs
          → count_of p (if b then x ∷ filter (λ (y : Sound). nat_le y.time t) xs else filter (λ (y : Sound). nat_le y.time t) xs)
          + count_of p (if c then x ∷ later_than t xs else later_than t xs)
          ≡ one_if (p x.msg) + count_of p xs
      by_test true true e f h = let a = leb-true _ _ e in let b = ltb-true _ _ f in absurd (omega arith)
      by_test true false e f h = omega arith
      by_test false true e f h = omega arith
      by_test false false e f h = let a = leb-false _ _ e in let b = ltb-false _ _ f in absurd (omega arith)

  -- the order in which they stand plays no part for those that are later
  later-ordered : (t : ℕ) (xs : List Sound) → count_of p (later_than t (in_order xs)) ≡ count_of p (later_than t xs)
  later-ordered t [] = refl
  later-ordered t (x ∷ xs) = put x (in_order xs) ∙ ap (λ (n : ℕ). one_late x + n) (later-ordered t xs) ∙ sym (one x xs)
    where
      one_late : Sound → ℕ
      one_late y = if nat_lt t y.time then one_if (p y.msg) else 0

      one : (y : Sound) (ys : List Sound) → count_of p (later_than t (y ∷ ys)) ≡ one_late y + count_of p (later_than t ys)
      one y ys = by_late (nat_lt t y.time)
        where
          by_late : (b : Bool) → count_of p (if b then y ∷ later_than t ys else later_than t ys)
              ≡ (if b then one_if (p y.msg) else 0) + count_of p (later_than t ys)
          by_late true = refl
          by_late false = omega arith

      put : (y : Sound) (ys : List Sound) → count_of p (later_than t (put_in y ys)) ≡ one_late y + count_of p (later_than t ys)
      put y [] = one y []
      put y (z ∷ zs) = by_test (nat_le y.time z.time) (put y zs)
        where
          by_test : (b : Bool) → count_of p (later_than t (put_in y zs)) ≡ one_late y + count_of p (later_than t zs)
              → count_of p (later_than t (if b then y ∷ z ∷ zs else z ∷ put_in y zs))
              ≡ one_late y + count_of p (later_than t (z ∷ zs))
          by_test true h = one y (z ∷ zs)
          by_test false h = let a = one z (put_in y zs) in let b = one z zs in omega arith

  -- what comes out before a sound and what waits then is what waited
  pub count-out : (t k : ℕ) (ws : List Sound)
      → count_of p (out_before t k ws) + count_of p (left_waiting t k ws) ≡ count_of p ws
  count-out t k ws =
      let rest = later_than t ws in
      let n = too_many k rest in
      let a = count-append (due_by t ws) (map (moved_to t) (take n rest)) in
      let b = count-moved t (take n rest) in
      let c = count-split n rest in
      let d = parted t (in_order ws) in
      let e = count-ordered ws in
      let f = later-ordered t ws in
      omega arith

  length-drop-most : (ws : List Sound) → drop (too_many most_waiting ws) ws ≡ []
  length-drop-most ws = by_length ws (too_many most_waiting ws) (omega arith)
    where
      by_length : (xs : List Sound) (n : ℕ) → length xs ≤ n → drop n xs ≡ []
      by_length [] zero l = refl
      by_length [] (suc n) l = refl
      by_length (x ∷ xs) zero l = absurd (omega arith)
      by_length (x ∷ xs) (suc n) l = by_length xs n (omega arith)

  -- at the end of the process nothing is left
  pub count-end : (e : ℕ) (ws : List Sound) → count_of p (out_before e most_waiting ws) ≡ count_of p ws
  count-end e ws =
      let a = count-out e most_waiting ws in
      let b = ap (count_of p) (length-drop-most (later_than e ws)) in
      omega arith

  -- whatever waits and is to come, comes out once
  pub count-come_out : (e : ℕ) (ws xs : List Sound) → count_of p (come_out_after ws xs e) ≡ count_of p ws + count_of p xs
  count-come_out e ws [] = let h = count-end e ws in omega arith
  count-come_out e ws (x ∷ xs) = by_test (is_note_off x.msg) (count-come_out e (ws ++ x ∷ []) xs)
      (count-come_out e (left_waiting x.time (ons_ahead (x ∷ xs)) ws) xs)
    where
      by_test : (o : Bool)
          → count_of p (come_out_after (ws ++ x ∷ []) xs e) ≡ count_of p (ws ++ x ∷ []) + count_of p xs
          → count_of p (come_out_after (left_waiting x.time (ons_ahead (x ∷ xs)) ws) xs e)
          ≡ count_of p (left_waiting x.time (ons_ahead (x ∷ xs)) ws) + count_of p xs
          → count_of p (if o then come_out_after (ws ++ x ∷ []) xs e
          else out_before x.time (ons_ahead (x ∷ xs)) ws
          ++ x ∷ come_out_after (left_waiting x.time (ons_ahead (x ∷ xs)) ws) xs e)
          ≡ count_of p ws + (one_if (p x.msg) + count_of p xs)
      by_test true f g = let a = count-append ws (x ∷ []) in omega arith
      by_test false f g =
          let a = count-append (out_before x.time (ons_ahead (x ∷ xs)) ws)
          (x ∷ come_out_after (left_waiting x.time (ons_ahead (x ∷ xs)) ws) xs e) in
          let b = count-out x.time (ons_ahead (x ∷ xs)) ws in
          omega arith

length-count : (xs : List Sound) → length xs ≡ count_of (λ _. true) xs
length-count [] = refl
length-count (x ∷ xs) = let h = length-count xs in omega arith

length-numbered : (j i : ℕ) (xs : List Sound) → length (numbered j i xs) ≡ length xs
length-numbered j i [] = refl
length-numbered j i (x ∷ xs) = ap suc (length-numbered j (i + 1) xs)

-- there are as many events as sounds
pub length-events : (j e : ℕ) (xs : List Sound) → length (numbered j 0 (come_out xs e)) ≡ length xs
length-events j e xs =
    let a = length-numbered j 0 (come_out xs e) in
    let b = length-count (come_out xs e) in
    let c = count-come_out (λ _. true) e [] xs in
    let d = length-count xs in
    omega arith

-- ---- what holds of each message

module _ (P : Msg → Type 0) where
  abbrev pub Each : List Sound → Type 0
  Each xs = AllByRecursion (λ (x : Sound). P x.msg) xs

  each-append : (xs ys : List Sound) → Each xs → Each ys → Each (xs ++ ys)
  each-append [] ys a b = b
  each-append (x ∷ xs) ys a b = (a.0, each-append xs ys a.1 b)

  each-put : (x : Sound) (ys : List Sound) → P x.msg → Each ys → Each (put_in x ys)
  each-put x [] p a = (p, tt)
  each-put x (y ∷ ys) p a = by_test (nat_le x.time y.time) (each-put x ys p a.1)
    where
      by_test : (b : Bool) → Each (put_in x ys) → Each (if b then x ∷ y ∷ ys else y ∷ put_in x ys)
      by_test true h = (p, a)
      by_test false h = (a.0, h)

  each-ordered : (xs : List Sound) → Each xs → Each (in_order xs)
  each-ordered [] a = tt
  each-ordered (x ∷ xs) a = each-put x (in_order xs) a.0 (each-ordered xs a.1)

  each-filter : (p : Sound → Bool) (xs : List Sound) → Each xs → Each (filter p xs)
  each-filter p [] a = tt
  each-filter p (x ∷ xs) a = by_test (p x) (each-filter p xs a.1)
    where
      by_test : (b : Bool) → Each (filter p xs) → Each (if b then x ∷ filter p xs else filter p xs)
      by_test true h = (a.0, h)
      by_test false h = h

  each-take : (n : ℕ) (xs : List Sound) → Each xs → Each (take n xs)
  each-take zero xs a = tt
  each-take (suc n) [] a = tt
  each-take (suc n) (x ∷ xs) a = (a.0, each-take n xs a.1)

  each-drop : (n : ℕ) (xs : List Sound) → Each xs → Each (drop n xs)
  each-drop zero xs a = a
  each-drop (suc n) [] a = tt
  each-drop (suc n) (x ∷ xs) a = each-drop n xs a.1

  each-moved : (t : ℕ) (xs : List Sound) → Each xs → Each (map (moved_to t) xs)
  each-moved t [] a = tt
  each-moved t (x ∷ xs) a = (a.0, each-moved t xs a.1)

  each-out : (t k : ℕ) (ws : List Sound) → Each ws → Each (out_before t k ws)
  each-out t k ws a =
      let rest = later_than t ws in
      each-append (due_by t ws) (map (moved_to t) (take (too_many k rest) rest))
      (each-filter (λ (x : Sound). nat_le x.time t) (in_order ws) (each-ordered ws a))
      (each-moved t (take (too_many k rest) rest)
      (each-take (too_many k rest) rest (each-filter (λ (x : Sound). nat_lt t x.time) ws a)))

  each-left : (t k : ℕ) (ws : List Sound) → Each ws → Each (left_waiting t k ws)
  each-left t k ws a =
      each-drop (too_many k (later_than t ws)) (later_than t ws) (each-filter (λ (x : Sound). nat_lt t x.time) ws a)

  -- what holds of each message that waits or is to come, holds of each that comes out
  pub all-come_out : (e : ℕ) (ws xs : List Sound) → Each ws → Each xs → Each (come_out_after ws xs e)
  all-come_out e ws [] a b = each-out e most_waiting ws a
  all-come_out e ws (x ∷ xs) a b = by_test (is_note_off x.msg)
      (all-come_out e (ws ++ x ∷ []) xs (each-append ws (x ∷ []) a (b.0, tt)) b.1)
      (all-come_out e (left_waiting x.time (ons_ahead (x ∷ xs)) ws) xs (each-left x.time (ons_ahead (x ∷ xs)) ws a) b.1)
    where
      by_test : (o : Bool) → Each (come_out_after (ws ++ x ∷ []) xs e)
          → Each (come_out_after (left_waiting x.time (ons_ahead (x ∷ xs)) ws) xs e)
          → Each (if o then come_out_after (ws ++ x ∷ []) xs e
          else out_before x.time (ons_ahead (x ∷ xs)) ws
          ++ x ∷ come_out_after (left_waiting x.time (ons_ahead (x ∷ xs)) ws) xs e)
      by_test true f g = f
      by_test false f g = each-append (out_before x.time (ons_ahead (x ∷ xs)) ws) _ (each-out x.time (ons_ahead (x ∷ xs)) ws a) (b.0, g)
