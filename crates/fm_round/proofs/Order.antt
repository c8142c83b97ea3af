-- What is due up to a key is before all that is behind it.
use Rattle.std.proofs.Common.{◌≡◌, ◌⊎◌, ℕ, suc, ◌+◌, ◌<◌, ◌≤◌, Bool, true, false, List, [], ◌∷◌, take, drop, refl, sym, subst, ◌∙◌, inl, inr, arith}
use Rattle.std.specs.Prelude.{Some, None, ◌&&◌, nat_lt, nat_le, nat_eq, if◌then◌else◌}
use Rattle.std.proofs.lemmas.Bool.{both_ways, cases_lt, cases_order, ltb-true, eqb-true, leb-true, lt-ltb, eq-eqb, le-leb, and_parts, and_from, or_cases, or_left, or_right}
use Rattle.fm_msg.specs.Event.{TimedMessage}
use Rattle.fm_line.specs.Piece.{Before, In, Rises}
use Rattle.fm_line.proofs.Rising.{above_in}
use Rattle.fm_buffer.specs.Outbox.{count_through, is_through}
use Rattle.fm_round.specs.Lanes.{IsNotPast}

-- ---- one event

-- the time and the process of an event are at most the pair
abbrev pub IsDue : ℕ → ℕ → TimedMessage → Type 0
IsDue c m e = (e.time < c) ⊎ ((e.time ≡ c) × (e.process ≤ m))

-- an event at most the key is due
due_is : (c m : ℕ) (e : TimedMessage) → is_through (Some (c, m)) e ≡ true → IsDue c m e
due_is c m e test = by_case (or_cases (nat_lt e.time c) (nat_eq e.time c && nat_le e.process m) test)
  where
    by_case : (nat_lt e.time c ≡ true) ⊎ ((nat_eq e.time c && nat_le e.process m) ≡ true) → IsDue c m e
    by_case (inl less) = inl (ltb-true e.time c less)
    by_case (inr both) =
        let two = and_parts (nat_eq e.time c) (nat_le e.process m) both in
        inr (eqb-true e.time c two.0, leb-true e.process m two.1)

-- what is due is at most the key
is_due : (c m : ℕ) (e : TimedMessage) → IsDue c m e → is_through (Some (c, m)) e ≡ true
is_due c m e (inl less) = or_left _ _ (lt-ltb e.time c less)
is_due c m e (inr (same, below)) = or_right _ _ (and_from _ _ (eq-eqb e.time c same) (le-leb e.process m below))

-- an event past the key is behind it
past_is : (c m : ℕ) (e : TimedMessage) → is_through (Some (c, m)) e ≡ false → IsNotPast c (m + 1) e.time e.process
past_is c m e past = by_time (cases_order e.time c)
  where
    never : IsDue c m e → ⊥
    never due = both_ways (is_through (Some (c, m)) e) past (is_due c m e due)

    by_process : e.time ≡ c → (m < e.process) ⊎ (e.process ≤ m) → IsNotPast c (m + 1) e.time e.process
    by_process same (inl above) = inr (sym same, omega arith)
    by_process same (inr below) = absurd (never (inr (same, below)))

    by_time : (e.time ≡ c) ⊎ ((e.time < c) ⊎ (c < e.time)) → IsNotPast c (m + 1) e.time e.process
    by_time (inl same) = by_process same (cases_lt m e.process)
    by_time (inr (inl less)) = absurd (never (inl less))
    by_time (inr (inr more)) = inl more

-- what follows an event that is not before the pair is not before it either
past_later : (c m : ℕ) (x y : TimedMessage) → IsNotPast c m x.time x.process → Before x y → IsNotPast c m y.time y.process
past_later c m x y (inl above) (inl later) = inl (omega arith)
past_later c m x y (inl above) (inr same) = let time = same.0 in inl (omega arith)
past_later c m x y (inr at) (inl later) = let here = at.0 in inl (omega arith)
past_later c m x y (inr at) (inr (time, inl process)) =
    let here = at.0 in let from = at.1 in inr (here ∙ time, omega arith)
past_later c m x y (inr at) (inr (time, inr index)) =
    let here = at.0 in let from = at.1 in let process = index.0 in inr (here ∙ time, omega arith)

-- a later time of the same process is not before the pair either
pub past_time : (c m t u j : ℕ) → IsNotPast c m t j → t ≤ u → IsNotPast c m u j
past_time c m t u j (inl above) later = inl (omega arith)
past_time c m t u j (inr at) later = by_case (cases_lt t u)
  where
    by_case : (t < u) ⊎ (u ≤ t) → IsNotPast c m u j
    by_case (inl more) = let here = at.0 in inl (omega arith)
    by_case (inr less) = let here = at.0 in inr (omega arith, at.1)

-- what is due and what is not before the key are of one process, or stand in this order
pub due_first : (c m : ℕ) (x y : TimedMessage) → IsDue c m x → IsNotPast c m y.time y.process
    → (x.process ≡ y.process) ⊎ (Before x y)
due_first c m x y (inl less) (inl more) = inr (inl (omega arith))
due_first c m x y (inl less) (inr at) = let here = at.0 in inr (inl (omega arith))
due_first c m x y (inr same) (inl more) = let time = same.0 in inr (inl (omega arith))
due_first c m x y (inr same) (inr at) = by_process (cases_order x.process y.process)
  where
    time : x.time ≡ y.time
    time = same.0 ∙ at.0

    by_process : (x.process ≡ y.process) ⊎ ((x.process < y.process) ⊎ (y.process < x.process))
        → (x.process ≡ y.process) ⊎ (Before x y)
    by_process (inl equal) = inl equal
    by_process (inr (inl less)) = inr (inr (same.0 ∙ at.0, inl less))
    by_process (inr (inr more)) = let a = same.1 in let b = at.1 in absurd (omega arith)

-- ---- a queue

-- what is taken up to a key is due
pub taken_due : (c m : ℕ) (xs : List TimedMessage) (e : TimedMessage)
    → In e (take (count_through (Some (c, m)) xs) xs) → IsDue c m e
taken_due c m [] e i = absurd (no_event i)
  where
    no_event : In e (take 0 []) → ⊥
    no_event j = j
taken_due c m (x ∷ xs) e i = by_test (is_through (Some (c, m)) x) refl i (λ j. taken_due c m xs e j)
  where
    by_test : (b : Bool) → is_through (Some (c, m)) x ≡ b
        → In e (take (if b then suc (count_through (Some (c, m)) xs) else 0) (x ∷ xs))
        → (In e (take (count_through (Some (c, m)) xs) xs) → IsDue c m e) → IsDue c m e
    by_test true test (inl same) more = subst (IsDue c m) (sym same) (due_is c m x test)
    by_test true test (inr j) more = more j
    by_test false test j more = absurd j

-- what stays of a rising queue is behind the key
pub stays_behind : (c m : ℕ) (xs : List TimedMessage) (e : TimedMessage) → Rises xs
    → In e (drop (count_through (Some (c, m)) xs) xs) → IsNotPast c (m + 1) e.time e.process
stays_behind c m [] e rises i = absurd (no_event i)
  where
    no_event : In e (drop 0 []) → ⊥
    no_event j = j
stays_behind c m (x ∷ xs) e rises i = by_test (is_through (Some (c, m)) x) refl i (λ j. stays_behind c m xs e rises.1 j)
  where
    by_test : (b : Bool) → is_through (Some (c, m)) x ≡ b
        → In e (drop (if b then suc (count_through (Some (c, m)) xs) else 0) (x ∷ xs))
        → (In e (drop (count_through (Some (c, m)) xs) xs) → IsNotPast c (m + 1) e.time e.process)
        → IsNotPast c (m + 1) e.time e.process
    by_test true test j more = more j
    by_test false test (inl same) more =
        subst (λ (y : TimedMessage). IsNotPast c (m + 1) y.time y.process) (sym same) (past_is c m x test)
    by_test false test (inr j) more = past_later c (m + 1) x e (past_is c m x test) (above_in x e xs rises.0 j)

-- an earlier process gives an earlier pair
pub past_lower : (c m k t j : ℕ) → m ≤ k → IsNotPast c k t j → IsNotPast c m t j
past_lower c m k t j up (inl above) = inl above
past_lower c m k t j up (inr at) = let from = at.1 in inr (at.0, omega arith)

-- and so is not before it
pub stays_past : (c m : ℕ) (xs : List TimedMessage) (e : TimedMessage) → Rises xs
    → In e (drop (count_through (Some (c, m)) xs) xs) → IsNotPast c m e.time e.process
stays_past c m xs e rises i = past_lower c m (m + 1) e.time e.process (omega arith) (stays_behind c m xs e rises i)

-- nothing stays where all are due
pub none_stays : (c m : ℕ) (xs : List TimedMessage) → ((e : TimedMessage) → In e xs → IsDue c m e)
    → drop (count_through (Some (c, m)) xs) xs ≡ []
none_stays c m [] all = refl
none_stays c m (x ∷ xs) all =
    by_test (is_through (Some (c, m)) x) (is_due c m x (all x (inl refl))) (none_stays c m xs (λ e i. all e (inr i)))
  where
    by_test : (b : Bool) → b ≡ true → drop (count_through (Some (c, m)) xs) xs ≡ []
        → drop (if b then suc (count_through (Some (c, m)) xs) else 0) (x ∷ xs) ≡ []
    by_test true test more = more
    by_test false test more = cc

-- nothing stays where there is no key
pub none_stays_at_all : (xs : List TimedMessage) → drop (count_through None xs) xs ≡ []
none_stays_at_all [] = refl
none_stays_at_all (x ∷ xs) = none_stays_at_all xs
