-- A table of what sounds: one message more, and the note-offs that are left.
use Rattle.std.proofs.Common.{◌≡◌, ℕ, zero, suc, ◌+◌, ◌-◌, ◌*◌, ◌/◌, ◌%◌, ◌<◌, ◌≤◌, Bool, true, false, ◌&&◌, cond, nat_eq, nat_lt, List, [], ◌∷◌, ◌++◌, length, get_or, set, replicate, refl, sym, ◌∙◌, ap, subst, arith, length-append}
use Rattle.std.specs.Prelude.{count_by}
use Rattle.std.proofs.lemmas.List.{get_or-set_same, get_or-set_other, get_or-replicate, length-replicate}
use Rattle.std.proofs.lemmas.List.Sums.{sum_by-cons, sum_by-append}
use Rattle.std.proofs.lemmas.Bool.Decides.{nat_tests}
use Rattle.fm_msg.specs.declared.msg.Msg.{Msg}
use Rattle.fm_msg.specs.declared.msg.Msg.TheVariants.{On, Off}
use Rattle.fm_msg.specs.declared.msg.TheConstants.{CHANNELS, DATA_VALUES}
use Rattle.fm_excerpt.specs.Excerpt.{is_on, is_off, sounding, keeps, closing}
use Rattle.fm_excerpt.specs.Table.{Sounds, endings_below, endings_of}
use Rattle.fm_excerpt.specs.declared.counts.TheConstants.{ALL_KEYS}
use Rattle.fm_excerpt.proofs.Below.{below_none, below_more, below_same, below_rows}

-- two indices are one exactly where channel and key are
one_place : (c k channel key : ℕ) → k < 128 → key < 128 →
    nat_eq (channel * 128 + key) (c * 128 + k) ≡ (nat_eq channel c && nat_eq key k)
one_place c k channel key a b = grind (arith, nat_tests)

-- how often something holds of a list and a message more
count_more : (p : Msg → Bool) (ms : List Msg) (m : Msg) → count_by p (ms ++ m ∷ []) ≡ count_by p ms + cond (p m) 1 0
count_more p ms m =
    omega (
      arith,
      sum_by-append (λ y. cond {A = ℕ} (p y) 1 0) ms (m ∷ []),
      sum_by-cons (λ y. cond {A = ℕ} (p y) 1 0) m [],
    )

-- nothing sounds
pub sounds_none : Sounds (replicate ALL_KEYS 0) []
sounds_none = λ c k lt lk. omega (arith, get_or-replicate {A = ℕ} ALL_KEYS (c * DATA_VALUES + k) 0 0 (omega arith))

-- a message that neither begins nor ends a note
pub sounds_other : (xs : List ℕ) (kept : List Msg) (m : Msg) → ((c k : ℕ) → is_on c k m ≡ false) → ((c k : ℕ) → is_off c k m ≡ false) →
    Sounds xs kept → Sounds xs (kept ++ m ∷ [])
sounds_other xs kept m on off had = λ c k lt lk.
    let no_on : count_by (is_on c k) (kept ++ m ∷ []) ≡ count_by (is_on c k) kept =
    omega (arith, count_more (is_on c k) kept m ∙ ap (λ b. count_by (is_on c k) kept + cond {A = ℕ} b 1 0) (on c k)) in
    let no_off : count_by (is_off c k) (kept ++ m ∷ []) ≡ count_by (is_off c k) kept =
    omega (arith, count_more (is_off c k) kept m ∙ ap (λ b. count_by (is_off c k) kept + cond {A = ℕ} b 1 0) (off c k)) in
    omega (arith, no_on, no_off, had c k lt lk)

-- a count at its index, and every other one as it was
count_set : (xs : List ℕ) (channel key c k v : ℕ) (b : Bool) → channel * 128 + key < length xs → key < 128 → k < 128 →
    (nat_eq channel c && nat_eq key k) ≡ b →
    get_or (set xs (channel * 128 + key) v) (c * 128 + k) 0 ≡ cond b v (get_or xs (c * 128 + k) 0)
count_set xs channel key c k v true there low small is =
    let at : nat_eq (channel * 128 + key) (c * 128 + k) ≡ true = one_place c k channel key small low ∙ is in
    let index : channel * 128 + key ≡ c * 128 + k = grind (arith, nat_tests) in
    ap (λ n. get_or (set xs (channel * 128 + key) v) n 0) (sym index) ∙ get_or-set_same xs (channel * 128 + key) v 0 there
count_set xs channel key c k v false there low small is =
    let at : nat_eq (channel * 128 + key) (c * 128 + k) ≡ false = one_place c k channel key small low ∙ is in
    get_or-set_other xs (channel * 128 + key) (c * 128 + k) v 0 (λ same. absurd (grind (arith, nat_tests)))

-- the count of an index that is another's too
count_at : (xs : List ℕ) (channel key c k : ℕ) → key < 128 → k < 128 → (nat_eq channel c && nat_eq key k) ≡ true →
    get_or xs (channel * 128 + key) 0 ≡ get_or xs (c * 128 + k) 0
count_at xs channel key c k low small is =
    let at : nat_eq (channel * 128 + key) (c * 128 + k) ≡ true = one_place c k channel key small low ∙ is in
    ap (λ n. get_or xs n 0) {x = channel * 128 + key} {y = c * 128 + k} (grind (arith, nat_tests))

-- a note-on
pub sounds_on : (xs : List ℕ) (kept : List Msg) (channel key velocity : ℕ) → channel * 128 + key < length xs → key < 128 → Sounds xs kept →
    Sounds (set xs (channel * 128 + key) (get_or xs (channel * 128 + key) 0 + 1)) (kept ++ On channel key velocity ∷ [])
sounds_on xs kept channel key velocity there low had = λ c k lt lk. by_test c k lt lk (nat_eq channel c && nat_eq key k) refl
  where
    by_test : (c k : ℕ) → c < CHANNELS → k < DATA_VALUES → (b : Bool) → (nat_eq channel c && nat_eq key k) ≡ b →
        get_or (set xs (channel * 128 + key) (get_or xs (channel * 128 + key) 0 + 1)) (c * 128 + k) 0
        + count_by (is_off c k) (kept ++ On channel key velocity ∷ [])
        ≡ count_by (is_on c k) (kept ++ On channel key velocity ∷ [])
    by_test c k lt lk true is =
        omega (
          arith,
          count_set xs channel key c k (get_or xs (channel * 128 + key) 0 + 1) true there low lk is,
          count_at xs channel key c k low lk is,
          count_more (is_on c k) kept (On channel key velocity)
              ∙ ap (λ b. count_by (is_on c k) kept + cond {A = ℕ} b 1 0) is,
          count_more (is_off c k) kept (On channel key velocity),
          had c k lt lk,
        )
    by_test c k lt lk false is =
        omega (
          arith,
          count_set xs channel key c k (get_or xs (channel * 128 + key) 0 + 1) false there low lk is,
          count_more (is_on c k) kept (On channel key velocity)
              ∙ ap (λ b. count_by (is_on c k) kept + cond {A = ℕ} b 1 0) is,
          count_more (is_off c k) kept (On channel key velocity),
          had c k lt lk,
        )

-- a note-off of a note that sounds
pub sounds_off : (xs : List ℕ) (kept : List Msg) (channel key : ℕ) → channel * 128 + key < length xs → key < 128 →
    0 < get_or xs (channel * 128 + key) 0 → Sounds xs kept →
    Sounds (set xs (channel * 128 + key) (get_or xs (channel * 128 + key) 0 - 1)) (kept ++ Off channel key ∷ [])
sounds_off xs kept channel key there low some had = λ c k lt lk. by_test c k lt lk (nat_eq channel c && nat_eq key k) refl
  where
    by_test : (c k : ℕ) → c < CHANNELS → k < DATA_VALUES → (b : Bool) → (nat_eq channel c && nat_eq key k) ≡ b →
        get_or (set xs (channel * 128 + key) (get_or xs (channel * 128 + key) 0 - 1)) (c * 128 + k) 0
        + count_by (is_off c k) (kept ++ Off channel key ∷ [])
        ≡ count_by (is_on c k) (kept ++ Off channel key ∷ [])
    by_test c k lt lk true is =
        omega (
          arith,
          count_set xs channel key c k (get_or xs (channel * 128 + key) 0 - 1) true there low lk is,
          count_at xs channel key c k low lk is,
          count_more (is_off c k) kept (Off channel key) ∙ ap (λ b. count_by (is_off c k) kept + cond {A = ℕ} b 1 0) is,
          count_more (is_on c k) kept (Off channel key),
          some,
          had c k lt lk,
        )
    by_test c k lt lk false is =
        omega (
          arith,
          count_set xs channel key c k (get_or xs (channel * 128 + key) 0 - 1) false there low lk is,
          count_more (is_off c k) kept (Off channel key) ∙ ap (λ b. count_by (is_off c k) kept + cond {A = ℕ} b 1 0) is,
          count_more (is_on c k) kept (Off channel key),
          had c k lt lk,
        )

-- what sounds is what is counted
pub sounding_is : (xs : List ℕ) (kept : List Msg) (c k : ℕ) → c < CHANNELS → k < DATA_VALUES → Sounds xs kept →
    sounding c k kept ≡ get_or xs (c * DATA_VALUES + k) 0
sounding_is xs kept c k lt lk had = omega (arith, had c k lt lk)

-- a note-on is kept
pub kept_on : (xs : List ℕ) (kept : List Msg) (m : Msg) (channel key velocity index : ℕ) → m ≡ On channel key velocity →
    index ≡ channel * DATA_VALUES + key → channel < CHANNELS → key < DATA_VALUES → length xs ≡ ALL_KEYS → Sounds xs kept →
    Sounds (set xs index (get_or xs index 0 + 1)) (cond (keeps kept m) (kept ++ m ∷ []) kept)
kept_on xs kept m channel key velocity index is at there low long had =
    rw (is, at) (sounds_on xs kept channel key velocity (omega arith) low had)

-- a note-off of a note that sounds is kept
pub kept_off : (xs : List ℕ) (kept : List Msg) (m : Msg) (channel key index : ℕ) → m ≡ Off channel key →
    index ≡ channel * DATA_VALUES + key → channel < CHANNELS → key < DATA_VALUES → length xs ≡ ALL_KEYS → 0 < get_or xs index 0 →
    Sounds xs kept → Sounds (set xs index (get_or xs index 0 - 1)) (cond (keeps kept m) (kept ++ m ∷ []) kept)
kept_off xs kept m channel key index is at there low long some had =
    let sounds : 0 < sounding channel key kept =
    omega (arith, sounding_is xs kept channel key there low had, ap (λ n. get_or xs n 0) at) in
    let keep : nat_lt 0 (sounding channel key kept) ≡ true = grind (arith, nat_tests) in
    let before : 0 < get_or xs (channel * 128 + key) 0 = omega (arith, ap (λ n. get_or xs n 0) at) in
    rw (is, at)
    (subst (λ b. Sounds (set xs (channel * 128 + key) (get_or xs (channel * 128 + key) 0 - 1)) (cond b (kept
    ++ Off channel key ∷ []) kept))
    (sym keep) (sounds_off xs kept channel key (omega arith) low before had))

-- ---- the note-offs that are left

ends_more : (n : ℕ) (xs : List ℕ) → length (endings_below (n + 1) xs) ≡ length (endings_below n xs) + get_or xs n 0
ends_more n xs =
    omega (
      arith,
      ap length (below_more (λ i. replicate (get_or xs i 0) (Off (i / DATA_VALUES) (i % DATA_VALUES))) n),
      length-append (endings_below n xs) (replicate (get_or xs n 0) (Off (n / DATA_VALUES) (n % DATA_VALUES))),
      length-replicate (get_or xs n 0) (Off (n / DATA_VALUES) (n % DATA_VALUES)),
    )

ends_zero : (xs : List ℕ) → length (endings_below 0 xs) ≡ 0
ends_zero xs = ap length (below_none (λ i. replicate (get_or xs i 0) (Off (i / DATA_VALUES) (i % DATA_VALUES))))

-- before an index that is set, as many as before
ends_before : (n : ℕ) (xs : List ℕ) (i w : ℕ) → n ≤ i → length (endings_below n (set xs i w)) ≡ length (endings_below n xs)
ends_before zero xs i w le = ends_zero (set xs i w) ∙ sym (ends_zero xs)
ends_before (suc n) xs i w le =
    omega (
      arith,
      ap (λ k. length (endings_below k (set xs i w))) {x = suc n} {y = n + 1} (omega arith),
      ap (λ k. length (endings_below k xs)) {x = suc n} {y = n + 1} (omega arith),
      ends_more n (set xs i w),
      ends_more n xs,
      ends_before n xs i w (omega arith),
      get_or-set_other xs i n w 0 (λ same. absurd (omega (arith, same))),
    )

-- behind it, those of the other count
ends_set : (j : ℕ) (xs : List ℕ) (i w : ℕ) → i < length xs →
    length (endings_below (i + 1 + j) (set xs i w)) + get_or xs i 0 ≡ length (endings_below (i + 1 + j) xs) + w
ends_set zero xs i w there =
    omega (
      arith,
      ap (λ n. length (endings_below n (set xs i w))) {x = i + 1 + 0} {y = i + 1} (omega arith),
      ap (λ n. length (endings_below n xs)) {x = i + 1 + 0} {y = i + 1} (omega arith),
      ends_more i (set xs i w),
      ends_more i xs,
      ends_before i xs i w (omega arith),
      get_or-set_same xs i w 0 there,
    )
ends_set (suc j) xs i w there =
    omega (
      arith,
      ap (λ n. length (endings_below n (set xs i w))) {x = i + 1 + suc j} {y = (i + 1 + j) + 1} (omega arith),
      ap (λ n. length (endings_below n xs)) {x = i + 1 + suc j} {y = (i + 1 + j) + 1} (omega arith),
      ends_more (i + 1 + j) (set xs i w),
      ends_more (i + 1 + j) xs,
      ends_set j xs i w there,
      get_or-set_other xs i (i + 1 + j) w 0 (λ same. absurd (omega (arith, same))),
    )

-- a count that is set changes how many are left
pub ends_changed : (xs : List ℕ) (i w : ℕ) → i < ALL_KEYS → length xs ≡ ALL_KEYS →
    length (endings_of (set xs i w)) + get_or xs i 0 ≡ length (endings_of xs) + w
ends_changed xs i w there long =
    omega (
      arith,
      ap (λ n. length (endings_below n (set xs i w))) {x = i + 1 + (ALL_KEYS - (i + 1))} {y = ALL_KEYS} (omega arith),
      ap (λ n. length (endings_below n xs)) {x = i + 1 + (ALL_KEYS - (i + 1))} {y = ALL_KEYS} (omega arith),
      ends_set (ALL_KEYS - (i + 1)) xs i w (omega arith),
    )

-- where nothing sounds, none are left
pub ends_none : (n : ℕ) → n ≤ ALL_KEYS → length (endings_below n (replicate ALL_KEYS 0)) ≡ 0
ends_none zero le = ends_zero (replicate ALL_KEYS 0)
ends_none (suc n) le =
    ap (λ k. length (endings_below k (replicate ALL_KEYS 0))) {x = suc n} {y = n + 1} (omega arith)
    ∙ omega (arith, ends_more n (replicate ALL_KEYS 0), ends_none n (omega arith), get_or-replicate {A = ℕ} ALL_KEYS n 0 0 (omega arith))

-- those that are left, by channel and key
pub endings_are : (xs : List ℕ) (kept : List Msg) → Sounds xs kept → endings_of xs ≡ closing kept
unfolding closing
endings_are xs kept had =
    below_rows (λ i. replicate (get_or xs i 0) (Off (i / DATA_VALUES) (i % DATA_VALUES))) DATA_VALUES CHANNELS
    ∙ below_same _ _ CHANNELS (λ c lt. below_same _ _ DATA_VALUES (λ k lk. one c k lt lk))
  where
    one : (c k : ℕ) → c < CHANNELS → k < DATA_VALUES →
        replicate (get_or xs (c * DATA_VALUES + k) 0) (Off ((c * DATA_VALUES + k) / DATA_VALUES) ((c * DATA_VALUES + k) % DATA_VALUES))
        ≡ replicate (sounding c k kept) (Off c k)
    one c k lt lk =
        ap (λ n. replicate n (Off ((c * DATA_VALUES + k) / DATA_VALUES) ((c * DATA_VALUES + k) % DATA_VALUES)))
        (sym (sounding_is xs kept c k lt lk had))
        ∙ ap (λ n. replicate (sounding c k kept) (Off n ((c * DATA_VALUES + k) % DATA_VALUES)))
        {x = (c * DATA_VALUES + k) / DATA_VALUES} {y = c} (omega arith)
        ∙ ap (λ n. replicate (sounding c k kept) (Off c n)) {x = (c * DATA_VALUES + k) % DATA_VALUES} {y = k} (omega arith)
