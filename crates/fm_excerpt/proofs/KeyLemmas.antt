-- A window behind two lists of messages that was kept: what it keeps depends on what sounds alone.
use Rattle.std.proofs.Common.{◌≡◌, ℕ, ◌+◌, ◌-◌, ◌<◌, Bool, true, false, ◌&&◌, ◌||◌, cond, nat_eq, nat_lt, List, [], ◌∷◌, ◌++◌, map, Option, refl, sym, ◌∙◌, ap, arith}
use Rattle.std.specs.Prelude.{count_by}
use Rattle.std.proofs.lemmas.Bool.Decides.{nat_tests}
use Rattle.fm_msg.specs.declared.msg.Msg.{Msg}
use Rattle.fm_msg.specs.declared.msg.Msg.TheVariants.{On, Off, Control, Program, Bend}
use Rattle.fm_msg.specs.declared.msg.TheConstants.{CHANNELS, DATA_VALUES}
use Rattle.fm_msg.specs.Event.{TimedMessage}
use Rattle.fm_msg.specs.Message.{is_in_range}
use Rattle.fm_read.specs.Written.{AreInRange, as_message}
use Rattle.fm_excerpt.specs.Excerpt.{is_on, is_off, is_inside, sounding, keeps, window}
use Rattle.fm_excerpt.specs.Notes.{later_by, of_key}
use Rattle.fm_excerpt.proofs.InsideLemmas.{window_kept, window_left, window_none}
use Rattle.fm_excerpt.proofs.PartLemmas.{count_both, count_first}

-- on each channel and key, note-ons less note-offs are the same
abbrev Alike : List Msg → List Msg → Type 0
Alike xs ys =
    (c k : ℕ) → c < CHANNELS → k < DATA_VALUES →
    count_by (is_on c k) xs + count_by (is_off c k) ys ≡ count_by (is_on c k) ys + count_by (is_off c k) xs

alike_more : (xs ys : List Msg) (m : Msg) → Alike xs ys → Alike (xs ++ m ∷ []) (ys ++ m ∷ [])
alike_more xs ys m had = λ c k there low.
    omega (
      arith,
      had c k there low,
      count_both (is_on c k) xs (m ∷ []),
      count_both (is_off c k) xs (m ∷ []),
      count_both (is_on c k) ys (m ∷ []),
      count_both (is_off c k) ys (m ∷ []),
    )

keeps_alike : (xs ys : List Msg) (m : Msg) → is_in_range m ≡ true → Alike xs ys → keeps xs m ≡ keeps ys m
keeps_alike xs ys (On channel key velocity) fits had = refl
keeps_alike xs ys (Off channel key) fits had =
    let there : channel < CHANNELS = grind (arith, nat_tests) in
    let low : key < DATA_VALUES = grind (arith, nat_tests) in
    ap (λ n. nat_lt 0 n) {x = sounding channel key xs} {y = sounding channel key ys} (omega (arith, had channel key there low))
keeps_alike xs ys (Control channel controller value) fits had = refl
keeps_alike xs ys (Program channel program) fits had = refl
keeps_alike xs ys (Bend channel bend) fits had = refl

-- a window is the same behind both
pub window_alike : (begin : ℕ) (until : Option ℕ) (origin : ℕ) (kept other : List Msg) (events : List TimedMessage) → AreInRange events →
    Alike kept other → window begin until origin kept (map as_message events) ≡ window begin until origin other (map as_message events)
window_alike begin until origin kept other [] fits had =
    window_none begin until origin kept ∙ sym (window_none begin until origin other)
window_alike begin until origin kept other (e ∷ es) fits had =
    by_test (λ a b same. window_alike begin until origin a b es fits.1 same) (is_inside begin until e.time && keeps other e.msg) refl
  where
    list : List (ℕ × Msg)
    list = map as_message es

    same : (is_inside begin until e.time && keeps kept e.msg) ≡ (is_inside begin until e.time && keeps other e.msg)
    same = ap (λ b. is_inside begin until e.time && b) (keeps_alike kept other e.msg fits.0 had)

    by_test : ((a b : List Msg) → Alike a b → window begin until origin a list ≡ window begin until origin b list) → (b : Bool) →
        (is_inside begin until e.time && keeps other e.msg) ≡ b →
        window begin until origin kept ((e.time, e.msg) ∷ list) ≡ window begin until origin other ((e.time, e.msg) ∷ list)
    by_test more true is =
        window_kept begin until origin kept e.time e.msg list (same ∙ is)
        ∙ ap (λ z. (e.time - origin, e.msg) ∷ z) (more (kept ++ e.msg ∷ []) (other ++ e.msg ∷ []) (alike_more kept other e.msg had))
        ∙ sym (window_kept begin until origin other e.time e.msg list is)
    by_test more false is =
        window_left begin until origin kept e.time e.msg list (same ∙ is) ∙ more kept other had
        ∙ sym (window_left begin until origin other e.time e.msg list is)

-- ---- one channel and key

-- note-ons less note-offs of one channel and key are the same
abbrev pub Same : ℕ → ℕ → List Msg → List Msg → Type 0
Same c k xs ys =
    count_by (is_on c k) xs + count_by (is_off c k) ys ≡ count_by (is_on c k) ys + count_by (is_off c k) xs

same_both : (c k : ℕ) (xs ys : List Msg) (m : Msg) → Same c k xs ys → Same c k (xs ++ m ∷ []) (ys ++ m ∷ [])
same_both c k xs ys m had =
    omega (
      arith,
      had,
      count_both (is_on c k) xs (m ∷ []),
      count_both (is_off c k) xs (m ∷ []),
      count_both (is_on c k) ys (m ∷ []),
      count_both (is_off c k) ys (m ∷ []),
    )

-- a message that is of another key
same_other : (c k : ℕ) (xs ys : List Msg) (m : Msg) → is_on c k m ≡ false → is_off c k m ≡ false → Same c k xs ys →
    Same c k (xs ++ m ∷ []) ys
same_other c k xs ys m on off had =
    omega (
      arith,
      had,
      count_both (is_on c k) xs (m ∷ []),
      count_both (is_off c k) xs (m ∷ []),
      count_first (is_on c k) m [] ∙ ap (λ b. cond {A = ℕ} b 1 0 + 0) on,
      count_first (is_off c k) m [] ∙ ap (λ b. cond {A = ℕ} b 1 0 + 0) off,
    )

-- the messages of a key that come later come later
pub of_key_later : (c k n : ℕ) (list : List (ℕ × Msg)) → of_key c k (later_by n list) ≡ later_by n (of_key c k list)
of_key_later c k n [] = refl
of_key_later c k n (x ∷ xs) = by_test (of_key_later c k n xs) (is_on c k x.1 || is_off c k x.1)
  where
    by_test : of_key c k (later_by n xs) ≡ later_by n (of_key c k xs) → (b : Bool) →
        cond b ((x.0 + n, x.1) ∷ of_key c k (later_by n xs)) (of_key c k (later_by n xs))
        ≡ later_by n (cond b (x ∷ of_key c k xs) (of_key c k xs))
    by_test more true = ap (λ z. (x.0 + n, x.1) ∷ z) more
    by_test more false = more

-- a window keeps the same messages of a key behind both
pub window_key : (c k begin : ℕ) (until : Option ℕ) (origin : ℕ) (kept other : List Msg) (list : List (ℕ × Msg)) → Same c k kept other →
    of_key c k (window begin until origin kept list) ≡ of_key c k (window begin until origin other list)
window_key c k begin until origin kept other [] had =
    ap (of_key c k) (window_none begin until origin kept ∙ sym (window_none begin until origin other))
window_key c k begin until origin kept other ((t, m) ∷ xs) had =
    by_message (λ a b same. window_key c k begin until origin a b xs same) m
  where
    More : Type 0
    More =
        (a b : List Msg) → Same c k a b → of_key c k (window begin until origin a xs) ≡ of_key c k (window begin until origin b xs)

    -- a message that is kept behind both or behind none
    alike : More → (m : Msg) → keeps kept m ≡ keeps other m → (b : Bool) → (is_inside begin until t && keeps other m) ≡ b →
        of_key c k (window begin until origin kept ((t, m) ∷ xs)) ≡ of_key c k (window begin until origin other ((t, m) ∷ xs))
    alike more m same true is =
        ap (of_key c k) (window_kept begin until origin kept t m xs (ap (λ b. is_inside begin until t && b) same ∙ is))
        ∙ ap (λ z. cond (is_on c k m || is_off c k m) ((t - origin, m) ∷ z) z)
        (more (kept ++ m ∷ []) (other ++ m ∷ []) (same_both c k kept other m had))
        ∙ sym (ap (of_key c k) (window_kept begin until origin other t m xs is))
    alike more m same false is =
        ap (of_key c k) (window_left begin until origin kept t m xs (ap (λ b. is_inside begin until t && b) same ∙ is))
        ∙ more kept other had ∙ sym (ap (of_key c k) (window_left begin until origin other t m xs is))

    -- a note-off of another key, whether it is kept or not
    apart : More → (channel key : ℕ) → (nat_eq channel c && nat_eq key k) ≡ false → (done next : List Msg) → Same c k done next →
        (b : Bool) →
        (is_inside begin until t && keeps done (Off channel key)) ≡ b →
        of_key c k (window begin until origin done ((t, Off channel key) ∷ xs)) ≡ of_key c k (window begin until origin next xs)
    apart more channel key off done next same true is =
        ap (of_key c k) (window_kept begin until origin done t (Off channel key) xs is)
        ∙ ap (λ b. cond b ((t - origin, Off channel key) ∷ of_key c k (window begin until origin (done ++ Off channel key ∷ []) xs))
        (of_key c k (window begin until origin (done ++ Off channel key ∷ []) xs))) off
        ∙ more (done ++ Off channel key ∷ []) next (same_other c k done next (Off channel key) refl off same)
    apart more channel key off done next same false is =
        ap (of_key c k) (window_left begin until origin done t (Off channel key) xs is) ∙ more done next same

    by_off : More → (channel key : ℕ) → (b : Bool) → (nat_eq channel c && nat_eq key k) ≡ b →
        of_key c k (window begin until origin kept ((t, Off channel key) ∷ xs))
        ≡ of_key c k (window begin until origin other ((t, Off channel key) ∷ xs))
    by_off more channel key true is =
        let one : channel ≡ c = grind (arith, nat_tests) in
        let two : key ≡ k = grind (arith, nat_tests) in
        let same : sounding c k kept ≡ sounding c k other = omega (arith, had) in
        alike more (Off channel key) (ap (λ i. nat_lt 0 (sounding i key kept)) one ∙ ap (λ j. nat_lt 0 (sounding c j kept)) two
        ∙ ap (λ n. nat_lt 0 n) same ∙ sym (ap (λ i. nat_lt 0 (sounding i key other)) one ∙ ap (λ j. nat_lt 0 (sounding c j other)) two))
        _ refl
    by_off more channel key false is =
        apart more channel key is kept other had _ refl ∙ sym (apart more channel key is other other (omega arith) _ refl)

    by_message : More → (m : Msg) →
        of_key c k (window begin until origin kept ((t, m) ∷ xs)) ≡ of_key c k (window begin until origin other ((t, m) ∷ xs))
    by_message more (On channel key velocity) = alike more (On channel key velocity) refl _ refl
    by_message more (Off channel key) = by_off more channel key _ refl
    by_message more (Control channel controller value) = alike more (Control channel controller value) refl _ refl
    by_message more (Program channel program) = alike more (Program channel program) refl _ refl
    by_message more (Bend channel bend) = alike more (Bend channel bend) refl _ refl
