-- Each note of an excerpt is begun and ended in it.
use Rattle.std.proofs.Common.{◌≡◌, ℕ, ◌+◌, ◌<◌, ◌≤◌, Bool, true, false, ◌&&◌, cond, nat_eq, nat_lt, List, [], ◌∷◌, ◌++◌, map, Option, IsTrue, refl, sym, ◌∙◌, ap, subst, arith, append_assoc}
use Rattle.std.specs.Prelude.{count_by}
use Rattle.std.proofs.lemmas.List.{append-nil, map-append}
use Rattle.std.proofs.lemmas.Bool.Decides.{nat_tests}
use Rattle.fm_msg.specs.declared.msg.Msg.{Msg}
use Rattle.fm_msg.specs.declared.msg.Msg.TheVariants.{On, Off, Control, Program, Bend}
use Rattle.fm_excerpt.specs.Excerpt.{is_on, is_off, is_inside, sounding, keeps, state, before, window, window_of, closing, message_at, at_tick, excerpt, excerpt_end}
use Rattle.fm_excerpt.specs.Notes.{AreBegun, AreEnded}
use Rattle.fm_excerpt.proofs.InsideLemmas.{window_kept, window_left, window_none}
use Rattle.fm_excerpt.proofs.PartLemmas.{count_both, count_first, state_ons, state_offs, closing_ons, closing_offs, closing_few}

-- what is kept depends on what sounds alone
keeps_same : (xs ys : List Msg) (m : Msg) → ((c k : ℕ) → sounding c k xs ≡ sounding c k ys) → keeps xs m ≡ keeps ys m
keeps_same xs ys (On channel key velocity) same = refl
keeps_same xs ys (Off channel key) same = ap (λ n. nat_lt 0 n) (same channel key)
keeps_same xs ys (Control channel controller value) same = refl
keeps_same xs ys (Program channel program) same = refl
keeps_same xs ys (Bend channel bend) same = refl

-- one list behind another
begun_append : (done : List Msg) (xs ys : List (ℕ × Msg)) → AreBegun done xs → AreBegun (done ++ map message_at xs) ys →
    AreBegun done (xs ++ ys)
begun_append done [] ys one two = subst (λ z. AreBegun z ys) (append-nil done) two
begun_append done (x ∷ xs) ys one two = (
  one.0,
  begun_append (done ++ x.1 ∷ []) xs ys one.1
      (subst (λ z. AreBegun z ys) (sym (append_assoc done (x.1 ∷ []) (map message_at xs))) two),
)

-- messages with no more note-offs than notes that sound
begun_few : (t : ℕ) (ms done : List Msg) → ((c k : ℕ) → count_by (is_off c k) ms ≤ sounding c k done) → AreBegun done (at_tick t ms)
begun_few t [] done few = tt
begun_few t (m ∷ ms) done few = (
  by_message m few,
  begun_few t ms (done ++ m ∷ []) (λ c k. omega (
    arith,
    few c k,
    count_first (is_off c k) m ms,
    count_both (is_on c k) done (m ∷ []),
    count_both (is_off c k) done (m ∷ []),
    count_first (is_on c k) m [],
    count_first (is_off c k) m [],
  )),
)
  where
    by_message : (m : Msg) → ((c k : ℕ) → count_by (is_off c k) (m ∷ ms) ≤ sounding c k done) → IsTrue (keeps done m)
    by_message (On channel key velocity) few = refl
    by_message (Off channel key) few =
        let same : (nat_eq channel channel && nat_eq key key) ≡ true = grind (arith, nat_tests) in
        let some : 0 < sounding channel key done =
        omega (
          arith,
          few channel key,
          count_first (is_off channel key) (Off channel key) ms
              ∙ ap (λ b. cond {A = ℕ} b 1 0 + count_by (is_off channel key) ms) same,
        ) in
        grind (arith, nat_tests)
    by_message (Control channel controller value) few = refl
    by_message (Program channel program) few = refl
    by_message (Bend channel bend) few = refl

-- the messages at one tick
at_tick_messages : (t : ℕ) (ms : List Msg) → map message_at (at_tick t ms) ≡ ms
at_tick_messages t [] = refl
at_tick_messages t (m ∷ ms) = ap (λ z. m ∷ z) (at_tick_messages t ms)

-- a window, behind messages that begin and end no note
begun_window : (begin : ℕ) (until : Option ℕ) (origin : ℕ) (front kept : List Msg) (list : List (ℕ × Msg)) →
    ((c k : ℕ) → count_by (is_on c k) front ≡ 0) → ((c k : ℕ) → count_by (is_off c k) front ≡ 0) →
    AreBegun (front ++ kept) (window begin until origin kept list)
begun_window begin until origin front kept [] ons offs =
    subst (AreBegun (front ++ kept)) (sym (window_none begin until origin kept)) tt
begun_window begin until origin front kept (x ∷ xs) ons offs =
    by_test (λ next. begun_window begin until origin front next xs ons offs) (is_inside begin until x.0 && keeps kept x.1) refl
  where
    both_second : (a b : Bool) → (a && b) ≡ true → b ≡ true
    both_second true b is = is
    both_second false b is = absurd cc

    same : (c k : ℕ) → sounding c k (front ++ kept) ≡ sounding c k kept
    same c k =
        omega (arith, ons c k, offs c k, count_both (is_on c k) front kept, count_both (is_off c k) front kept)

    by_test : ((next : List Msg) → AreBegun (front ++ next) (window begin until origin next xs)) → (b : Bool) →
        (is_inside begin until x.0 && keeps kept x.1) ≡ b →
        AreBegun (front ++ kept) (window begin until origin kept (x ∷ xs))
    by_test more true is =
        subst (AreBegun (front ++ kept)) (sym (window_kept begin until origin kept x.0 x.1 xs is)) (
          keeps_same (front ++ kept) kept x.1 same ∙ both_second _ _ is,
          subst (λ z. AreBegun z (window begin until origin (kept ++ x.1 ∷ []) xs)) (sym (append_assoc front kept (x.1 ∷ [])))
              (more (kept ++ x.1 ∷ [])),
        )
    by_test more false is =
        subst (AreBegun (front ++ kept)) (sym (window_left begin until origin kept x.0 x.1 xs is))
        (more kept)

-- each note-off of an excerpt has a note that sounds
pub excerpt_begun : (begin : ℕ) (until : Option ℕ) (list : List (ℕ × Msg)) (end : ℕ) → AreBegun [] (excerpt begin until list end)
unfolding excerpt
excerpt_begun begin until list end =
    begun_append [] (at_tick 0 first ++ middle) (at_tick (excerpt_end begin until end) (closing (map message_at middle)))
    (begun_append [] (at_tick 0 first) middle (begun_few 0 first [] (λ c k. omega (arith, state_offs c k (before begin list))))
    (subst (λ z. AreBegun z middle) (append-nil first ∙ sym (at_tick_messages 0 first))
    (begun_window begin until _ first [] list (λ c k. state_ons c k (before begin list)) (λ c k. state_offs c k (before begin list)))))
    (begun_few (excerpt_end begin until end) (closing (map message_at middle)) (map message_at (at_tick 0 first ++ middle))
    (λ c k. subst (λ n. count_by (is_off c k) (closing (map message_at middle)) ≤ n) (sym (same c k)) (closing_few c k
    (map message_at middle))))
  where
    first : List Msg
    first = state (before begin list)

    middle : List (ℕ × Msg)
    middle = window_of begin until list end

    messages : map message_at (at_tick 0 first ++ middle) ≡ first ++ map message_at middle
    messages = map-append message_at (at_tick 0 first) middle ∙ ap (λ z. z ++ map message_at middle) (at_tick_messages 0 first)

    same : (c k : ℕ) → sounding c k (map message_at (at_tick 0 first ++ middle)) ≡ sounding c k (map message_at middle)
    same c k =
        ap (sounding c k) messages
        ∙ omega (
          arith,
          count_both (is_on c k) first (map message_at middle),
          count_both (is_off c k) first (map message_at middle),
          state_ons c k (before begin list),
          state_offs c k (before begin list),
        )

-- where each note-off has a note that sounds, there are no more note-offs than note-ons
covered : (c k : ℕ) (done : List Msg) (xs : List (ℕ × Msg)) → AreBegun done xs → count_by (is_off c k) done ≤ count_by (is_on c k) done →
    count_by (is_off c k) (done ++ map message_at xs) ≤ count_by (is_on c k) (done ++ map message_at xs)
covered c k done [] begun few =
    subst (λ z. count_by (is_off c k) z ≤ count_by (is_on c k) z) (sym (append-nil done)) few
covered c k done ((t, m) ∷ xs) begun few =
    subst (λ z. count_by (is_off c k) z ≤ count_by (is_on c k) z) (append_assoc done (m ∷ []) (map message_at xs))
    (covered c k (done ++ m ∷ []) xs begun.1 (omega (
      arith,
      count_both (is_on c k) done (m ∷ []),
      count_both (is_off c k) done (m ∷ []),
      count_first (is_on c k) m [],
      count_first (is_off c k) m [],
      by_message m begun.0,
    )))
  where
    by_message : (m : Msg) → IsTrue (keeps done m) →
        cond {A = ℕ} (is_off c k m) 1 0 + count_by (is_off c k) done ≤ cond {A = ℕ} (is_on c k m) 1 0 + count_by (is_on c k) done
    by_message (On channel key velocity) sounds = omega (arith, few)
    by_message (Off channel key) sounds = by_test (nat_eq channel c && nat_eq key k) refl
      where
        by_test : (b : Bool) → (nat_eq channel c && nat_eq key k) ≡ b →
            cond {A = ℕ} b 1 0 + count_by (is_off c k) done ≤ 0 + count_by (is_on c k) done
        by_test true is =
            let one : channel ≡ c = grind (arith, nat_tests) in
            let two : key ≡ k = grind (arith, nat_tests) in
            let some : 0 < sounding channel key done = grind (arith, nat_tests) in
            let here : 0 < sounding c k done = subst (λ i. 0 < sounding c i done) two (subst (λ i. 0 < sounding i key done) one some) in
            omega arith
        by_test false is = omega (arith, few)
    by_message (Control channel controller value) sounds = omega (arith, few)
    by_message (Program channel program) sounds = omega (arith, few)
    by_message (Bend channel bend) sounds = omega (arith, few)

-- a window has no more note-offs than note-ons
pub window_covered : (c k begin : ℕ) (until : Option ℕ) (list : List (ℕ × Msg)) (end : ℕ) →
    count_by (is_off c k) (map message_at (window_of begin until list end)) ≤ count_by (is_on c k) (map message_at
    (window_of begin until list end))
window_covered c k begin until list end =
    covered c k [] (window_of begin until list end) (begun_window begin until _ [] [] list (λ _ _. refl) (λ _ _. refl)) (omega arith)

-- and so each note of an excerpt ends
pub excerpt_ended : (begin : ℕ) (until : Option ℕ) (list : List (ℕ × Msg)) (end : ℕ) → AreEnded (excerpt begin until list end)
unfolding excerpt
excerpt_ended begin until list end = λ c k there low.
    omega (
      arith,
      ap (count_by (is_on c k)) messages,
      ap (count_by (is_off c k)) messages,
      count_both (is_on c k) (first ++ map message_at middle) last,
      count_both (is_off c k) (first ++ map message_at middle) last,
      count_both (is_on c k) first (map message_at middle),
      count_both (is_off c k) first (map message_at middle),
      state_ons c k (before begin list),
      state_offs c k (before begin list),
      closing_ons c k (map message_at middle),
      closing_offs c k (map message_at middle) there low,
      window_covered c k begin until list end,
    )
  where
    first : List Msg
    first = state (before begin list)

    middle : List (ℕ × Msg)
    middle = window_of begin until list end

    last : List Msg
    last = closing (map message_at middle)

    messages : map message_at (at_tick 0 first ++ middle ++ at_tick (excerpt_end begin until end) last)
        ≡ first ++ map message_at middle ++ last
    messages =
        map-append message_at (at_tick 0 first ++ middle) (at_tick (excerpt_end begin until end) last)
        ∙ ap (λ z. z ++ map message_at (at_tick (excerpt_end begin until end) last)) (map-append message_at (at_tick 0 first) middle)
        ∙ ap (λ z. z ++ map message_at middle ++ map message_at (at_tick (excerpt_end begin until end) last)) (at_tick_messages 0 first)
        ∙ ap (λ z. first ++ map message_at middle ++ z) (at_tick_messages (excerpt_end begin until end) last)
