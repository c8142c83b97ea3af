-- How often messages stand in what the channels begin with and in the note-offs at the end.
use Rattle.std.proofs.Common.{◌≡◌, ℕ, zero, suc, ◌+◌, ◌<◌, ◌≤◌, Bool, true, false, ◌&&◌, cond, nat_eq, nat_lt, List, [], ◌∷◌, ◌++◌, replicate, Option, None, Some, refl, sym, ◌∙◌, ap, subst, arith}
use Rattle.std.specs.Prelude.{count_by}
use Rattle.std.specs.List.{flat_map}
use Rattle.std.specs.Option.{option_map, option_to_list}
use Rattle.std.proofs.lemmas.List.Sums.{sum_by-cons, sum_by-append}
use Rattle.std.proofs.lemmas.Bool.Decides.{nat_tests}
use Rattle.fm_msg.specs.declared.msg.Msg.{Msg}
use Rattle.fm_msg.specs.declared.msg.Msg.TheVariants.{Off, Control, Program, Bend}
use Rattle.fm_msg.specs.declared.msg.TheConstants.{CHANNELS, DATA_VALUES}
use Rattle.fm_excerpt.specs.Last.{last_value, program_of, bend_of, control_of}
use Rattle.fm_excerpt.specs.Excerpt.{below, is_on, is_off, sounding, channel_state, state, closing}
use Rattle.fm_excerpt.proofs.Below.{below_none, below_suc}

-- ---- how often something holds

-- of two lists
pub count_both : (p : Msg → Bool) (xs ys : List Msg) → count_by p (xs ++ ys) ≡ count_by p xs + count_by p ys
count_both p xs ys = sum_by-append (λ y. cond {A = ℕ} (p y) 1 0) xs ys

-- of a message in front
pub count_first : (p : Msg → Bool) (m : Msg) (ms : List Msg) → count_by p (m ∷ ms) ≡ cond (p m) 1 0 + count_by p ms
count_first p m ms = sum_by-cons (λ y. cond {A = ℕ} (p y) 1 0) m ms

-- never among the lists of the numbers below n
count_none : (p : Msg → Bool) (f : ℕ → List Msg) (n : ℕ) → ((i : ℕ) → count_by p (f i) ≡ 0) → count_by p (flat_map f (below n)) ≡ 0
count_none p f zero none = ap (count_by p) (below_none f)
count_none p f (suc n) none =
    ap (count_by p) (below_suc f n) ∙ omega (arith, count_both p (flat_map f (below n)) (f n), count_none p f n none, none n)

-- as often as in the list of one of them
count_one : (p : Msg → Bool) (f : ℕ → List Msg) (c n : ℕ) → ((i : ℕ) → nat_eq i c ≡ false → count_by p (f i) ≡ 0) →
    count_by p (flat_map f (below n)) ≡ cond (nat_lt c n) (count_by p (f c)) 0
count_one p f c zero others =
    ap (count_by p) (below_none f)
    ∙ sym (ap (λ b. cond {A = ℕ} b (count_by p (f c)) 0) {x = nat_lt c 0} {y = false} (grind (arith, nat_tests)))
count_one p f c (suc n) others =
    ap (count_by p) (below_suc f n) ∙ count_both p (flat_map f (below n)) (f n)
    ∙ ap (λ k. k + count_by p (f n)) (count_one p f c n others) ∙ by_test (nat_eq n c) refl
  where
    by_test : (b : Bool) → nat_eq n c ≡ b →
        cond (nat_lt c n) (count_by p (f c)) 0 + count_by p (f n) ≡ cond (nat_lt c (suc n)) (count_by p (f c)) 0
    by_test true is =
        let same : n ≡ c = grind (arith, nat_tests) in
        ap (λ b. cond {A = ℕ} b (count_by p (f c)) 0 + count_by p (f n)) {x = nat_lt c n} {y = false} (grind (arith, nat_tests))
        ∙ omega (arith, ap (λ k. count_by p (f k)) same)
        ∙ sym (ap (λ b. cond {A = ℕ} b (count_by p (f c)) 0) {x = nat_lt c (suc n)} {y = true} (grind (arith, nat_tests)))
    by_test false is =
        omega (arith, others n is)
        ∙ sym (ap (λ b. cond {A = ℕ} b (count_by p (f c)) 0) {x = nat_lt c (suc n)} {y = nat_lt c n} (grind (arith, nat_tests)))

-- ---- what the channels begin with

count_option : (p : Msg → Bool) (g : ℕ → Msg) (o : Option ℕ) → ((v : ℕ) → p (g v) ≡ false) →
    count_by p (option_to_list (option_map g o)) ≡ 0
count_option p g None none = refl
count_option p g (Some v) none =
    count_first p (g v) [] ∙ ap (λ b. cond {A = ℕ} b 1 0 + 0) (none v)

-- no message of it begins or ends a note
state_without : (p : Msg → Bool) (ms : List Msg) → ((c v : ℕ) → p (Program c v) ≡ false) → ((c k v : ℕ) → p (Control c k v) ≡ false) →
    ((c v : ℕ) → p (Bend c v) ≡ false) → count_by p (state ms) ≡ 0
unfolding state channel_state
state_without p ms programs controls bends = count_none p (λ c. channel_state c ms) CHANNELS (λ c. by_channel c)
  where
    program : ℕ → List Msg
    program c = option_to_list (option_map (Program c) (last_value (program_of c) ms))

    controllers : ℕ → List Msg
    controllers c = flat_map (λ k. option_to_list (option_map (Control c k) (last_value (control_of c k) ms))) (below DATA_VALUES)

    bend : ℕ → List Msg
    bend c = option_to_list (option_map (Bend c) (last_value (bend_of c) ms))

    by_channel : (c : ℕ) → count_by p (program c ++ controllers c ++ bend c) ≡ 0
    by_channel c =
        omega (
          arith,
          count_both p (program c ++ controllers c) (bend c),
          count_both p (program c) (controllers c),
          count_option p (Program c) (last_value (program_of c) ms) (programs c),
          count_none p (λ k. option_to_list (option_map (Control c k) (last_value (control_of c k) ms))) DATA_VALUES
              (λ k. count_option p (Control c k) (last_value (control_of c k) ms) (controls c k)),
          count_option p (Bend c) (last_value (bend_of c) ms) (bends c),
        )

pub state_ons : (c k : ℕ) (ms : List Msg) → count_by (is_on c k) (state ms) ≡ 0
state_ons c k ms = state_without (is_on c k) ms (λ _ _. refl) (λ _ _ _. refl) (λ _ _. refl)

pub state_offs : (c k : ℕ) (ms : List Msg) → count_by (is_off c k) (state ms) ≡ 0
state_offs c k ms = state_without (is_off c k) ms (λ _ _. refl) (λ _ _ _. refl) (λ _ _. refl)

-- ---- the note-offs at the end

-- of one note-off, many times
count_offs : (c k channel key n : ℕ) →
    count_by (is_off c k) (replicate n (Off channel key)) ≡ cond (nat_eq channel c && nat_eq key k) n 0
count_offs c k channel key zero = by_test (nat_eq channel c && nat_eq key k)
  where
    by_test : (b : Bool) → 0 ≡ cond {A = ℕ} b 0 0
    by_test true = refl
    by_test false = refl
count_offs c k channel key (suc n) =
    count_first (is_off c k) (Off channel key) (replicate n (Off channel key))
    ∙ ap (λ z. cond {A = ℕ} (nat_eq channel c && nat_eq key k) 1 0 + z) (count_offs c k channel key n)
    ∙ by_test (nat_eq channel c && nat_eq key k)
  where
    by_test : (b : Bool) → cond {A = ℕ} b 1 0 + cond {A = ℕ} b n 0 ≡ cond {A = ℕ} b (suc n) 0
    by_test true = omega arith
    by_test false = refl

no_ons : (c k channel key n : ℕ) → count_by (is_on c k) (replicate n (Off channel key)) ≡ 0
no_ons c k channel key zero = refl
no_ons c k channel key (suc n) =
    omega (arith, count_first (is_on c k) (Off channel key) (replicate n (Off channel key)), no_ons c k channel key n)

-- none begins a note
pub closing_ons : (c k : ℕ) (kept : List Msg) → count_by (is_on c k) (closing kept) ≡ 0
unfolding closing
closing_ons c k kept =
    count_none (is_on c k) _ CHANNELS (λ i. count_none (is_on c k) _ DATA_VALUES (λ j. no_ons c k i j (sounding i j kept)))

-- the note-offs of one channel and key
closing_counts : (c k : ℕ) (kept : List Msg) →
    count_by (is_off c k) (closing kept) ≡ cond (nat_lt c CHANNELS) (cond (nat_lt k DATA_VALUES) (sounding c k kept) 0) 0
unfolding closing
closing_counts c k kept =
    count_one (is_off c k) (λ i. flat_map (λ j. replicate (sounding i j kept) (Off i j)) (below DATA_VALUES)) c CHANNELS
    (λ i other. count_none (is_off c k) (λ j. replicate (sounding i j kept) (Off i j)) DATA_VALUES
    (λ j. count_offs c k i j (sounding i j kept) ∙ ap (λ b. cond {A = ℕ} (b && nat_eq j k) (sounding i j kept) 0) other))
    ∙ ap (λ z. cond {A = ℕ} (nat_lt c CHANNELS) z 0)
    (count_one (is_off c k) (λ j. replicate (sounding c j kept) (Off c j)) k DATA_VALUES
    (λ j other. count_offs c k c j (sounding c j kept) ∙ ap (λ b. cond {A = ℕ} b (sounding c j kept) 0) (not_both j other))
    ∙ ap (λ z. cond {A = ℕ} (nat_lt k DATA_VALUES) z 0)
    (count_offs c k c k (sounding c k kept) ∙ ap (λ b. cond {A = ℕ} b (sounding c k kept) 0) both))
  where
    not_both : (j : ℕ) → nat_eq j k ≡ false → (nat_eq c c && nat_eq j k) ≡ false
    not_both j other = grind (arith, nat_tests)

    both : (nat_eq c c && nat_eq k k) ≡ true
    both = grind (arith, nat_tests)

-- are as many as sound
pub closing_offs : (c k : ℕ) (kept : List Msg) → c < CHANNELS → k < DATA_VALUES →
    count_by (is_off c k) (closing kept) ≡ sounding c k kept
closing_offs c k kept there low =
    closing_counts c k kept
    ∙ ap (λ b. cond {A = ℕ} b (cond {A = ℕ} (nat_lt k DATA_VALUES) (sounding c k kept) 0) 0) {x = nat_lt c CHANNELS} {y = true}
    (grind (arith, nat_tests))
    ∙ ap (λ b. cond {A = ℕ} b (sounding c k kept) 0) {x = nat_lt k DATA_VALUES} {y = true} (grind (arith, nat_tests))

pub closing_few : (c k : ℕ) (kept : List Msg) → count_by (is_off c k) (closing kept) ≤ sounding c k kept
closing_few c k kept =
    subst (λ n. n ≤ sounding c k kept) (sym (closing_counts c k kept)) (by_tests (nat_lt c CHANNELS) (nat_lt k DATA_VALUES))
  where
    by_tests : (a b : Bool) → cond a (cond b (sounding c k kept) 0) 0 ≤ sounding c k kept
    by_tests true true = omega arith
    by_tests true false = omega arith
    by_tests false b = omega arith
