-- How often a message stands in the tracks of the channels.
use Rattle.std.proofs.Common.{◌≡◌, ℕ, zero, suc, ◌+◌, Bool, true, false, ◌&&◌, cond, nat_eq, nat_lt, List, [], ◌∷◌, ◌++◌, map, refl, sym, ◌∙◌, ap, arith}
use Rattle.std.specs.Prelude.{count_by}
use Rattle.std.specs.List.{flat_map}
use Rattle.std.proofs.lemmas.List.{append-nil}
use Rattle.std.proofs.lemmas.List.Sums.{sum_by-cons, sum_by-append}
use Rattle.std.proofs.lemmas.Grind.{flat_map-append}
use Rattle.std.proofs.lemmas.Bool.Decides.{nat_tests}
use Rattle.fm_msg.specs.Event.{TimedMessage}
use Rattle.fm_msg.specs.Message.{is_in_range}
use Rattle.fm_msg.specs.declared.msg.Msg.{Msg}
use Rattle.fm_msg.specs.declared.msg.Msg.TheVariants.{On, Off, Control, Program, Bend}
use Rattle.fm_msg.specs.declared.msg.TheConstants.{CHANNELS}
use Rattle.fm_read.specs.Written.{AreInRange, as_message}
use Rattle.fm_parts.specs.Format1.{channel_of, is_on_channel, on_channel, numbers}

-- a message in front, which is kept or not
kept_one : (b : Bool) (test : ℕ × Msg → Bool) (x : ℕ × Msg) (xs : List (ℕ × Msg)) →
    count_by test (cond b (x ∷ xs) xs) ≡ cond b (cond (test x) 1 0) 0 + count_by test xs
kept_one true test x xs = sum_by-cons (λ y. cond (test y) 1 0) x xs
kept_one false test x xs = omega arith

-- a channel's messages are counted among all
pub counted : (c : ℕ) (test : ℕ × Msg → Bool) (list : List (ℕ × Msg)) →
    count_by test (on_channel c list) ≡ count_by (λ x. is_on_channel c x && test x) list
counted c test [] = refl
counted c test (x ∷ list) =
    kept_one (is_on_channel c x) test x (on_channel c list)
    ∙ ap (λ n. n + count_by test (on_channel c list)) (both (is_on_channel c x))
    ∙ ap (λ n. cond (is_on_channel c x && test x) 1 0 + n) (counted c test list)
    ∙ sym (sum_by-cons (λ y. cond (is_on_channel c y && test y) 1 0) x list)
  where
    both : (b : Bool) → cond {A = ℕ} b (cond (test x) 1 0) 0 ≡ cond (b && test x) 1 0
    both true = refl
    both false = refl

-- the messages of the channels below n, channel by channel
abbrev channels : ℕ → List (ℕ × Msg) → List (ℕ × Msg)
channels n list = flat_map (λ c. on_channel c list) (numbers n)

-- one channel more
channels_more : (n : ℕ) (test : ℕ × Msg → Bool) (list : List (ℕ × Msg)) →
    count_by test (channels (suc n) list) ≡ count_by test (channels n list) + count_by test (on_channel n list)
unfolding numbers
channels_more n test list =
    ap (count_by test) (flat_map-append (λ c. on_channel c list) (numbers n) (n ∷ [])
    ∙ ap (λ z. channels n list ++ z) (append-nil (on_channel n list)))
    ∙ sum_by-append (λ y. cond (test y) 1 0) (channels n list) (on_channel n list)

-- a channel below n + 1 is below n, or is n
below : (c n v : ℕ) → cond {A = ℕ} (nat_lt c n) v 0 + cond {A = ℕ} (nat_eq c n) v 0 ≡ cond {A = ℕ} (nat_lt c (suc n)) v 0
below c n v = by_tests (nat_lt c n) (nat_eq c n) (nat_lt c (suc n)) refl refl refl
  where
    by_tests : (a b d : Bool) → nat_lt c n ≡ a → nat_eq c n ≡ b → nat_lt c (suc n) ≡ d →
        cond {A = ℕ} a v 0 + cond {A = ℕ} b v 0 ≡ cond {A = ℕ} d v 0
    by_tests true true d p q r = absurd (grind (arith, nat_tests))
    by_tests true false true p q r = omega arith
    by_tests true false false p q r = absurd (grind (arith, nat_tests))
    by_tests false true true p q r = omega arith
    by_tests false true false p q r = absurd (grind (arith, nat_tests))
    by_tests false false true p q r = absurd (grind (arith, nat_tests))
    by_tests false false false p q r = refl

-- a message in front counts in its channel alone
channels_cons : (n : ℕ) (test : ℕ × Msg → Bool) (x : ℕ × Msg) (list : List (ℕ × Msg)) →
    count_by test (channels n (x ∷ list))
    ≡ cond (nat_lt (channel_of x.1) n) (cond (test x) 1 0) 0 + count_by test (channels n list)
unfolding numbers
channels_cons zero test x list =
    let none : nat_lt (channel_of x.1) 0 ≡ false = grind (arith, nat_tests) in
    sym (ap (λ b. cond {A = ℕ} b (cond (test x) 1 0) 0 + count_by test (channels 0 list)) none)
channels_cons (suc n) test x list =
    omega (
      arith,
      channels_more n test (x ∷ list),
      channels_more n test list,
      channels_cons n test x list,
      kept_one (is_on_channel n x) test x (on_channel n list),
      below (channel_of x.1) n (cond (test x) 1 0),
    )

channel_there : (m : Msg) → is_in_range m ≡ true → nat_lt (channel_of m) CHANNELS ≡ true
channel_there (On channel key velocity) fits = grind (arith, nat_tests)
channel_there (Off channel key) fits = grind (arith, nat_tests)
channel_there (Control channel controller value) fits = grind (arith, nat_tests)
channel_there (Program channel program) fits = grind (arith, nat_tests)
channel_there (Bend channel bend) fits = grind (arith, nat_tests)

none_there : (n : ℕ) (test : ℕ × Msg → Bool) → count_by test (channels n []) ≡ 0
unfolding numbers
none_there zero test = refl
none_there (suc n) test = channels_more n test [] ∙ omega (arith, none_there n test)

-- the tracks of all channels have each message once
pub all_counted : (test : ℕ × Msg → Bool) (events : List TimedMessage) → AreInRange events →
    count_by test (channels CHANNELS (map as_message events)) ≡ count_by test (map as_message events)
all_counted test [] fits = none_there CHANNELS test
all_counted test (e ∷ events) fits =
    channels_cons CHANNELS test (as_message e) (map as_message events)
    ∙ ap (λ b. cond b (cond (test (as_message e)) 1 0) 0 + count_by test (channels CHANNELS (map as_message events)))
    (channel_there e.msg fits.0)
    ∙ ap (λ n. cond (test (as_message e)) 1 0 + n) (all_counted test events fits.1)
    ∙ sym (sum_by-cons (λ y. cond (test y) 1 0) (as_message e) (map as_message events))
