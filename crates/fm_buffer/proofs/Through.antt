-- The longest prefix with no event past the key, one event at a time.
use Rattle.std.proofs.Common.{◌≡◌, ℕ, ◌+◌, ◌<◌, ◌≤◌, Bool, true, false, Option, List, [], ◌∷◌, ◌++◌, length, take, drop, refl, ap, arith, suc, IsTrue, if◌then◌else◌}
use Rattle.std.proofs.lemmas.List.{take_all}
use Rattle.std.proofs.Math.Seq.{take-append-add}
use Rattle.std.proofs.lemmas.List.Elements.{All-cons, All-nil}
use Rattle.fm_msg.specs.Event.{TimedMessage}
use Rattle.fm_buffer.specs.Outbox.{IsLongestThrough, is_through, count_through}
use Rattle.fm_buffer.specs.Gather.{EventGather}

-- the first so many events of a list went to the gather's end, and each was at most the key
pub record IsGathered (key : Option (ℕ × ℕ)) (events : List TimedMessage) (to to' : EventGather) (taken : ℕ) : Type 0 where
  pub count : taken + count_through key (drop taken events) ≡ count_through key events
  pub gathered : to' ≡ record to { events = to.events ++ take taken events }
  pub many : length to'.events ≡ length to.events + taken
  pub same : to'.capacity ≡ to.capacity

-- of two lists, where an event of the first one is past the key
part-cons : (key : Option (ℕ × ℕ)) (xs ys : List TimedMessage) (goes : Bool)
    → (count_through key xs < length xs → count_through key (xs ++ ys) ≡ count_through key xs)
    → (if goes then suc (count_through key xs) else 0) < suc (length xs)
    → (if goes then suc (count_through key (xs ++ ys)) else 0) ≡ (if goes then suc (count_through key xs) else 0)
part-cons key xs ys true same early = ap suc (same (omega arith))
part-cons key xs ys false same early = refl

pub count_through-part : (key : Option (ℕ × ℕ)) (xs ys : List TimedMessage)
    → count_through key xs < length xs → count_through key (xs ++ ys) ≡ count_through key xs
count_through-part key [] ys early = omega arith
count_through-part key (x ∷ xs) ys early =
    part-cons key xs ys (is_through key x) (count_through-part key xs ys) early

-- of two lists, where each event of the first one is at most the key
whole-cons : (key : Option (ℕ × ℕ)) (xs ys : List TimedMessage) (goes : Bool)
    → (count_through key xs ≡ length xs → count_through key (xs ++ ys) ≡ length xs + count_through key ys)
    → (if goes then suc (count_through key xs) else 0) ≡ suc (length xs)
    → (if goes then suc (count_through key (xs ++ ys)) else 0) ≡ suc (length xs) + count_through key ys
whole-cons key xs ys true same all = let rest = same (omega arith) in omega arith
whole-cons key xs ys false same all = omega arith

pub count_through-whole : (key : Option (ℕ × ℕ)) (xs ys : List TimedMessage)
    → count_through key xs ≡ length xs → count_through key (xs ++ ys) ≡ length xs + count_through key ys
count_through-whole key [] ys all = omega arith
count_through-whole key (x ∷ xs) ys all =
    whole-cons key xs ys (is_through key x) (count_through-whole key xs ys) all

-- the same with one event more in front
longest-cons : (key : Option (ℕ × ℕ)) (event : TimedMessage) (events : List TimedMessage) (count : ℕ) (goes : Bool)
    → is_through key event ≡ goes → IsLongestThrough key events count
    → IsLongestThrough key (event ∷ events) (if goes then suc count else 0)
longest-cons key event events count true through rest = record {
  within = let within = rest.within in omega arith;
  through = All-cons (λ e. IsTrue (is_through key e)) event (take count events) through rest.through;
  ended = rest.ended;
}
longest-cons key event events count false past rest = record {
  within = omega arith;
  through = All-nil (λ e. IsTrue (is_through key e));
  ended = past;
}

-- so many events are the longest such prefix
pub count_through_is_longest : (key : Option (ℕ × ℕ)) (events : List TimedMessage)
    → IsLongestThrough key events (count_through key events)
count_through_is_longest key [] = record {
  within = omega arith;
  through = All-nil (λ e. IsTrue (is_through key e));
  ended = tt;
}
count_through_is_longest key (event ∷ events) =
    longest-cons key event events (count_through key events) (is_through key event) refl (count_through_is_longest key events)

-- no more than there are
pub count_through-within : (key : Option (ℕ × ℕ)) (events : List TimedMessage) → count_through key events ≤ length events
count_through-within key events = (count_through_is_longest key events).within

-- of two lists, where all of the first one went
pub both_counted : (key : Option (ℕ × ℕ)) (xs ys : List TimedMessage) (first second : ℕ)
    → first ≡ count_through key xs → length xs ≤ first → second ≡ count_through key ys
    → first + second ≡ count_through key (xs ++ ys)
both_counted key xs ys first second one all two =
    let within = count_through-within key xs in
    let both = count_through-whole key xs ys (omega arith) in omega arith

pub both_taken : (xs ys : List TimedMessage) (first second : ℕ) → first ≡ length xs
    → take first xs ++ take second ys ≡ take (first + second) (xs ++ ys)
both_taken xs ys first second all =
    rw (all, take-append-add xs ys second) (ap (λ zs. zs ++ take second ys) (take_all (length xs) xs (omega arith)))
