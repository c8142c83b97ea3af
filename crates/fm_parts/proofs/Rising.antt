-- Messages whose ticks never fall, and how long their track is.
use Rattle.std.proofs.Common.{ℕ, ◌+◌, ◌-◌, ◌*◌, ◌^◌, ◌<◌, ◌≤◌, Bool, true, false, cond, List, [], ◌∷◌, ◌++◌, length, filter, Option, None, Some, arith, length-append}
use Rattle.fm_msg.specs.declared.msg.Msg.{Msg}
use Rattle.fm_msg.specs.declared.msg.Msg.TheVariants.{On, Off, Control, Program, Bend}
use Rattle.fm_msg.specs.Message.{message_bytes}
use Rattle.fm_smf.specs.VariableLength.{vlq}
use Rattle.fm_smf.specs.Track.{delta, filler_count, remainder}
use Rattle.fm_smf.specs.declared.limits.TheConstants.{MAX_QUANTITY, MAX_TRACK}
use Rattle.fm_smf.proofs.Fillers.{length-delta}
use Rattle.fm_smf.proofs.Quantities.{length-vlq}
use Rattle.fm_smf.proofs.Tracks.{length-end}
use Rattle.fm_read.specs.Reading.{Pair}
use Rattle.fm_read.specs.Decoded.{decoded, message_from, and_message}
use Rattle.fm_read.specs.Written.{time_after}
use Rattle.fm_parts.specs.Format1.{track_behind}

-- no message is before the one in front of it, and the end is not before the last
abbrev pub RisesTo : ℕ → List (ℕ × Msg) → ℕ → Type 0
RisesTo last [] end = last ≤ end
RisesTo last (x ∷ list) end = (last ≤ x.0) × RisesTo x.0 list end

-- from a lower tick on
pub rises_lower : (low last : ℕ) (list : List (ℕ × Msg)) (end : ℕ) → low ≤ last → RisesTo last list end → RisesTo low list end
rises_lower low last [] end le rise = omega arith
rises_lower low last (x ∷ list) end le rise = (omega (arith, rise.0), rise.1)

-- the messages of a track are in time
pub rises_decoded : (low now : ℕ) (es : List Pair) → low ≤ now → RisesTo low (decoded now es) (time_after now es)
rises_decoded low now [] le = le
rises_decoded low now (e ∷ es) le = by_message (message_from e.status e.bytes) (λ n fits. rises_decoded n (now + e.delta) es fits)
  where
    by_message : (m : Option Msg) → ((n : ℕ) → n ≤ now + e.delta → RisesTo n (decoded (now + e.delta) es) (time_after (now + e.delta) es)) →
        RisesTo low (and_message (now + e.delta) m (decoded (now + e.delta) es)) (time_after (now + e.delta) es)
    by_message None later = later low (omega arith)
    by_message (Some m) later = (omega arith, later (now + e.delta) (omega arith))

-- some of them are
pub rises_filter : (p : ℕ × Msg → Bool) (last : ℕ) (list : List (ℕ × Msg)) (end : ℕ) → RisesTo last list end
    → RisesTo last (filter p list) end
rises_filter p last [] end rise = rise
rises_filter p last (x ∷ list) end rise = by_test (p x) (rises_filter p x.0 list end rise.1)
  where
    by_test : (b : Bool) → RisesTo x.0 (filter p list) end → RisesTo last (cond b (x ∷ filter p list) (filter p list)) end
    by_test true later = (rise.0, later)
    by_test false later = rises_lower last x.0 (filter p list) end rise.0 later

length-message : (m : Msg) → length (message_bytes m) ≤ 3
length-message (On channel key velocity) = omega arith
length-message (Off channel key) = omega arith
length-message (Control channel controller value) = omega arith
length-message (Program channel program) = omega arith
length-message (Bend channel bend) = omega arith

-- a message has at most seven bytes besides its fillers
pub length-one : (ticks : ℕ) (m : Msg) → length (delta ticks ++ message_bytes m) ≤ 7 * filler_count ticks + 7
length-one ticks m =
    omega (
      arith,
      length-delta ticks (message_bytes m),
      length-append (vlq (remainder ticks)) (message_bytes m),
      length-vlq (remainder ticks),
      length-message m,
    )

-- and at least one
pub one-long : (ticks : ℕ) (m : Msg) → 0 < length (delta ticks ++ message_bytes m)
one-long ticks m = omega (arith, length-append (delta ticks) (message_bytes m), some m)
  where
    some : (m : Msg) → 0 < length (message_bytes m)
    some (On channel key velocity) = omega arith
    some (Off channel key) = omega arith
    some (Control channel controller value) = omega arith
    some (Program channel program) = omega arith
    some (Bend channel bend) = omega arith

-- seven bytes a message and for the end, and seven for each greatest quantity of ticks
pub length-track : (last : ℕ) (list : List (ℕ × Msg)) (end : ℕ) → RisesTo last list end →
    MAX_QUANTITY * length (track_behind last list end) + 7 * last ≤ MAX_QUANTITY * (7 * length list + 7) + 7 * end
length-track last [] end rise = omega (arith, length-end last end)
length-track last (x ∷ list) end rise =
    omega (
      arith,
      rise.0,
      length-append (delta (x.0 - last) ++ message_bytes x.1) (track_behind x.0 list end),
      length-one (x.0 - last) x.1,
      length-track x.0 list end rise.1,
    )

-- a track has a length of four bytes
pub track_small : (list : List (ℕ × Msg)) (end : ℕ) → RisesTo 0 list end → length list ≤ 2 ^ 25 → end ≤ 2 ^ 57 →
    length (track_behind 0 list end) ≤ MAX_TRACK
track_small list end rise few early = omega (arith, length-track 0 list end rise)
