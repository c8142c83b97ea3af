-- Excerpts that meet.
use Rattle.std.proofs.Common.{◌≡◌, ℕ, ◌+◌, ◌-◌, ◌≤◌, true, false, ◌&&◌, ◌||◌, cond, nat_eq, min, max, List, [], ◌∷◌, ◌++◌, map, Option, None, Some, IfSome, refl, sym, ◌∙◌, ap, arith}
use Rattle.std.specs.Prelude.{count_by}
use Rattle.std.proofs.lemmas.List.{append-nil}
use Rattle.std.proofs.lemmas.List.Elements.{filter-append}
use Rattle.std.proofs.lemmas.Bool.Decides.{nat_tests}
use Rattle.fm_msg.specs.declared.msg.Msg.{Msg}
use Rattle.fm_msg.specs.declared.msg.Msg.TheVariants.{On, Off, Control, Program, Bend}
use Rattle.fm_msg.specs.Event.{TimedMessage}
use Rattle.fm_smf.specs.Track.{NeverFalls}
use Rattle.fm_read.specs.Written.{AreInRange, as_message}
use Rattle.fm_excerpt.specs.Excerpt.{is_on, is_off, sounding, state, before, window, window_of, start_of, closing, message_at, at_tick, excerpt, excerpt_end}
use Rattle.fm_excerpt.specs.Notes.{AreEnded, begins_note, note_ons, later_by, of_key}
use Rattle.fm_excerpt.proofs.MeetLemmas.{windows_meet, window_later, note_ons_later, note_ons_same}
use Rattle.fm_excerpt.proofs.NoteLemmas.{window_covered}
use Rattle.fm_excerpt.proofs.PartLemmas.{count_first, state_ons, closing_ons}
use Rattle.fm_excerpt.proofs.KeyLemmas.{window_alike, window_key, of_key_later}

-- messages that begin no note
none_begun : (t : ℕ) (ms : List Msg) → ((c k : ℕ) → count_by (is_on c k) ms ≡ 0) → note_ons (at_tick t ms) ≡ []
none_begun t [] none = refl
none_begun t (m ∷ ms) none =
    ap (λ b. cond b ((t, m) ∷ note_ons (at_tick t ms)) (note_ons (at_tick t ms))) (by_message m none)
    ∙ none_begun t ms (λ c k. omega (arith, none c k, count_first (is_on c k) m ms))
  where
    by_message : (m : Msg) → ((c k : ℕ) → count_by (is_on c k) (m ∷ ms) ≡ 0) → begins_note m ≡ false
    by_message (On channel key velocity) none =
        let same : (nat_eq channel channel && nat_eq key key) ≡ true = grind (arith, nat_tests) in
        absurd (omega (
          arith,
          none channel key,
          count_first (is_on channel key) (On channel key velocity) ms
              ∙ ap (λ b. cond {A = ℕ} b 1 0 + count_by (is_on channel key) ms) same,
        ))
    by_message (Off channel key) none = refl
    by_message (Control channel controller value) none = refl
    by_message (Program channel program) none = refl
    by_message (Bend channel bend) none = refl

-- the note-ons of an excerpt are those of its window
excerpt_ons : (begin : ℕ) (until : Option ℕ) (list : List (ℕ × Msg)) (end : ℕ) →
    note_ons (excerpt begin until list end) ≡ note_ons (window_of begin until list end)
unfolding excerpt
excerpt_ons begin until list end =
    filter-append (λ x. begins_note x.1) (at_tick 0 first ++ middle) (at_tick (excerpt_end begin until end) last)
    ∙ ap (λ z. z ++ note_ons (at_tick (excerpt_end begin until end) last)) (filter-append (λ x. begins_note x.1) (at_tick 0 first) middle)
    ∙ ap (λ z. z ++ note_ons middle ++ note_ons (at_tick (excerpt_end begin until end) last))
    (none_begun 0 first (λ c k. state_ons c k (before begin list)))
    ∙ ap (λ z. note_ons middle ++ z) (none_begun (excerpt_end begin until end) last (λ c k. closing_ons c k (map message_at middle)))
    ∙ append-nil (note_ons middle)
  where
    first : List Msg
    first = state (before begin list)

    middle : List (ℕ × Msg)
    middle = window_of begin until list end

    last : List Msg
    last = closing (map message_at middle)

-- the window of the second excerpt, at its ticks behind the first
second_later : (begin mid : ℕ) (until : Option ℕ) (list : List (ℕ × Msg)) (end : ℕ) → begin ≤ mid →
    later_by (excerpt_end begin (Some mid) end) (window_of mid until list end) ≡ window mid until (start_of begin end) [] list
second_later begin mid until list end le =
    ap (λ n. later_by (excerpt_end begin (Some mid) end) (window mid until n [] list))
    {x = min mid end} {y = min begin end + (min (max begin mid) end - min begin end)} (omega arith)
    ∙ window_later mid until (min begin end) (min (max begin mid) end - min begin end) [] list (omega arith)

pub starts_meet : (begin mid : ℕ) (until : Option ℕ) (events : List TimedMessage) (end : ℕ) → begin ≤ mid → IfSome until (λ u. mid ≤ u) →
    NeverFalls 0 events →
    note_ons (excerpt begin until (map as_message events) end)
    ≡ note_ons (excerpt begin (Some mid) (map as_message events) end)
    ++ later_by (excerpt_end begin (Some mid) end) (note_ons (excerpt mid until (map as_message events) end))
starts_meet begin mid until events end le far rises =
    excerpt_ons begin until list end
    ∙ ap note_ons (windows_meet begin mid until (start_of begin end) [] 0 events le far rises)
    ∙ filter-append (λ x. begins_note x.1) first _
    ∙ ap (λ z. note_ons first ++ z) (note_ons_same mid until (start_of begin end) (map message_at first) [] list
    ∙ ap note_ons (sym (second_later begin mid until list end le))
    ∙ note_ons_later (excerpt_end begin (Some mid) end) (window_of mid until list end)
    ∙ ap (later_by (excerpt_end begin (Some mid) end)) (sym (excerpt_ons mid until list end)))
    ∙ ap (λ z. z ++ later_by (excerpt_end begin (Some mid) end) (note_ons (excerpt mid until list end)))
    (sym (excerpt_ons begin (Some mid) list end))
  where
    list : List (ℕ × Msg)
    list = map as_message events

    first : List (ℕ × Msg)
    first = window_of begin (Some mid) list end

pub windows_join : (begin mid : ℕ) (until : Option ℕ) (events : List TimedMessage) (end : ℕ) → begin ≤ mid → IfSome until (λ u. mid ≤ u) →
    NeverFalls 0 events → AreInRange events → AreEnded (window_of begin (Some mid) (map as_message events) end) →
    window_of begin until (map as_message events) end
    ≡ window_of begin (Some mid) (map as_message events) end
    ++ later_by (excerpt_end begin (Some mid) end) (window_of mid until (map as_message events) end)
windows_join begin mid until events end le far rises fits ended =
    windows_meet begin mid until (start_of begin end) [] 0 events le far rises
    ∙ ap (λ z. first ++ z) (window_alike mid until (start_of begin end) (map message_at first) [] events fits
    (λ c k there low. omega (arith, ended c k there low))
    ∙ sym (second_later begin mid until (map as_message events) end le))
  where
    first : List (ℕ × Msg)
    first = window_of begin (Some mid) (map as_message events) end

pub keys_join : (c k begin mid : ℕ) (until : Option ℕ) (events : List TimedMessage) (end : ℕ) → begin ≤ mid → IfSome until (λ u. mid ≤ u) →
    NeverFalls 0 events → sounding c k (map message_at (window_of begin (Some mid) (map as_message events) end)) ≡ 0 →
    of_key c k (window_of begin until (map as_message events) end)
    ≡ of_key c k (window_of begin (Some mid) (map as_message events) end)
    ++ later_by (excerpt_end begin (Some mid) end) (of_key c k (window_of mid until (map as_message events) end))
keys_join c k begin mid until events end le far rises silent =
    ap (of_key c k) (windows_meet begin mid until (start_of begin end) [] 0 events le far rises)
    ∙ filter-append (λ x. is_on c k x.1 || is_off c k x.1) first _
    ∙ ap (λ z. of_key c k first ++ z) (window_key c k mid until (start_of begin end) (map message_at first) [] list
    (omega (arith, silent, window_covered c k begin (Some mid) list end))
    ∙ ap (of_key c k) (sym (second_later begin mid until list end le))
    ∙ of_key_later c k (excerpt_end begin (Some mid) end) (window_of mid until list end))
  where
    list : List (ℕ × Msg)
    list = map as_message events

    first : List (ℕ × Msg)
    first = window_of begin (Some mid) list end

gap : (a b c : ℕ) → a ≤ b → b ≤ c → c - a ≡ (b - a) + (c - b)
gap a b c ab bc = omega arith

min_rises : (a b n : ℕ) → a ≤ b → min a n ≤ min b n
min_rises a b n le = omega arith

below_end : (a n : ℕ) → min a n ≤ n
below_end a n = omega arith

max_is : (a b : ℕ) → a ≤ b → max a b ≡ b
max_is a b le = omega arith

-- the ends of excerpts that meet add up
pub ends_meet : (begin mid : ℕ) (until : Option ℕ) (end : ℕ) → begin ≤ mid → IfSome until (λ u. mid ≤ u) →
    excerpt_end begin until end ≡ excerpt_end begin (Some mid) end + excerpt_end mid until end
ends_meet begin mid None end le far =
    gap (min begin end) (min mid end) end (min_rises begin mid end le) (below_end mid end)
    ∙ ap (λ n. min n end - min begin end + (end - min mid end)) (sym (max_is begin mid le))
ends_meet begin mid (Some u) end le far =
    ap (λ n. min n end - min begin end) (max_is begin u (omega (arith, le, far)))
    ∙ gap (min begin end) (min mid end) (min u end) (min_rises begin mid end le) (min_rises mid u end far)
    ∙ ap (λ n. min n end - min begin end + (min u end - min mid end)) (sym (max_is begin mid le))
    ∙ ap (λ n. min (max begin mid) end - min begin end + (min n end - min mid end)) (sym (max_is mid u far))
