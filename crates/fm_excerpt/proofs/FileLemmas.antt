-- An excerpt of a file is a file: its messages are in range and in time, and so it is read.
use Rattle.std.proofs.Common.{◌≡◌, ℕ, zero, suc, ◌+◌, ◌-◌, ◌<◌, ◌≤◌, Bool, true, false, ◌&&◌, cond, nat_eq, nat_lt, max, List, [], ◌∷◌, ◌++◌, length, map, replicate, Option, Some, None, refl, sym, subst, arith}
use Rattle.std.specs.List.{flat_map}
use Rattle.std.specs.Option.{option_map, option_to_list}
use Rattle.std.proofs.lemmas.Bool.Decides.{nat_tests}
use Rattle.fm_msg.specs.declared.msg.Msg.{Msg}
use Rattle.fm_msg.specs.declared.msg.Msg.TheVariants.{On, Off, Control, Program, Bend}
use Rattle.fm_msg.specs.declared.msg.TheConstants.{CHANNELS, DATA_VALUES}
use Rattle.fm_msg.specs.declared.profile.Profile.{Profile}
use Rattle.fm_msg.specs.Event.{TimedMessage}
use Rattle.fm_msg.specs.Message.{is_in_range}
use Rattle.fm_smf.specs.File.{file}
use Rattle.fm_smf.specs.Track.{NeverFalls, last_time}
use Rattle.fm_smf.specs.declared.limits.TheConstants.{MAX_TIME}
use Rattle.fm_smf.proofs.Tracks.{length-file}
use Rattle.fm_read.specs.Files.{Contents}
use Rattle.fm_read.specs.Written.{AreInRange, as_message}
use Rattle.fm_read.specs.WrittenFile.{IsFileOf, written_contents}
use Rattle.fm_read.specs.declared.limits.TheConstants.{MAX_FILE}
use Rattle.fm_read.proofs.FileWritten.{file_written}
use Rattle.fm_excerpt.specs.Last.{or_else, last_value, program_of, bend_of, control_of}
use Rattle.fm_excerpt.specs.Excerpt.{below, before, channel_state, state, keeps, is_inside, window, window_of, start_of, stop_of, closing, message_at, at_tick, excerpt, excerpt_end, excerpt_events, as_event}
use Rattle.fm_excerpt.specs.Written.{HasExcerpts}
use Rattle.fm_excerpt.proofs.Below.{below_none, below_suc}
use Rattle.fm_excerpt.proofs.InsideLemmas.{window_kept, window_left, window_none, inside_begin, inside_stop, both_first}
use Rattle.fm_excerpt.proofs.StateLemmas.{EachFits}

-- ---- messages in range

fits_append : (xs ys : List Msg) → EachFits xs → EachFits ys → EachFits (xs ++ ys)
fits_append [] ys one two = two
fits_append (x ∷ xs) ys one two = (one.0, fits_append xs ys one.1 two)

fits_below : (g : ℕ → List Msg) (n : ℕ) → ((i : ℕ) → i < n → EachFits (g i)) → EachFits (flat_map g (below n))
fits_below g zero each = subst EachFits (sym (below_none g)) tt
fits_below g (suc n) each =
    subst EachFits (sym (below_suc g n))
    (fits_append (flat_map g (below n)) (g n) (fits_below g n (λ i less. each i (omega arith))) (each n (omega arith)))

fits_before : (begin : ℕ) (events : List TimedMessage) → AreInRange events → EachFits (before begin (map as_message events))
fits_before begin [] fits = tt
fits_before begin (e ∷ es) fits = by_test (nat_lt e.time begin) (fits_before begin es fits.1)
  where
    by_test : (b : Bool) → EachFits (before begin (map as_message es)) →
        EachFits (cond b (e.msg ∷ []) [] ++ before begin (map as_message es))
    by_test true more = (fits.0, more)
    by_test false more = more

-- a message that is made of the last value is one of those that have it
last_fits : (f : Msg → Option ℕ) (make : ℕ → Msg) (ms : List Msg) → ((m : Msg) (v : ℕ) → f m ≡ Some v → m ≡ make v) → EachFits ms →
    EachFits (option_to_list (option_map make (last_value f ms)))
last_fits f make [] same fits = tt
last_fits f make (m ∷ ms) same fits = by_last (last_value f ms) (last_fits f make ms same fits.1)
  where
    by_own : (o : Option ℕ) → f m ≡ o → EachFits (option_to_list (option_map make o))
    by_own None is = tt
    by_own (Some v) is = (subst (λ x. is_in_range x ≡ true) (same m v is) fits.0, tt)

    by_last : (o : Option ℕ) → EachFits (option_to_list (option_map make o)) → EachFits (option_to_list (option_map make (or_else o (f m))))
    by_last (Some v) more = more
    by_last None more = by_own (f m) refl

program_back : (c : ℕ) (m : Msg) (v : ℕ) → program_of c m ≡ Some v → m ≡ Program c v
program_back c (On channel key velocity) v is = absurd cc
program_back c (Off channel key) v is = absurd cc
program_back c (Control channel controller value) v is = absurd cc
program_back c (Bend channel bend) v is = absurd cc
program_back c (Program channel program) v is = by_test (nat_eq channel c) refl is
  where
    by_test : (b : Bool) → nat_eq channel c ≡ b → cond b (Some program) None ≡ Some v → Program channel program ≡ Program c v
    by_test true same e = let one : channel ≡ c = grind (arith, nat_tests) in cc
    by_test false same e = absurd cc

bend_back : (c : ℕ) (m : Msg) (v : ℕ) → bend_of c m ≡ Some v → m ≡ Bend c v
bend_back c (On channel key velocity) v is = absurd cc
bend_back c (Off channel key) v is = absurd cc
bend_back c (Control channel controller value) v is = absurd cc
bend_back c (Program channel program) v is = absurd cc
bend_back c (Bend channel bend) v is = by_test (nat_eq channel c) refl is
  where
    by_test : (b : Bool) → nat_eq channel c ≡ b → cond b (Some bend) None ≡ Some v → Bend channel bend ≡ Bend c v
    by_test true same e = let one : channel ≡ c = grind (arith, nat_tests) in cc
    by_test false same e = absurd cc

control_back : (c k : ℕ) (m : Msg) (v : ℕ) → control_of c k m ≡ Some v → m ≡ Control c k v
control_back c k (On channel key velocity) v is = absurd cc
control_back c k (Off channel key) v is = absurd cc
control_back c k (Program channel program) v is = absurd cc
control_back c k (Bend channel bend) v is = absurd cc
control_back c k (Control channel controller value) v is = by_tests (nat_eq channel c) (nat_eq controller k) refl refl is
  where
    by_tests : (a b : Bool) → nat_eq channel c ≡ a → nat_eq controller k ≡ b → cond (a && b) (Some value) None ≡ Some v →
        Control channel controller value ≡ Control c k v
    by_tests true true p q e =
        let one : channel ≡ c = grind (arith, nat_tests) in
        let two : controller ≡ k = grind (arith, nat_tests) in
        cc
    by_tests true false p q e = absurd cc
    by_tests false b p q e = absurd cc

fits_channel : (c : ℕ) (ms : List Msg) → EachFits ms → EachFits (channel_state c ms)
unfolding channel_state
fits_channel c ms fits =
    fits_append _ _
    (fits_append _ _ (last_fits (program_of c) (Program c) ms (program_back c) fits)
    (fits_below _ DATA_VALUES (λ k low. last_fits (control_of c k) (Control c k) ms (control_back c k) fits)))
    (last_fits (bend_of c) (Bend c) ms (bend_back c) fits)

fits_state : (ms : List Msg) → EachFits ms → EachFits (state ms)
unfolding state
fits_state ms fits = fits_below _ CHANNELS (λ c less. fits_channel c ms fits)

fits_times : (n : ℕ) (m : Msg) → is_in_range m ≡ true → EachFits (replicate n m)
fits_times zero m fits = tt
fits_times (suc n) m fits = (fits, fits_times n m fits)

fits_closing : (kept : List Msg) → EachFits (closing kept)
unfolding closing
fits_closing kept =
    fits_below _ CHANNELS (λ c less. fits_below _ DATA_VALUES (λ k low. fits_times _ (Off c k) (grind (arith, nat_tests))))

-- as events
range_append : (xs ys : List (ℕ × Msg)) → AreInRange (map as_event xs) → AreInRange (map as_event ys) → AreInRange (map as_event (xs ++ ys))
range_append [] ys one two = two
range_append (x ∷ xs) ys one two = (one.0, range_append xs ys one.1 two)

range_tick : (t : ℕ) (ms : List Msg) → EachFits ms → AreInRange (map as_event (at_tick t ms))
range_tick t [] fits = tt
range_tick t (m ∷ ms) fits = (fits.0, range_tick t ms fits.1)

range_window : (begin : ℕ) (until : Option ℕ) (start : ℕ) (kept : List Msg) (events : List TimedMessage) → AreInRange events →
    AreInRange (map as_event (window begin until start kept (map as_message events)))
range_window begin until start kept [] fits =
    subst (λ z. AreInRange (map as_event z)) (sym (window_none begin until start kept)) tt
range_window begin until start kept (e ∷ es) fits =
    by_test (λ next. range_window begin until start next es fits.1) (is_inside begin until e.time && keeps kept e.msg) refl
  where
    list : List (ℕ × Msg)
    list = map as_message es

    by_test : ((next : List Msg) → AreInRange (map as_event (window begin until start next list))) → (b : Bool) →
        (is_inside begin until e.time && keeps kept e.msg) ≡ b →
        AreInRange (map as_event (window begin until start kept (as_message e ∷ list)))
    by_test more true is =
        subst (λ z. AreInRange (map as_event z)) (sym (window_kept begin until start kept e.time e.msg list is))
        (fits.0, more (kept ++ e.msg ∷ []))
    by_test more false is =
        subst (λ z. AreInRange (map as_event z)) (sym (window_left begin until start kept e.time e.msg list is)) (more kept)

pub excerpt_in_range : (begin : ℕ) (until : Option ℕ) (events : List TimedMessage) (end : ℕ) → AreInRange events →
    AreInRange (excerpt_events begin until events end)
unfolding excerpt
excerpt_in_range begin until events end fits =
    range_append _ _
    (range_append _ _ (range_tick 0 _ (fits_state _ (fits_before begin events fits)))
    (range_window begin until (start_of begin end) [] events fits))
    (range_tick (excerpt_end begin until end) _ (fits_closing (map message_at (window_of begin until (map as_message events) end))))

-- ---- messages in time

-- no message is before the one in front of it, and none behind the end
abbrev Rises : ℕ → List (ℕ × Msg) → ℕ → Type 0
Rises low [] end = low ≤ end
Rises low (x ∷ xs) end = (low ≤ x.0) × Rises x.0 xs end

rises_events : (low : ℕ) (list : List (ℕ × Msg)) (end : ℕ) → Rises low list end → NeverFalls low (map as_event list)
rises_events low [] end rise = tt
rises_events low (x ∷ xs) end rise = (rise.0, rises_events x.0 xs end rise.1)

rises_last : (low : ℕ) (list : List (ℕ × Msg)) (end : ℕ) → Rises low list end → last_time low (map as_event list) ≤ end
rises_last low [] end rise = rise
rises_last low (x ∷ xs) end rise = rises_last x.0 xs end rise.1

rises_start : (ms : List Msg) (rest : List (ℕ × Msg)) (end : ℕ) → Rises 0 rest end → Rises 0 (at_tick 0 ms ++ rest) end
rises_start [] rest end rise = rise
rises_start (m ∷ ms) rest end rise = (omega arith, rises_start ms rest end rise)

rises_stop : (low : ℕ) (ms : List Msg) (end : ℕ) → low ≤ end → Rises low (at_tick end ms) end
rises_stop low [] end le = le
rises_stop low (m ∷ ms) end le = (le, rises_stop end ms end (omega arith))

rises_then : (low : ℕ) (list : List (ℕ × Msg)) (ms : List Msg) (end : ℕ) → Rises low list end → Rises low (list ++ at_tick end ms) end
rises_then low [] ms end rise = rises_stop low ms end rise
rises_then low (x ∷ xs) ms end rise = (rise.0, rises_then x.0 xs ms end rise.1)

rises_window : (begin : ℕ) (until : Option ℕ) (end low last : ℕ) (kept : List Msg) (events : List TimedMessage) →
    NeverFalls last events → last_time last events ≤ end → low + start_of begin end ≤ max begin last → low ≤ excerpt_end begin until end →
    Rises low (window begin until (start_of begin end) kept (map as_message events)) (excerpt_end begin until end)
rises_window begin until end low last kept [] rise later soon le =
    subst (λ z. Rises low z (excerpt_end begin until end)) (sym (window_none begin until (start_of begin end) kept)) le
rises_window begin until end low last kept (e ∷ es) rise later soon le =
    by_test
    (λ next bound. rises_window begin until end low e.time next es rise.1 later bound le)
    (λ next bound fits. rises_window begin until end (e.time - start_of begin end) e.time next es rise.1 later bound fits)
    (is_inside begin until e.time && keeps kept e.msg) refl
  where
    start : ℕ
    start = start_of begin end

    list : List (ℕ × Msg)
    list = map as_message es

    by_test : ((next : List Msg) → low + start ≤ max begin e.time →
        Rises low (window begin until start next list) (excerpt_end begin until end)) →
        ((next : List Msg) → e.time - start + start ≤ max begin e.time → e.time - start ≤ excerpt_end begin until end →
        Rises (e.time - start) (window begin until start next list) (excerpt_end begin until end)) →
        (b : Bool) → (is_inside begin until e.time && keeps kept e.msg) ≡ b →
        Rises low (window begin until start kept (as_message e ∷ list)) (excerpt_end begin until end)
    by_test skip keep true is =
        let within = both_first _ _ is in
        let from : begin ≤ e.time = inside_begin begin until e.time within in
        let small : e.time ≤ end = omega (arith, last_within e.time es rise.1, later) in
        let stop : e.time ≤ stop_of begin until end = inside_stop begin until e.time end within small in
        subst (λ z. Rises low z (excerpt_end begin until end)) (sym (window_kept begin until start kept e.time e.msg list is))
        (omega (arith, rise.0, soon, from), keep (kept ++ e.msg ∷ []) (omega arith) (omega (arith, stop)))
      where
        last_within : (t : ℕ) (es : List TimedMessage) → NeverFalls t es → t ≤ last_time t es
        last_within t [] r = omega arith
        last_within t (x ∷ xs) r = omega (arith, r.0, last_within x.time xs r.1)
    by_test skip keep false is =
        subst (λ z. Rises low z (excerpt_end begin until end)) (sym (window_left begin until start kept e.time e.msg list is))
        (skip kept (omega (arith, rise.0, soon)))

excerpt_rises : (begin : ℕ) (until : Option ℕ) (events : List TimedMessage) (end : ℕ) → NeverFalls 0 events → last_time 0 events ≤ end →
    Rises 0 (excerpt begin until (map as_message events) end) (excerpt_end begin until end)
unfolding excerpt
excerpt_rises begin until events end rise later =
    rises_then 0 _ _ (excerpt_end begin until end)
    (rises_start _ _ (excerpt_end begin until end) (rises_window begin until end 0 0 [] events rise later (omega arith) (omega arith)))

pub excerpt_in_time : (begin : ℕ) (until : Option ℕ) (events : List TimedMessage) (end : ℕ) → NeverFalls 0 events →
    last_time 0 events ≤ end →
    NeverFalls 0 (excerpt_events begin until events end)
excerpt_in_time begin until events end rise later =
    rises_events 0 _ (excerpt_end begin until end) (excerpt_rises begin until events end rise later)

pub excerpt_last : (begin : ℕ) (until : Option ℕ) (events : List TimedMessage) (end : ℕ) → NeverFalls 0 events → last_time 0 events ≤ end →
    last_time 0 (excerpt_events begin until events end) ≤ excerpt_end begin until end
excerpt_last begin until events end rise later =
    rises_last 0 _ (excerpt_end begin until end) (excerpt_rises begin until events end rise later)

-- ---- the file

pub excerpt_file : (profile : Profile) (events : List TimedMessage) (end : ℕ) (c : Contents) (begin : ℕ) (until : Option ℕ) →
    IsFileOf profile events end c →
    length (file profile (excerpt_events begin until events end) (excerpt_end begin until end)) ≤ MAX_FILE →
    IsFileOf profile (excerpt_events begin until events end) (excerpt_end begin until end)
    (written_contents profile (excerpt_events begin until events end) (excerpt_end begin until end))
excerpt_file profile events end c begin until is small =
    let range : AreInRange (excerpt_events begin until events end) = excerpt_in_range begin until events end is.in_range in
    record {
      is_read = file_written profile (excerpt_events begin until events end) (excerpt_end begin until end) range is.division
          (omega (arith, small, length-file profile (excerpt_events begin until events end) (excerpt_end begin until end)));
      small = small;
      division = is.division;
      in_range = range;
      in_time = excerpt_in_time begin until events end is.in_time is.later;
      later = excerpt_last begin until events end is.in_time is.later;
    }

pub excerpt_again : (profile : Profile) (events : List TimedMessage) (end : ℕ) (c : Contents) (begin : ℕ) (until : Option ℕ) →
    IsFileOf profile events end c → end ≤ MAX_TIME →
    length (file profile (excerpt_events begin until events end) (excerpt_end begin until end)) ≤ MAX_FILE →
    HasExcerpts profile (written_contents profile (excerpt_events begin until events end) (excerpt_end begin until end))
excerpt_again profile events end c begin until is soon small = record {
  events = excerpt_events begin until events end;
  end = excerpt_end begin until end;
  is = excerpt_file profile events end c begin until is small;
  in_time = by_until until;
}
  where
    by_until : (u : Option ℕ) → excerpt_end begin u end ≤ MAX_TIME
    by_until None = omega arith
    by_until (Some n) = omega arith
