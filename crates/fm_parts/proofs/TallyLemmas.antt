-- One entry more in the table of the channels.
use Rattle.std.proofs.Common.{◌≡◌, ◌≢◌, ℕ, ◌+◌, ◌-◌, ◌*◌, ◌^◌, ◌<◌, ◌≤◌, Bool, true, false, ◌&&◌, nat_eq, List, [], ◌∷◌, ◌++◌, length, Option, None, Some, refl, sym, ◌∙◌, ap, arith, length-append}
use Rattle.std.specs.List.{flat_map}
use Rattle.std.proofs.lemmas.List.{append-nil}
use Rattle.std.proofs.lemmas.List.Sums.{length-filter, count_by-le-length}
use Rattle.std.proofs.lemmas.Bool.Decides.{nat_tests}
use Rattle.fm_msg.specs.declared.msg.Msg.{Msg}
use Rattle.fm_msg.specs.declared.msg.TheConstants.{CHANNELS}
use Rattle.fm_msg.specs.Message.{message_bytes}
use Rattle.fm_smf.specs.Track.{delta, end_bytes}
use Rattle.fm_smf.specs.declared.limits.TheConstants.{MAX_TRACK}
use Rattle.fm_read.specs.Reading.{Pair}
use Rattle.fm_read.specs.Decoded.{decoded, message_from, and_message}
use Rattle.fm_read.specs.Written.{time_after}
use Rattle.fm_read.specs.WrittenFile.{track_head}
use Rattle.fm_read.specs.declared.limits.TheConstants.{MAX_FILE}
use Rattle.fm_parts.specs.Format1.{channel_of, on_channel, track_behind, track_of, track_chunk, is_silent, is_on_channel}
use Rattle.fm_parts.specs.Tally.{Tallied, last_of, bytes_of, more_bytes, Enters, IsTally}
use Rattle.fm_parts.proofs.Channels.{skip_other, skip_channel, own_channel}
use Rattle.fm_parts.proofs.Rising.{rises_decoded, rises_filter, track_small, one-long}

-- the table at a tick: with what is left of a track, it makes the whole
pub record Tallying (t : Tallied) (now : ℕ) (left all : List Pair) : Type 0 where
  pub whole : (c : ℕ) → c < CHANNELS → (end : ℕ) →
      bytes_of t c + length (track_behind (last_of t c) (on_channel c (decoded now left)) end)
      ≡ length (track_behind 0 (on_channel c (decoded 0 all)) end)
  pub silent : (c : ℕ) → c < CHANNELS →
      (nat_eq (bytes_of t c) 0 && is_silent (on_channel c (decoded now left))) ≡ is_silent (on_channel c (decoded 0 all))
  pub past : (c : ℕ) → c < CHANNELS → last_of t c ≤ now
  pub room : (c : ℕ) → c < CHANNELS → bytes_of t c + 2 ^ 33 * length left ≤ 2 ^ 58
  pub early : now + 2 ^ 32 * length left ≤ 2 ^ 57
  pub end : time_after now left ≡ time_after 0 all

-- before the first entry
pub tally_begun : (t : Tallied) (all : List Pair) → ((c : ℕ) → last_of t c ≡ 0) → ((c : ℕ) → bytes_of t c ≡ 0) → length all ≤ MAX_FILE →
    Tallying t 0 all all
tally_begun t all lasts none few = record {
  whole = λ c lt end. omega (arith, none c, ap (λ n. length (track_behind n (on_channel c (decoded 0 all)) end)) (lasts c));
  silent = λ c lt. ap (λ n. nat_eq n 0 && is_silent (on_channel c (decoded 0 all))) (none c);
  past = λ c lt. omega (arith, lasts c);
  room = λ c lt. omega (arith, none c);
  early = omega arith;
  end = refl;
}

-- an entry that is no message
pub tally_skipped : (t : Tallied) (now : ℕ) (e : Pair) (es all : List Pair) → message_from e.status e.bytes ≡ None → e.delta < 2 ^ 32 →
    Tallying t now (e ∷ es) all → Tallying t (now + e.delta) es all
tally_skipped t now e es all is small had = record {
  whole = λ c lt end.
      ap (λ z. bytes_of t c + length (track_behind (last_of t c) (on_channel c z) end)) (sym (skip_other now e es is)) ∙ had.whole c lt end;
  silent = λ c lt. ap (λ z. nat_eq (bytes_of t c) 0 && is_silent (on_channel c z)) (sym (skip_other now e es is)) ∙ had.silent c lt;
  past = λ c lt. omega (arith, had.past c lt);
  room = λ c lt. omega (arith, had.room c lt);
  early = omega (arith, had.early);
  end = had.end;
}

-- what holds of one channel of the table
pub record Channel (t : Tallied) (now : ℕ) (left all : List Pair) (c : ℕ) : Type 0 where
  pub whole : (end : ℕ) →
      bytes_of t c + length (track_behind (last_of t c) (on_channel c (decoded now left)) end)
      ≡ length (track_behind 0 (on_channel c (decoded 0 all)) end)
  pub silent : (nat_eq (bytes_of t c) 0 && is_silent (on_channel c (decoded now left))) ≡ is_silent (on_channel c (decoded 0 all))
  pub past : last_of t c ≤ now
  pub room : bytes_of t c + 2 ^ 33 * length left ≤ 2 ^ 58

-- a channel that a message is not of
other_channel : (t u : Tallied) (now : ℕ) (e : Pair) (es all : List Pair) (m : Msg) (c : ℕ) → c < CHANNELS →
    message_from e.status e.bytes ≡ Some m → nat_eq (channel_of m) c ≡ false → c ≢ channel_of m → Enters t u (now + e.delta) m →
    Tallying t now (e ∷ es) all → Channel u (now + e.delta) es all c
other_channel t u now e es all m c lt is other differs enters had =
    let last : last_of u c ≡ last_of t c = enters.same_last c differs in
    let bytes : bytes_of u c ≡ bytes_of t c = enters.same_bytes c differs in
    let left : on_channel c (decoded now (e ∷ es)) ≡ on_channel c (decoded (now + e.delta) es) = skip_channel c now e es m is other in
    record {
      whole = λ end. rw (last, bytes, ← left) (had.whole c lt end);
      silent = rw (bytes, ← left) (had.silent c lt);
      past = omega (arith, last, had.past c lt);
      room = omega (arith, bytes, had.room c lt);
    }

-- the channel of the message
own_entry : (t u : Tallied) (now : ℕ) (e : Pair) (es all : List Pair) (m : Msg) (c : ℕ) → c < CHANNELS →
    message_from e.status e.bytes ≡ Some m → nat_eq (channel_of m) c ≡ true → channel_of m ≡ c → more_bytes t (now + e.delta) m ≤ 2 ^ 33 →
    Enters t u (now + e.delta) m → Tallying t now (e ∷ es) all → Channel u (now + e.delta) es all c
own_entry t u now e es all m c lt is own same few enters had =
    let tick : ℕ = now + e.delta in
    let rest : List (ℕ × Msg) = on_channel c (decoded tick es) in
    let piece : List ℕ = delta (tick - last_of t c) ++ message_bytes m in
    let last : last_of u c ≡ tick = ap (last_of u) (sym same) ∙ enters.last in
    let more : more_bytes t tick m ≡ length piece = ap (λ k. length (delta (tick - last_of t k) ++ message_bytes m)) same in
    let bytes : bytes_of u c ≡ bytes_of t c + length piece =
    ap (bytes_of u) (sym same) ∙ enters.bytes ∙ ap (λ k. bytes_of t k + more_bytes t tick m) same
    ∙ ap (λ n. bytes_of t c + n) more in
    let left : on_channel c (decoded now (e ∷ es)) ≡ (tick, m) ∷ rest = own_channel c now e es m is own in
    let before : (end : ℕ) → bytes_of t c + length (track_behind (last_of t c) ((tick, m) ∷ rest) end)
    ≡ length (track_behind 0 (on_channel c (decoded 0 all)) end) =
    λ end. ap (λ z. bytes_of t c + length (track_behind (last_of t c) z end)) (sym left) ∙ had.whole c lt end in
    let loud : false ≡ is_silent (on_channel c (decoded 0 all)) =
    sym (by_flag (nat_eq (bytes_of t c) 0)) ∙ ap (λ z. nat_eq (bytes_of t c) 0 && is_silent z) (sym left) ∙ had.silent c lt in
    let long : nat_eq (bytes_of u c) 0 ≡ false = grind (arith, nat_tests, bytes, one-long (tick - last_of t c) m) in
    record {
      whole = λ end.
          omega (
            arith,
            before end,
            bytes,
            length-append piece (track_behind tick rest end),
            ap (λ k. length (track_behind k rest end)) last,
          );
      silent = ap (λ b. b && is_silent rest) long ∙ loud;
      past = omega (arith, last);
      room = omega (arith, bytes, more, few, had.room c lt);
    }
  where
    by_flag : (b : Bool) → (b && false) ≡ false
    by_flag true = refl
    by_flag false = refl

-- a message
pub tally_entered : (t u : Tallied) (now : ℕ) (e : Pair) (es all : List Pair) (m : Msg) → message_from e.status e.bytes ≡ Some m →
    e.delta < 2 ^ 32 → more_bytes t (now + e.delta) m ≤ 2 ^ 33 → Enters t u (now + e.delta) m → Tallying t now (e ∷ es) all →
    Tallying u (now + e.delta) es all
tally_entered t u now e es all m is small few enters had = record {
  whole = λ c lt. (each c lt).whole;
  silent = λ c lt. (each c lt).silent;
  past = λ c lt. (each c lt).past;
  room = λ c lt. (each c lt).room;
  early = omega (arith, had.early);
  end = had.end;
}
  where
    by_test : (c : ℕ) → c < CHANNELS → (b : Bool) → nat_eq (channel_of m) c ≡ b → Channel u (now + e.delta) es all c
    by_test c lt true own =
        own_entry t u now e es all m c lt is own (grind (arith, nat_tests)) few enters had
    by_test c lt false other =
        other_channel t u now e es all m c lt is other (λ same. absurd (grind (arith, nat_tests))) enters had

    each : (c : ℕ) → c < CHANNELS → Channel u (now + e.delta) es all c
    each c lt = by_test c lt (nat_eq (channel_of m) c) refl

-- no more messages than entries
decoded_few : (now : ℕ) (es : List Pair) → length (decoded now es) ≤ length es
decoded_few now [] = omega arith
decoded_few now (e ∷ es) = by_message (message_from e.status e.bytes) (decoded_few (now + e.delta) es)
  where
    by_message : (o : Option Msg) → length (decoded (now + e.delta) es) ≤ length es →
        length (and_message (now + e.delta) o (decoded (now + e.delta) es)) ≤ length (e ∷ es)
    by_message None few = omega arith
    by_message (Some m) few = omega arith

-- a channel's track has a length of four bytes
pub channel_small : (c : ℕ) (all : List Pair) → length all ≤ MAX_FILE → time_after 0 all ≤ 2 ^ 57 →
    length (track_behind 0 (on_channel c (decoded 0 all)) (time_after 0 all)) ≤ MAX_TRACK
channel_small c all few early =
    let list : List (ℕ × Msg) = decoded 0 all in
    track_small (on_channel c list) (time_after 0 all)
    (rises_filter (is_on_channel c) 0 list (time_after 0 all) (rises_decoded 0 0 all (omega arith)))
    (omega (arith, length-filter (is_on_channel c) list, count_by-le-length (is_on_channel c) list, decoded_few 0 all, few))
    early

-- behind the last entry
pub tally_done : (t : Tallied) (now : ℕ) (all : List Pair) → length all ≤ MAX_FILE → Tallying t now [] all →
    IsTally t (decoded 0 all) now
tally_done t now all few had = record {
  whole = λ c lt. had.whole c lt now;
  silent = λ c lt. sym (by_flag (nat_eq (bytes_of t c) 0)) ∙ had.silent c lt;
  past = had.past;
  small = λ c lt.
      let early : time_after 0 all ≤ 2 ^ 57 = omega (arith, had.end, had.early) in
      omega (
        arith,
        had.whole c lt now,
        channel_small c all few early,
        ap (λ n. length (track_behind 0 (on_channel c (decoded 0 all)) n)) had.end,
      );
}
  where
    by_flag : (b : Bool) → (b && true) ≡ b
    by_flag true = refl
    by_flag false = refl

-- a channel without bytes has no track
pub no_track : (t : Tallied) (list : List (ℕ × Msg)) (end c : ℕ) → c < CHANNELS → IsTally t list end → bytes_of t c ≡ 0 →
    track_of (on_channel c list) end ≡ []
no_track t list end c lt is none = by_list (on_channel c list) (ap (λ n. nat_eq n 0) (sym none) ∙ is.silent c lt)
  where
    by_list : (l : List (ℕ × Msg)) → true ≡ is_silent l → track_of l end ≡ []
    by_list [] flag = refl
    by_list (x ∷ l) flag = absurd cc

-- one with bytes has one
pub one_track : (t : Tallied) (list : List (ℕ × Msg)) (end c : ℕ) → c < CHANNELS → IsTally t list end → 0 < bytes_of t c →
    track_of (on_channel c list) end ≡ track_behind 0 (on_channel c list) end ∷ []
one_track t list end c lt is some =
    let loud : nat_eq (bytes_of t c) 0 ≡ false = grind (arith, nat_tests) in
    by_list (on_channel c list) (sym loud ∙ is.silent c lt)
  where
    by_list : (l : List (ℕ × Msg)) → false ≡ is_silent l → track_of l end ≡ track_behind 0 l end ∷ []
    by_list [] flag = absurd cc
    by_list (x ∷ l) flag = refl

-- the chunk of a channel with bytes has so many of them
pub chunk_is : (t : Tallied) (list : List (ℕ × Msg)) (end c n : ℕ) → c < CHANNELS → IsTally t list end → 0 < bytes_of t c →
    n ≡ bytes_of t c + length (end_bytes (last_of t c) end) →
    flat_map track_chunk (track_of (on_channel c list) end) ≡ track_head n ++ track_behind 0 (on_channel c list) end
chunk_is t list end c n lt is some count =
    let body : List ℕ = track_behind 0 (on_channel c list) end in
    ap (flat_map track_chunk) (one_track t list end c lt is some) ∙ append-nil (track_chunk body)
    ∙ ap (λ k. track_head k ++ body) (sym (count ∙ is.whole c lt))

pub chunk_long : (t : Tallied) (list : List (ℕ × Msg)) (end c n : ℕ) → c < CHANNELS → IsTally t list end → 0 < bytes_of t c →
    n ≡ bytes_of t c + length (end_bytes (last_of t c) end) →
    8 + n ≡ length (flat_map track_chunk (track_of (on_channel c list) end))
chunk_long t list end c n lt is some count =
    omega (
      arith,
      count,
      is.whole c lt,
      ap length (chunk_is t list end c n lt is some count),
      length-append (track_head n) (track_behind 0 (on_channel c list) end),
    )
