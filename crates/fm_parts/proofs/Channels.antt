-- The messages of one channel along a track, and the tracks of the channels one after another.
use Rattle.std.proofs.Common.{◌≡◌, ℕ, zero, suc, ◌+◌, true, false, cond, nat_eq, List, [], ◌∷◌, ◌++◌, length, None, Some, refl, sym, ◌∙◌, ap, arith, add-one, append_assoc}
use Rattle.std.specs.List.{flat_map}
use Rattle.std.proofs.lemmas.List.{append-nil}
use Rattle.std.proofs.lemmas.Grind.{flat_map-append}
use Rattle.fm_msg.specs.declared.msg.Msg.{Msg}
use Rattle.fm_read.specs.Reading.{Pair}
use Rattle.fm_read.specs.Decoded.{decoded, message_from, and_message}
use Rattle.fm_parts.specs.Format1.{channel_of, on_channel, track_of, numbers, channel_tracks, track_chunk, is_silent}

-- an entry that is no message
pub skip_other : (now : ℕ) (e : Pair) (es : List Pair) → message_from e.status e.bytes ≡ None →
    decoded now (e ∷ es) ≡ decoded (now + e.delta) es
skip_other now e es is = ap (λ o. and_message (now + e.delta) o (decoded (now + e.delta) es)) is

-- a message
pub more_decoded : (now : ℕ) (e : Pair) (es : List Pair) (m : Msg) → message_from e.status e.bytes ≡ Some m →
    decoded now (e ∷ es) ≡ (now + e.delta, m) ∷ decoded (now + e.delta) es
more_decoded now e es m is = ap (λ o. and_message (now + e.delta) o (decoded (now + e.delta) es)) is

-- a message of another channel
pub skip_channel : (c now : ℕ) (e : Pair) (es : List Pair) (m : Msg) → message_from e.status e.bytes ≡ Some m →
    nat_eq (channel_of m) c ≡ false → on_channel c (decoded now (e ∷ es)) ≡ on_channel c (decoded (now + e.delta) es)
skip_channel c now e es m is other =
    ap (on_channel c) (more_decoded now e es m is)
    ∙ ap (λ b. cond b ((now + e.delta, m) ∷ on_channel c (decoded (now + e.delta) es)) (on_channel c (decoded (now + e.delta) es))) other

-- a message of this channel
pub own_channel : (c now : ℕ) (e : Pair) (es : List Pair) (m : Msg) → message_from e.status e.bytes ≡ Some m →
    nat_eq (channel_of m) c ≡ true →
    on_channel c (decoded now (e ∷ es)) ≡ (now + e.delta, m) ∷ on_channel c (decoded (now + e.delta) es)
own_channel c now e es m is own =
    ap (on_channel c) (more_decoded now e es m is)
    ∙ ap (λ b. cond b ((now + e.delta, m) ∷ on_channel c (decoded (now + e.delta) es)) (on_channel c (decoded (now + e.delta) es))) own

-- ---- one channel after another

-- no channel
pub tracks_none : (list : List (ℕ × Msg)) (end : ℕ) → channel_tracks 0 list end ≡ []
unfolding channel_tracks numbers
tracks_none list end = refl

-- one channel more
pub tracks_more : (k : ℕ) (list : List (ℕ × Msg)) (end : ℕ) →
    channel_tracks (k + 1) list end ≡ channel_tracks k list end ++ track_of (on_channel k list) end
unfolding channel_tracks numbers
tracks_more k list end =
    rw add-one (flat_map-append (λ c. track_of (on_channel c list) end) (numbers k) (k ∷ [])
    ∙ ap (λ z. channel_tracks k list end ++ z) (append-nil (track_of (on_channel k list) end)))

-- the chunks of one channel more
pub chunks_more : (k : ℕ) (list : List (ℕ × Msg)) (end : ℕ) →
    flat_map track_chunk (channel_tracks (k + 1) list end)
    ≡ flat_map track_chunk (channel_tracks k list end) ++ flat_map track_chunk (track_of (on_channel k list) end)
chunks_more k list end =
    ap (flat_map track_chunk) (tracks_more k list end)
    ∙ flat_map-append track_chunk (channel_tracks k list end) (track_of (on_channel k list) end)

-- those of the channels that are left
pub record Left (k n : ℕ) (list : List (ℕ × Msg)) (end : ℕ) : Type 0 where
  pub more : List ℕ
  pub all : flat_map track_chunk (channel_tracks k list end) ++ more ≡ flat_map track_chunk (channel_tracks n list end)

pub chunks_left : (k j : ℕ) (list : List (ℕ × Msg)) (end : ℕ) → Left k (k + j) list end
chunks_left k zero list end = record {
  more = [];
  all = append-nil _ ∙ ap (λ n. flat_map track_chunk (channel_tracks n list end)) {x = k} {y = k + 0} (omega arith);
}
chunks_left k (suc j) list end =
    let before : Left k (k + j) list end = chunks_left k j list end in
    let last : List ℕ = flat_map track_chunk (track_of (on_channel (k + j) list) end) in record {
      more = before.more ++ last;
      all =
          sym (append_assoc _ before.more last) ∙ ap (λ z. z ++ last) before.all ∙ sym (chunks_more (k + j) list end)
          ∙ ap (λ n. flat_map track_chunk (channel_tracks n list end)) {x = (k + j) + 1} {y = k + suc j} (omega arith);
    }

-- how many tracks a list makes
pub count_track : (list : List (ℕ × Msg)) (end : ℕ) → length (track_of list end) ≡ cond (is_silent list) 0 1
count_track [] end = refl
count_track (x ∷ list) end = refl
