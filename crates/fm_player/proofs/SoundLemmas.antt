-- The events that a note still gives.
use Rattle.std.proofs.Common.{◌≡◌, refl, sym, ◌∙◌, ap, arith, ℕ, zero, suc, ◌+◌, ◌-◌, ◌*◌, ◌<◌, ◌≤◌, List, [], ◌∷◌, length, map, drop, Bool, true, false, ◌&&◌, nat_le, nat_lt, if◌then◌else◌, slice_index_or, slice_index, length-append, drop-cons}
use Rattle.std.proofs.lemmas.Bool.{leb-false, lt-ltb}
use Rattle.std.proofs.lemmas.List.{length-map, get_or-map}
use Rattle.std.proofs.Math.ListN.{get_or-append, drop_of_length-le}
use Rattle.std.proofs.Math.Seq.{get_or-append_right}
use Rattle.fm_msg.specs.declared.msg.Msg.{Msg}
use Rattle.fm_msg.specs.declared.msg.Msg.TheVariants.{On, Off}
use Rattle.fm_msg.specs.Event.{TimedMessage}
use Rattle.fm_line.specs.Sounds.{is_note_off}
use Rattle.fm_player.specs.declared.pending.Pending.{Pending}
use Rattle.fm_player.specs.Sounding.{events_at, note_events, pending_events, next_msg, next_time, is_at_off, StartsAt}
use Rattle.fm_player.proofs.FrameLemmas.{false_true}
use Rattle.fm_player.proofs.StockLemmas.{below_of, past_of}

-- an event that stands for none
no_event : TimedMessage
no_event = record { time = 0; process = 0; index = 0; msg = Off 0 0 }

-- as many events as messages
pub events_at-length : (j i x : ℕ) (ms : List Msg) → length (events_at j i x ms) ≡ length ms
events_at-length j i x [] = refl
events_at-length j i x (m ∷ ms) = ap suc (events_at-length j (i + 1) x ms)

-- the k-th of them
pub events_at-get : (j i x : ℕ) (ms : List Msg) (k : ℕ) (e : TimedMessage) (m : Msg) → k < length ms
    → slice_index_or (events_at j i x ms) k e ≡ record { time = x; process = j; index = i + k; msg = slice_index_or ms k m }
events_at-get j i x [] k e m below = absurd (omega arith)
events_at-get j i x (y ∷ ys) zero e m below =
    ap (λ (n : ℕ). let at : TimedMessage = record { time = x; process = j; index = n; msg = y } in at)
    (let is : i ≡ i + 0 = omega arith in is)
events_at-get j i x (y ∷ ys) (suc k) e m below =
    events_at-get j (i + 1) x ys k e m (omega arith)
    ∙ ap (λ (n : ℕ). let at : TimedMessage = record { time = x; process = j; index = n; msg = slice_index_or ys k m } in at)
    (let is : i + 1 + k ≡ i + suc k = omega arith in is)

-- the note-ons
abbrev pub ons_of : ℕ → Pending → List TimedMessage
ons_of j n = events_at j n.first n.onset (map (λ key. On n.channel key n.velocity) n.keys.items)

-- the note-offs
abbrev pub offs_of : ℕ → Pending → List TimedMessage
offs_of j n = events_at j (n.first + length n.keys.items) n.ending (map (Off n.channel) n.keys.items)

ons-length : (j : ℕ) (n : Pending) → length (ons_of j n) ≡ length n.keys.items
ons-length j n = events_at-length j n.first n.onset _ ∙ length-map n.keys.items (λ key. On n.channel key n.velocity)

offs-length : (j : ℕ) (n : Pending) → length (offs_of j n) ≡ length n.keys.items
offs-length j n = events_at-length j (n.first + length n.keys.items) n.ending _ ∙ length-map n.keys.items (Off n.channel)

-- all events of a note
pub note_events-length : (j : ℕ) (n : Pending) → length (note_events j n) ≡ 2 * length n.keys.items
note_events-length j n = length-append (ons_of j n) (offs_of j n) ∙ counted _ _ _ (ons-length j n) (offs-length j n)
  where
    counted : (a b c : ℕ) → a ≡ c → b ≡ c → a + b ≡ 2 * c
    counted a b c ac bc = omega arith

-- nothing is left once all were given
pub pending-none : (j : ℕ) (n : Pending) → 2 * length n.keys.items ≤ n.given → pending_events j n ≡ []
pending-none j n past = drop_of_length-le (note_events j n) (omega (arith, note_events-length j n))

-- the k-th event of a note
pub note_events-get : (j : ℕ) (n : Pending) (e : TimedMessage) → n.given < 2 * length n.keys.items
    → slice_index_or (note_events j n) n.given e
    ≡ record { time = next_time n; process = j; index = n.first + n.given; msg = next_msg n }
note_events-get j n e more = at (nat_lt n.given (length n.keys.items)) refl
  where
    at : (b : Bool) → nat_lt n.given (length n.keys.items) ≡ b
        → slice_index_or (note_events j n) n.given e
        ≡ record {
          time = (if b then n.onset else n.ending);
          process = j;
          index = n.first + n.given;
          msg = (if b
              then On n.channel (slice_index n.keys.items n.given) n.velocity
              else Off n.channel (slice_index n.keys.items (n.given - length n.keys.items)));
        }
    at true is =
        let below = below_of n.given (length n.keys.items) is in
        get_or-append (ons_of j n) (offs_of j n) e n.given (omega (arith, ons-length j n))
        ∙ events_at-get j n.first n.onset _ n.given e (On n.channel 0 n.velocity)
        (omega (arith, length-map n.keys.items (λ key. On n.channel key n.velocity)))
        ∙ ap (λ (m : Msg). let at : TimedMessage = record { time = n.onset; process = j; index = n.first + n.given; msg = m } in at)
        (get_or-map (λ key. On n.channel key n.velocity) n.keys.items n.given 0 _ below)
    at false is =
        let past : length n.keys.items ≤ n.given = past_of n.given (length n.keys.items) is in
        get_or-append_right (ons_of j n) (offs_of j n) n.given e (omega (arith, ons-length j n))
        ∙ ap (λ (k : ℕ). slice_index_or (offs_of j n) (n.given - k) e) (ons-length j n)
        ∙ events_at-get j (n.first + length n.keys.items) n.ending _ (n.given - length n.keys.items) e (Off n.channel 0)
        (omega (arith, length-map n.keys.items (Off n.channel)))
        ∙ ap (λ (k : ℕ). let at : TimedMessage =
        record {
          time = n.ending;
          process = j;
          index = k;
          msg = slice_index_or (map (Off n.channel) n.keys.items) (n.given - length n.keys.items) (Off n.channel 0);
        } in at)
        (let index : n.first + length n.keys.items + (n.given - length n.keys.items) ≡ n.first + n.given = omega arith in index)
        ∙ ap (λ (m : Msg). let at : TimedMessage = record { time = n.ending; process = j; index = n.first + n.given; msg = m } in at)
        (get_or-map (Off n.channel) n.keys.items (n.given - length n.keys.items) 0 _ (omega arith))

-- an event of equal parts
pub next_is : (t t' j i i' : ℕ) (m m' : Msg) → t ≡ t' → i ≡ i' → m ≡ m'
    → (let a : TimedMessage = record { time = t; process = j; index = i; msg = m } in a)
    ≡ record { time = t'; process = j; index = i'; msg = m' }
next_is t t' j i i' m m' et ei em =
    ap (λ (x : ℕ). let a : TimedMessage = record { time = x; process = j; index = i; msg = m } in a) et
    ∙ ap (λ (x : ℕ). let a : TimedMessage = record { time = t'; process = j; index = x; msg = m } in a) ei
    ∙ ap (λ (x : Msg). let a : TimedMessage = record { time = t'; process = j; index = i'; msg = x } in a) em

-- the next one of those that are left
pub pending-next : (j : ℕ) (n : Pending) → n.given < 2 * length n.keys.items
    → pending_events j n
    ≡ record { time = next_time n; process = j; index = n.first + n.given; msg = next_msg n }
    ∷ pending_events j (record n { given = n.given + 1 })
pending-next j n more =
    drop-cons (note_events j n) n.given no_event (omega (arith, note_events-length j n))
    ∙ ap (λ (e : TimedMessage). e ∷ drop (suc n.given) (note_events j n)) (note_events-get j n no_event more)
    ∙ ap (λ (k : ℕ). record { time = next_time n; process = j; index = n.first + n.given; msg = next_msg n } ∷ drop k (note_events j n))
    (let one : suc n.given ≡ n.given + 1 = omega arith in one)

-- its time
pub starts : (j : ℕ) (n : Pending) (t : ℕ) → n.given < 2 * length n.keys.items → t ≡ next_time n → StartsAt t (pending_events j n)
starts j n t more is = record { first = _; others = _; is = pending-next j n more; at = sym is }

-- ---- note-ons and note-offs

-- where a note-on is left, one is next
pub on_next : (n : Pending) → n.given < length n.keys.items → next_msg n ≡ On n.channel (slice_index n.keys.items n.given) n.velocity
on_next n below = rw (lt-ltb n.given (length n.keys.items) below) refl

-- where an event is left and no note-off is next, a note-on is left
pub not_at_off : (n : Pending) → is_at_off n ≡ false → n.given < 2 * length n.keys.items → n.given < length n.keys.items
not_at_off n free more = at (nat_le (length n.keys.items) n.given) refl
  where
    at : (b : Bool) → nat_le (length n.keys.items) n.given ≡ b → n.given < length n.keys.items
    at true is = absurd (false_true (sym free
        ∙ (let both_hold : (nat_le (length n.keys.items) n.given && nat_lt n.given (2 * length n.keys.items)) ≡ true =
        rw (is, lt-ltb n.given (2 * length n.keys.items) more) refl in both_hold)))
    at false is = let h = leb-false _ _ is in omega arith

-- and it is the next event
pub starts-on : (j : ℕ) (n : Pending) (t : ℕ) (starts : StartsAt t (pending_events j n)) → n.given < 2 * length n.keys.items
    → is_at_off n ≡ false → is_note_off starts.first.msg ≡ false
starts-on j n t starts more free =
    ap (λ (e : TimedMessage). is_note_off e.msg) (heads _ _ _ _ (sym starts.is ∙ pending-next j n more))
    ∙ ap is_note_off (on_next n (not_at_off n free more))
  where
    heads : (x y : TimedMessage) (xs ys : List TimedMessage) → x ∷ xs ≡ y ∷ ys → x ≡ y
    heads x y xs ys same = cc
