-- The piece of valid lines can be written, part by part.
use Rattle.std.proofs.Common.{◌≡◌, ℕ, ◌+◌, ◌-◌, ◌<◌, ◌≤◌, List, [], ◌∷◌, ◌++◌, length, take, drop, get_or, refl, sym, ap, ◌∙◌, subst, inl, inr, arith, length-append, append_assoc}
use Rattle.std.specs.Prelude.{slice_index_or}
use Rattle.fm_msg.specs.Event.{TimedMessage}
use Rattle.fm_msg.specs.declared.profile.Profile.{Profile}
use Rattle.fm_line.specs.declared.line.Line.{Line}
use Rattle.fm_line.specs.Line.{event_at, line, event, ValidLines}
use Rattle.fm_line.specs.Piece.{Before, Above, Rises, piece, Each}
use Rattle.fm_line.proofs.Members.{in_each}
use Rattle.fm_line.proofs.Pieces.{is_piece, length-piece}
use Rattle.fm_smf.specs.Track.{track_start, state_with, state_after, event_bytes, events_bytes, last_time, NeverFalls, track}
use Rattle.fm_smf.specs.Writing.{Written}
use Rattle.fm_smf.specs.declared.limits.TheConstants.{BEFORE_TRACK, MAX_TIME, MAX_TRACK, START_LENGTH}
use Rattle.fm_smf.proofs.Tracks.{events_bytes-append, last_time-append, state_after-last, length-track, track_fits}
use Rattle.fm_smf.proofs.InTime.{parts_at}
use Rattle.fm_play.specs.Ends.{CanFollow, piece_end}

-- ---- lists that never fall

-- an event is no later than one that it is before
pub before_time : (x y : TimedMessage) → Before x y → x.time ≤ y.time
before_time x y (inl earlier) = omega (arith, earlier)
before_time x y (inr same) = omega (arith, same.0)

above_time : (x : TimedMessage) (xs : List TimedMessage) → Above x xs → Each (λ y. x.time ≤ y.time) xs
above_time x [] above = tt
above_time x (y ∷ xs) above = (before_time x y above.0, above_time x xs above.1)

-- a list that rises never falls
rises_falls : (last : ℕ) (xs : List TimedMessage) → Rises xs → Each (λ y. last ≤ y.time) xs → NeverFalls last xs
rises_falls last [] rises from = tt
rises_falls last (x ∷ xs) rises from = (from.0, rises_falls x.time xs rises.1 (above_time x xs rises.0))

-- the last time of a list none of which is later than t
last_to : (last t : ℕ) (xs : List TimedMessage) → last ≤ t → Each (λ y. y.time ≤ t) xs → last_time last xs ≤ t
last_to last t [] first to = first
last_to last t (x ∷ xs) first to = last_to x.time t xs to.0 to.1

-- the first of two lists never falls where both together do not
falls_left : (last : ℕ) (xs ys : List TimedMessage) → NeverFalls last (xs ++ ys) → NeverFalls last xs
falls_left last [] ys falls = tt
falls_left last (x ∷ xs) ys falls = (falls.0, falls_left x.time xs ys falls.1)

-- nor does the second, from the last time of the first on
falls_right : (last : ℕ) (xs ys : List TimedMessage) → NeverFalls last (xs ++ ys) → NeverFalls (last_time last xs) ys
falls_right last [] ys falls = falls
falls_right last (x ∷ xs) ys falls = falls_right x.time xs ys falls.1

-- no time is below the first
last_later : (last : ℕ) (xs : List TimedMessage) → NeverFalls last xs → last ≤ last_time last xs
last_later last [] falls = omega arith
last_later last (x ∷ xs) falls = let first : last ≤ x.time = falls.0 in omega (arith, last_later x.time xs falls.1)

-- ---- the piece

-- behind the last event of a list stands what it is read with
pub past_last : (es : List TimedMessage) (d : TimedMessage) → slice_index_or es (length es) d ≡ d
past_last [] d = refl
past_last (e ∷ es) d = past_last es d

-- an event of valid lines is no later than the end of its line
event_to : (ls : List Line) → ValidLines ls → (p k : ℕ) → k < length (line ls p).events
    → (event (line ls p) k).time ≤ (line ls p).end
event_to ls valid p k within =
    omega (
      arith,
      valid.rising p k (length (line ls p).events) (omega (arith, within)),
      ap (λ e. e.time) (past_last (line ls p).events (event_at (line ls p).end)),
    )

-- what is needed of a list of events and an end, so that their file can be written
pub record CanWrite (profile : Profile) (events : List TimedMessage) (tick : ℕ) : Type 0 where
  pub falls : NeverFalls 0 events
  pub last : last_time 0 events ≤ tick
  pub end : tick ≤ MAX_TIME
  pub fits : length (track profile events tick) ≤ MAX_TRACK

-- the piece of valid lines can be written
pub can_write : (profile : Profile) (ls : List Line) → ValidLines ls → CanWrite profile (piece ls) (piece_end ls)
can_write profile ls valid =
    let whole = is_piece ls valid in
    let falls : NeverFalls 0 (piece ls) =
    rises_falls 0 (piece ls) whole.rises (in_each (λ y. 0 ≤ y.time) (piece ls) (λ y i. omega arith)) in
    let last : last_time 0 (piece ls) ≤ piece_end ls =
    last_to 0 (piece_end ls) (piece ls) (omega arith)
    (in_each (λ y. y.time ≤ piece_end ls) (piece ls) (λ x i. in_time x (whole.only x i))) in
    let end : piece_end ls ≤ MAX_TIME = let to = (valid.ends (length ls - 1)).0 in omega (arith, to) in
    record {
      falls = falls;
      last = last;
      end = end;
      fits = track_fits profile (piece ls) (piece_end ls) falls last end (omega (arith, length-piece ls, valid.events));
    }
  where
    in_time : (x : TimedMessage)
        → (x.process < length ls) × (x.index < length (line ls x.process).events) × (x ≡ event (line ls x.process) x.index)
        → x.time ≤ piece_end ls
    in_time x is =
        omega (arith, ap (λ e. e.time) is.2, event_to ls valid x.process x.index is.1, (valid.ends x.process).1)

-- a part of what can be written follows what stands before it
pub can_follow : (profile : Profile) (events done more rest : List TimedMessage) (end : ℕ) (w : Written) → CanWrite profile events end
    → done ++ (more ++ rest) ≡ events → w.state ≡ state_after (track_start profile) done
    → w.put ≡ START_LENGTH + length (events_bytes (track_start profile) done) → CanFollow w more
can_follow profile events done more rest end w can parts state put =
    let last : w.state.last ≡ last_time 0 done = ap (λ s. s.last) state ∙ state_after-last (track_start profile) done in
    let all : NeverFalls 0 (done ++ (more ++ rest)) = subst (NeverFalls 0) (sym parts) can.falls in
    let behind : NeverFalls (last_time 0 done) (more ++ rest) = falls_right 0 done (more ++ rest) all in
    let here : NeverFalls w.state.last more = rw last (falls_left (last_time 0 done) more rest behind) in
    record {
      later = here;
      in_time =
          omega (
            arith,
            ap (λ l. last_time l more) last,
            ap (last_time 0) parts,
            last_time-append 0 done (more ++ rest),
            last_time-append (last_time 0 done) more rest,
            last_later (last_time (last_time 0 done) more) rest (falls_right (last_time 0 done) more rest behind),
            can.last,
            can.end,
          );
      fits =
          omega (
            arith,
            ap (λ s. length (events_bytes s more)) state,
            put,
            can.fits,
            length-track profile events end,
            ap (λ es. length (events_bytes (track_start profile) es)) parts,
            ap length (events_bytes-append (track_start profile) done (more ++ rest)),
            ap length (events_bytes-append (state_after (track_start profile) done) more rest),
            length-append (events_bytes (track_start profile) done)
                (events_bytes (state_after (track_start profile) done) (more ++ rest)),
            length-append (events_bytes (state_after (track_start profile) done) more)
                (events_bytes (state_after (state_after (track_start profile) done) more) rest),
          );
    }

-- ---- one event at a time

-- the event at an index follows those in front of it
pub record FollowsAt (w : Written) (events : List TimedMessage) (k : ℕ) (e : TimedMessage) : Type 0 where
  pub parts : (take k events ++ e ∷ []) ++ drop (k + 1) events ≡ events
  pub later : (state_after w.state (take k events)).last ≤ e.time
  pub in_time : e.time ≤ MAX_TIME
  pub fits : w.put + length (events_bytes w.state (take k events)) + length (event_bytes (state_after w.state (take k events)) e)
      ≤ BEFORE_TRACK + MAX_TRACK

pub follows_at : (w : Written) (events : List TimedMessage) (k : ℕ) (e : TimedMessage) → CanFollow w events → k < length events
    → e ≡ get_or events k e → FollowsAt w events k e
follows_at w events k e can within is =
    let parts = parts_at events k e within is in
    let split : take k events ++ (e ∷ drop (k + 1) events) ≡ events =
    sym (append_assoc (take k events) (e ∷ []) (drop (k + 1) events)) ∙ parts in
    let behind : NeverFalls (last_time w.state.last (take k events)) (e ∷ drop (k + 1) events) =
    falls_right w.state.last (take k events) (e ∷ drop (k + 1) events) (subst (NeverFalls w.state.last) (sym split) can.later) in
    record {
      parts = parts;
      later = omega (arith, behind.0, state_after-last w.state (take k events));
      in_time = omega (
        arith,
        ap (last_time w.state.last) split,
        last_time-append w.state.last (take k events) (e ∷ drop (k + 1) events),
        last_later e.time (drop (k + 1) events) behind.1,
        can.in_time,
      );
      fits = omega (
        arith,
        can.fits,
        ap (λ es. length (events_bytes w.state es)) split,
        ap length (events_bytes-append w.state (take k events) (e ∷ drop (k + 1) events)),
        length-append (events_bytes w.state (take k events))
            (events_bytes (state_after w.state (take k events)) (e ∷ drop (k + 1) events)),
        length-append (event_bytes (state_after w.state (take k events)) e)
            (events_bytes (state_with (state_after w.state (take k events)) e) (drop (k + 1) events)),
      );
    }
