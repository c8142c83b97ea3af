-- The listing of a file that is written, line by line.
use Rattle.std.proofs.Common.{◌≡◌, ℕ, zero, suc, ◌+◌, ◌-◌, ◌<◌, ◌≤◌, ◌^◌, List, [], ◌∷◌, ◌++◌, length, codes, Ok, refl, sym, ◌∙◌, ap, arith, append_assoc}
use Rattle.std.proofs.lemmas.List.{append-nil}
use Rattle.std.specs.Fmt.{decimal, digits}
use Rattle.fm_msg.specs.Event.{TimedMessage}
use Rattle.fm_msg.specs.Message.{message_bytes}
use Rattle.fm_msg.specs.declared.profile.Profile.{Profile}
use Rattle.fm_smf.specs.Track.{track, filler_count, remainder, last_time, NeverFalls, TrackState, track_start, status_of, state_with, message_in}
use Rattle.fm_smf.specs.File.{file}
use Rattle.fm_smf.specs.declared.limits.TheConstants.{MAX_QUANTITY, MAX_TRACK}
use Rattle.fm_read.specs.Reading.{Pair}
use Rattle.fm_read.specs.Files.{Contents, contents}
use Rattle.fm_read.specs.Written.{filler_entries, timed, event_entries, track_entries, AreInRange, whole_of, time_after}
use Rattle.fm_read.specs.WrittenFile.{written_contents}
use Rattle.fm_read.proofs.EndsLemmas.{ok_is}
use Rattle.fm_read.proofs.FileWritten.{file_written, one_track}
use Rattle.fm_read.proofs.Messages.{fillers_last, timed_last, events_last, whole_shown}
use Rattle.fm_listing.specs.Listing.{line, track_lines, lines_from, first_line, listing}
use Rattle.fm_listing.specs.WrittenListing.{filler_lines, lines_till, event_lines, written_listing}

lines_append : (k now : ℕ) (xs ys : List Pair) → track_lines k now (xs ++ ys) ≡ track_lines k now xs ++ track_lines k (time_after now xs) ys
lines_append k now [] ys = refl
lines_append k now (x ∷ xs) ys =
    let one : List ℕ = line k (now + x.delta) (whole_of x.status x.bytes) in
    ap (λ z. one ++ z) (lines_append k (now + x.delta) xs ys)
    ∙ sym (append_assoc one (track_lines k (now + x.delta) xs) (track_lines k (time_after (now + x.delta) xs) ys))

fillers_listed : (now k : ℕ) → track_lines 0 now (filler_entries k) ≡ filler_lines now k
unfolding filler_entries
fillers_listed now zero = refl
fillers_listed now (suc k) = ap (λ z. line 0 (now + MAX_QUANTITY) (255 ∷ 1 ∷ 0 ∷ []) ++ z) (fillers_listed (now + MAX_QUANTITY) k)

timed_listed : (now ticks status : ℕ) (bytes : List ℕ) →
    track_lines 0 now (timed ticks status bytes) ≡ filler_lines now (filler_count ticks) ++ line 0 (now + ticks) (whole_of status bytes)
timed_listed now ticks status bytes =
    let at : time_after now (filler_entries (filler_count ticks)) + remainder ticks ≡ now + ticks =
    omega (arith, fillers_last now (filler_count ticks)) in
    lines_append 0 now (filler_entries (filler_count ticks)) _
    ∙ rw (fillers_listed now (filler_count ticks)) (
    ap (λ n. filler_lines now (filler_count ticks) ++ (line 0 n (whole_of status bytes) ++ [])) at
    ∙ ap (λ z. filler_lines now (filler_count ticks) ++ z) (append-nil (line 0 (now + ticks) (whole_of status bytes)))
    )

events_listed : (s : TrackState) (events : List TimedMessage) → AreInRange events → NeverFalls s.last events →
    track_lines 0 s.last (event_entries s events) ≡ event_lines s.last events
events_listed s [] fits rise = refl
events_listed s (e ∷ events) fits rise =
    let at : s.last + (e.time - s.last) ≡ e.time = omega (arith, rise.0) in
    let bytes : List ℕ = message_in s (e.time - s.last) e.msg in
    let next : List Pair = event_entries (state_with s e) events in
    let before : List ℕ = filler_lines s.last (filler_count (e.time - s.last)) in
    lines_append 0 s.last (timed (e.time - s.last) (status_of e.msg) bytes) next
    ∙ ap (λ z. z ++ track_lines 0 (time_after s.last (timed (e.time - s.last) (status_of e.msg) bytes)) next)
    (timed_listed s.last (e.time - s.last) (status_of e.msg) bytes)
    ∙ ap (λ n. (before ++ line 0 (s.last + (e.time - s.last)) (whole_of (status_of e.msg) bytes)) ++ track_lines 0 n next)
    (timed_last s.last (e.time - s.last) _ _ ∙ at)
    ∙ ap (λ n. (before ++ line 0 n (whole_of (status_of e.msg) bytes)) ++ track_lines 0 e.time next) at
    ∙ ap (λ z. (before ++ line 0 e.time z) ++ track_lines 0 e.time next) (whole_shown _ e.msg fits.0)
    ∙ ap (λ z. lines_till s.last e.time (message_bytes e.msg) ++ z) (events_listed (state_with s e) events fits.1 rise.1)

track_listed : (profile : Profile) (events : List TimedMessage) (end : ℕ) → AreInRange events → NeverFalls 0 events →
    last_time 0 events ≤ end → track_lines 0 0 (track_entries profile events end)
    ≡ line 0 0 (255 ∷ 81 ∷ 3 ∷ 7 ∷ 161 ∷ 32 ∷ [])
    ++ (event_lines 0 events ++ lines_till (last_time 0 events) end (255 ∷ 47 ∷ 0 ∷ []))
track_listed profile events end fits rise later =
    let last : ℕ = last_time 0 events in
    let before : List ℕ = filler_lines last (filler_count (end - last)) in
    let tail : List Pair = timed (end - last) 255 (255 ∷ 47 ∷ 0 ∷ []) in
    let at : last + (end - last) ≡ end = omega (arith, later) in
    ap (λ z. line 0 0 (255 ∷ 81 ∷ 3 ∷ 7 ∷ 161 ∷ 32 ∷ []) ++ z) (
    lines_append 0 0 (event_entries (track_start profile) events) tail
    ∙ ap (λ z. z ++ track_lines 0 (time_after 0 (event_entries (track_start profile) events)) tail)
    (events_listed (track_start profile) events fits rise)
    ∙ ap (λ n. event_lines 0 events ++ track_lines 0 n tail) (events_last (track_start profile) events rise)
    ∙ ap (λ z. event_lines 0 events ++ z) (timed_listed last (end - last) 255 (255 ∷ 47 ∷ 0 ∷ []))
    ∙ ap (λ n. event_lines 0 events ++ (before ++ line 0 n (255 ∷ 47 ∷ 0 ∷ []))) at
    )

first_written : (division : ℕ) → first_line 0 1 division ≡ codes "format 0 tracks 1 division " ++ (decimal division ++ 10 ∷ [])
unfolding first_line digits
first_written division = refl

contents_listed : (profile : Profile) (events : List TimedMessage) (end : ℕ) → AreInRange events → NeverFalls 0 events →
    last_time 0 events ≤ end → listing (written_contents profile events end) ≡ written_listing profile.division events end
contents_listed profile events end fits rise later =
    ap (λ ts. first_line 0 (length ts) profile.division ++ lines_from 0 ts) (one_track profile events end fits)
    ∙ ap (λ z. first_line 0 1 profile.division ++ z) (append-nil (track_lines 0 0 (track_entries profile events end)))
    ∙ ap (λ z. first_line 0 1 profile.division ++ z) (track_listed profile events end fits rise later)
    ∙ ap (λ z. z ++ (line 0 0 (255 ∷ 81 ∷ 3 ∷ 7 ∷ 161 ∷ 32 ∷ [])
    ++ (event_lines 0 events ++ lines_till (last_time 0 events) end (255 ∷ 47 ∷ 0 ∷ [])))) (first_written profile.division)

-- the listing of what a written file is read as
pub written_listed : (profile : Profile) (events : List TimedMessage) (end : ℕ) (c : Contents) → AreInRange events → NeverFalls 0 events →
    last_time 0 events ≤ end → profile.division < 2 ^ 15 → length (track profile events end) ≤ MAX_TRACK →
    contents (file profile events end) ≡ Ok c → listing c ≡ written_listing profile.division events end
written_listed profile events end c fits rise later small short is =
    let same : written_contents profile events end ≡ c =
    ok_is (written_contents profile events end) c (sym (file_written profile events end fits small short) ∙ is) in
    ap listing (sym same) ∙ contents_listed profile events end fits rise later
