-- The file of an accepted score is within the size of files that are read, and what it holds is in range and in time.
use Rattle.std.proofs.Common.{◌≡◌, ℕ, ◌-◌, ◌*◌, ◌^◌, ◌<◌, ◌≤◌, inl, inr, List, [], ◌∷◌, length, Ok, refl, arith}
use Rattle.std.proofs.Math.Nat.{mul-div-le}
use Rattle.std.specs.Prelude.{IsTrue}
use Rattle.fm_grammar.specs.Score.{Score}
use Rattle.fm_line.specs.declared.line.Line.{Line}
use Rattle.fm_line.specs.Line.{ValidLines, event, line}
use Rattle.fm_line.specs.declared.limits.TheConstants.{MAX_EVENTS}
use Rattle.fm_line.specs.Piece.{In, IsPiece, piece}
use Rattle.fm_line.proofs.Pieces.{is_piece}
use Rattle.fm_meaning.specs.Bounds.{score_bounds}
use Rattle.fm_meaning.specs.Lines.{played_lines, played_piece, played_end}
use Rattle.fm_meaning.specs.Resolve.{resolved}
use Rattle.fm_meaning.specs.Rules.{profile_of, score_rules}
use Rattle.fm_meaning.specs.Verdict.{Means}
use Rattle.fm_meaning.proofs.Versions.{division_in_range}
use Rattle.fm_msg.specs.Event.{TimedMessage}
use Rattle.fm_msg.specs.Message.{is_in_range}
use Rattle.fm_msg.specs.declared.profile.Profile.{Profile}
use Rattle.fm_promise.specs.Limits.{IsWithinLimits}
use Rattle.fm_read.specs.Files.{contents}
use Rattle.fm_read.specs.Written.{AreInRange}
use Rattle.fm_read.specs.WrittenFile.{written_contents}
use Rattle.fm_read.specs.declared.limits.TheConstants.{MAX_FILE}
use Rattle.fm_top.specs.ReadBack.{IsReadBack}
use Rattle.fm_smf.proofs.Tracks.{length-end, length-events, length-file, length-track}
use Rattle.fm_smf.specs.File.{file}
use Rattle.fm_smf.specs.Track.{NeverFalls, filler_count, last_time, track, track_start}
use Rattle.fm_smf.specs.declared.limits.TheConstants.{MAX_QUANTITY, MAX_TRACK}
use Rattle.fm_tick.specs.declared.tick.TheConstants.{MAX_TICK}

-- ---- the size

-- so many fillers are no longer than the time that they fill
fillers_within : (ticks : ℕ) → MAX_QUANTITY * filler_count ticks ≤ ticks
fillers_within ticks = omega (arith, mul-div-le (ticks - 1) MAX_QUANTITY)

-- the file of few events in little time is small
small : (profile : Profile) (es : List TimedMessage) (end : ℕ) → NeverFalls 0 es → last_time 0 es ≤ end
    → length es ≤ MAX_EVENTS → end ≤ MAX_TICK → length (file profile es end) ≤ MAX_FILE
small profile es end falls last few soon =
    omega (
      arith,
      last,
      few,
      soon,
      length-file profile es end,
      length-track profile es end,
      length-events (track_start profile) es falls,
      length-end (last_time 0 es) end,
      fillers_within (end - last_time 0 es),
    )

-- its track too
small_track : (profile : Profile) (es : List TimedMessage) (end : ℕ) → length (file profile es end) ≤ MAX_FILE
    → length (track profile es end) ≤ MAX_TRACK
small_track profile es end within = omega (arith, within, length-file profile es end)

-- ---- the messages

-- messages of which each is in range are
each_in_range : (es : List TimedMessage) → ((e : TimedMessage) → In e es → IsTrue (is_in_range e.msg)) → AreInRange es
each_in_range [] each = tt
each_in_range (e ∷ es) each = (each e (inl refl), each_in_range es (λ x i. each x (inr i)))

-- those of valid lines are
lines_in_range : (ls : List Line) → ValidLines ls
    → ((p k : ℕ) → k < length (line ls p).events → IsTrue (is_in_range (event (line ls p) k).msg)) → AreInRange (piece ls)
lines_in_range ls valid range =
    let whole : IsPiece ls (piece ls) = is_piece ls valid in
    each_in_range (piece ls) (λ e i.
    let at = whole.only e i in
    rw at.2 (range e.process e.index at.1))

-- ---- the law

-- what is known of an accepted text
pub record Known : Type 0 where
  pub valid : (text : List ℕ) (s : Score) → Means text s → ValidLines (played_lines (resolved s))
  pub in_range : (text : List ℕ) (s : Score) → Means text s → (p k : ℕ)
      → k < length (line (played_lines (resolved s)) p).events
      → IsTrue (is_in_range (event (line (played_lines (resolved s)) p) k).msg)
  pub limits : (text : List ℕ) (s : Score) → Means text s → IsWithinLimits (score_rules s) (score_bounds (resolved s))
  pub few : (text : List ℕ) (s : Score) → Means text s → length (played_piece (resolved s)) ≤ (score_bounds (resolved s)).events
  pub soon : (text : List ℕ) (s : Score) → Means text s → played_end (resolved s) ≤ (score_bounds (resolved s)).length
  pub order : (text : List ℕ) (s : Score) → Means text s → NeverFalls 0 (played_piece (resolved s))
  pub last : (text : List ℕ) (s : Score) → Means text s → last_time 0 (played_piece (resolved s)) ≤ played_end (resolved s)

-- and of a file that is written
abbrev pub ReadsBack : Type 0
ReadsBack = (profile : Profile) (events : List TimedMessage) (end : ℕ) → AreInRange events → profile.division < 2 ^ 15
    → length (track profile events end) ≤ MAX_TRACK
    → contents (file profile events end) ≡ Ok (written_contents profile events end)

-- the division of a score
division : (s : Score) → (profile_of s).division < 2 ^ 15
unfolding profile_of
division s = let within = division_in_range s in omega (arith, within.most)

pub read_back : Known → ReadsBack → (text : List ℕ) (s : Score) → Means text s → IsReadBack s
read_back known reads text s means =
    let es = played_piece (resolved s) in
    let range : AreInRange es = lines_in_range (played_lines (resolved s)) (known.valid text s means) (known.in_range text s means) in
    let limits = known.limits text s means in
    let within : length (file (profile_of s) es (played_end (resolved s))) ≤ MAX_FILE =
    small (profile_of s) es (played_end (resolved s)) (known.order text s means) (known.last text s means)
    (omega (arith, known.few text s means, limits.events)) (omega (arith, known.soon text s means, limits.length))
    in
    record {
      is_read = reads (profile_of s) es (played_end (resolved s)) range (division s)
          (small_track (profile_of s) es (played_end (resolved s)) within);
      small = within;
      division = division s;
      in_range = range;
      in_time = known.order text s means;
      later = known.last text s means;
    }
