-- What a strand has to give is in time, and at its end it has given all.
use Rattle.std.proofs.Common.{◌≡◌, refl, ◌∙◌, ap, ap₂, subst, arith, ℕ, ◌+◌, ◌≤◌, List, [], ◌∷◌, length, map, All}
use Rattle.std.proofs.lemmas.List.Elements.{All-cons, All-nil}
use Rattle.fm_msg.specs.Event.{TimedMessage}
use Rattle.fm_line.specs.Line.{line}
use Rattle.fm_line.specs.Runs.{BeginsFrom, RunsFrom}
use Rattle.fm_line.specs.Sounds.{Sound, clock_with, come_out_after, numbered}
use Rattle.fm_line.proofs.OutEager.{clock_below, clock-bounds}
use Rattle.fm_program.specs.Parts.{PlanParts}
use Rattle.fm_program.specs.Process.{plan_lines}
use Rattle.fm_player.specs.Ahead.{event_sound, sounds}
use Rattle.fm_player.specs.Player as player
use Rattle.fm_player.proofs.AheadLemmas.{sounds-begin}
use Rattle.fm_player.proofs.WholeLemmas as inner
use Rattle.fm_strand.specs.declared.strand.Strand.{Strand}
use Rattle.fm_strand.specs.Course.{end_place}
use Rattle.fm_strand.specs.Strand.{InCourse, clock_of, place_reached, rest, steps_left}
use Rattle.fm_strand.proofs.FollowLemmas.{end_of}

none_there : (ws : List Sound) → length ws ≡ 0 → ws ≡ []
none_there [] none = refl
none_there (w ∷ ws) none = absurd (omega arith)

-- at the end all was given, and clock and place are those of the process's end
pub at-end : (p : PlanParts) (s : Strand) → InCourse p s → steps_left p s ≡ 0
    → (rest p s ≡ []) × (clock_of p s ≡ (line (plan_lines p) s.process).end) × (place_reached p s ≡ end_place p s.process)
unfolding steps_left rest clock_of place_reached
at-end p s course none =
    let done = inner.at-end p s.player course.course (omega arith) in
    let empty : s.waiting ≡ [] = none_there s.waiting (omega arith) in (
      ap₂ (λ (ws xs : List Sound). numbered s.process s.given (come_out_after ws xs (end_of p s))) empty (ap (map event_sound) done.0),
      ap (λ (ws : List Sound). clock_with (player.clock_of p s.player) ws) empty
          ∙ done.1 ∙ ap (λ (j : ℕ). (line (plan_lines p) j).end) course.same,
      done.2 ∙ ap (end_place p) course.same,
    )

pub end-late : (p : PlanParts) (s : Strand) → InCourse p s → clock_of p s ≤ (line (plan_lines p) s.process).end
unfolding clock_of
end-late p s course =
    let below = clock_below (player.clock_of p s.player) s.waiting in
    let late = inner.end-late p s.player course.course in
    let same = ap (λ (j : ℕ). (line (plan_lines p) j).end) course.same in
    omega arith

runs-all : (t low e j i : ℕ) (xs : List Sound) → t ≤ low → RunsFrom low e xs → All (λ (x : TimedMessage). t ≤ x.time) (numbered j i xs)
runs-all t low e j i [] below runs = All-nil (λ (x : TimedMessage). t ≤ x.time)
runs-all t low e j i (x ∷ xs) below runs =
    All-cons (λ (y : TimedMessage). t ≤ y.time) _ (numbered j (i + 1) xs) (let first = runs.0 in omega arith)
    (runs-all t x.time e j (i + 1) xs (let first = runs.0 in omega arith) runs.1)

pub rest-late : (p : PlanParts) (s : Strand) → InCourse p s → All (λ e. clock_of p s ≤ e.time) (rest p s)
unfolding clock_of rest
rest-late p s course =
    runs-all _ _ (end_of p s) s.process s.given _ (omega arith)
    (clock-bounds (player.clock_of p s.player) (end_of p s) s.waiting (sounds p s.player)
    (subst (λ (j : ℕ). BeginsFrom (player.clock_of p s.player) (line (plan_lines p) j).end (sounds p s.player)) course.same
    (sounds-begin p s.player course.course)))
