-- Worked plans: long loops, few events, and plans of which no estimate is made.
use Rattle.std.proofs.Common.{◌≡◌, ℕ, ◌+◌, ◌*◌, List, [], ◌∷◌, ◌++◌, replicate, pos, refl}
use Rattle.fm_program.specs.declared.op.Count.TheVariants as count
use Rattle.fm_program.specs.declared.op.Draw.TheVariants as draw
use Rattle.fm_program.specs.declared.op.Op.{Op}
use Rattle.fm_program.specs.declared.op.Op.TheVariants as op
use Rattle.fm_program.specs.declared.op.Point.TheVariants as point
use Rattle.fm_program.specs.Parts.{PlanParts}
use Rattle.fm_program.proofs.Rows.{first_program, one_program, note_plan, quarter_note, quarter_rest}
use Rattle.fm_effort.specs.Effort.{largest, counted, all_effort, are_few, is_estimated, workers_of}

-- a plan of one program: operations, and a loop of 40,000 rounds whose first operation has this index
abbrev pub long_plan : (before : List Op) → (first past : ℕ) → (body : List Op) → PlanParts
long_plan before first past body =
    one_program (before ++ op.Loop (count.Fixed 40000) 0 past ∷ body ++ op.Again first ∷ [])

-- ---- how long an event takes

-- plain notes: 60 nanoseconds, so no worker is worth its cost
plain_notes : workers_of (long_plan [] 1 3 (quarter_note ∷ [])) 32 4 ≡ 0
unfolding workers_of are_few is_estimated counted
plain_notes = refl

-- the operation that closes the loop is run as often as the note
plain_effort : all_effort (long_plan [] 1 3 (quarter_note ∷ [])).programs
    ≡ record { work = 20 + 40000 * (100 + 20); events = 80000 }
plain_effort = refl

-- in eight levels: 180
in_levels : workers_of (long_plan (replicate 8 (op.Enter 0)) 9 11 (quarter_note ∷ [])) 32 4 ≡ 1
unfolding workers_of are_few is_estimated counted
in_levels = refl

-- twenty settings of a register in a loop inside the loop: 1470
in_loops : workers_of (long_plan [] 1 6 (op.Loop (count.Fixed 20) 0 4 ∷ op.Set 0 0 0 ∷ op.Again 2 ∷ quarter_note ∷ [])) 32 8
    ≡ 5
unfolding workers_of are_few is_estimated counted
in_loops = refl

-- and never more than there may be
most_of_them : workers_of (long_plan [] 1 6 (op.Loop (count.Fixed 20) 0 4 ∷ op.Set 0 0 0 ∷ op.Again 2 ∷ quarter_note ∷ [])) 32 4
    ≡ 4
unfolding workers_of are_few is_estimated counted
most_of_them = refl

-- in 17 loops, one more than a score may open: as often as can be, whatever their rounds
too_deep : (all_effort (one_program (replicate 17 (op.Loop (count.Fixed 1) 0 18) ++ quarter_note ∷ [])).programs).events
    ≡ largest * 2
too_deep = refl

-- ---- few events

-- a note, which is two events
few : workers_of note_plan 32 4 ≡ 0
unfolding workers_of are_few
few = refl

-- three events
three : workers_of (one_program (quarter_note ∷ op.Send point.Program 0 (draw.Fixed (pos 5)) 0 ∷ [])) 32 4 ≡ 0
unfolding workers_of are_few
three = refl

-- four are not few
four : workers_of (one_program (quarter_note ∷ quarter_note ∷ [])) 32 4 ≡ 4
unfolding workers_of are_few is_estimated
four = refl

-- a note and 494 rests, which take 9,980 nanoseconds
little : workers_of (one_program (quarter_note ∷ replicate 494 quarter_rest)) 32 4 ≡ 0
unfolding workers_of are_few
little = refl

-- 10,000 are not little
not_little : workers_of (one_program (quarter_note ∷ replicate 495 quarter_rest)) 32 4 ≡ 4
unfolding workers_of are_few is_estimated
not_little = refl

-- ---- no estimate

-- a test may leave out each note
tested : workers_of (long_plan [] 1 4 (op.Test 0 0 3 ∷ quarter_note ∷ [])) 32 4 ≡ 4
unfolding workers_of are_few is_estimated counted
tested = refl

-- so may a computed count
drawn_count : workers_of (long_plan [] 1 5 (op.Loop (count.Drawn 0 1) 0 4 ∷ quarter_note ∷ op.Again 2 ∷ [])) 32 4 ≡ 4
unfolding workers_of are_few is_estimated counted
drawn_count = refl

-- ---- many processes

-- 513 with a room of one event are too many
crowded : workers_of (record note_plan { programs = replicate 513 (first_program (quarter_note ∷ [])) }) 1 4 ≡ 0
unfolding workers_of are_few is_estimated counted
crowded = refl

-- 512 are not
not_crowded : workers_of (record note_plan { programs = replicate 512 (first_program (quarter_note ∷ [])) }) 1 4 ≡ 4
unfolding workers_of are_few is_estimated counted
not_crowded = refl
