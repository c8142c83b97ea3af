-- What a score plays if each process has its events in the order of its marks, and the end of a note lies where the
-- note-off map puts it, however late it is. For scores whose notes end with their durations that is what is played.
use Rattle.std.specs.Prelude.{ℕ, true, false, ◌+◌, max, List, [], ◌∷◌, ◌++◌, map, pos, int_lt}
use Rattle.fm_warp.specs.declared.side.Side.TheVariants.{Onset, Ending}
use Rattle.fm_warp.specs.Deformation.{at, placed}
use Rattle.fm_line.specs.declared.line.Line.{Line}
use Rattle.fm_line.specs.Marks.{Mark, mapped, events_in_turn, process_end}
use Rattle.fm_meaning.specs.Resolved.{Play, choice, loop, phrase, par, warp, channel, steady, under, Passage, done, item, Fork, joined, branch, Resolved}
use Rattle.fm_meaning.specs.State.{looped, listed, Around, Now, started, evaluated, count_drawn}
use Rattle.fm_meaning.specs.Played.{Made, made, and_then, in_block, mark_of_end, rounds, Forked, plays}

-- ---- lines

-- the line of the process j, its events in the order of its marks
abbrev pub line_in_turn : ℕ → List ℕ → List Mark → Line
line_in_turn j predecessors ms =
    record { events = events_in_turn j ms; predecessors = predecessors; end = process_end j ms }

-- such lines of the processes from j on, whose predecessors are given
abbrev pub lines_in_turn : ℕ → List (List ℕ) → List Mark → List Line
lines_in_turn j [] ms = []
lines_in_turn j (ps ∷ more) ms = line_in_turn j ps ms ∷ lines_in_turn (j + 1) more ms

-- ---- marks

-- a branch with what it plays, and the branches behind it
abbrev pub with_branch : Made → Forked → Forked
with_branch m more = record {
  marks = m.marks ++ mark_of_end m.after ∷ more.marks;
  lasts = m.after.process ∷ more.lasts;
  end = max m.after.position more.end;
  births = more.births;
}

abbrev mutual
  -- a statement, as it plays but for the ends of notes in a deformation
  pub plays_by_till : Play → Around → Now → Made
  plays_by_till (choice expr first second) a n =
      let v = evaluated expr n in
      elim (int_lt (pos 0) v.value) [
        | true ↦ passage_by_till first a v.after
        | false ↦ passage_by_till second a v.after
      ]
  plays_by_till (loop count body) a n =
      let c = count_drawn count n in rounds (λ i. in_block (looped i) (passage_by_till body a)) c.value 0 c.after
  plays_by_till (phrase body) a n = passage_by_till body a n
  plays_by_till (par branches) a n =
      let f = forks_by_till branches a n n.births in
      made (mark_of_end n ∷ f.marks) (started a f.lasts f.end n.blocks f.births)
  plays_by_till (warp parts body) a n =
      let m = passage_by_till body a (record n { position = 0 }) in
      made (map (mapped (placed Onset n.position parts) (placed Ending n.position parts)) m.marks)
      (record m.after { position = n.position + at parts m.after.position })
  plays_by_till (channel number body) a n = passage_by_till body (record a { channel = number }) n
  plays_by_till (steady quality entry body) a n =
      in_block (listed quality (entry ∷ []) 0) (passage_by_till body a) n
  plays_by_till (under quality entries body) a n = in_block (listed quality entries 0) (passage_by_till body a) n
  plays_by_till play a n = plays play a n

  -- statements in turn
  pub passage_by_till : Passage → Around → Now → Made
  passage_by_till done a n = made [] n
  passage_by_till (item spot play more) a n = and_then (plays_by_till play a n) (passage_by_till more a)

  -- branches in turn
  pub forks_by_till : Fork → Around → (forked : Now) → (births : List (List ℕ)) → Forked
  forks_by_till joined a n births = record { marks = []; lasts = []; end = 0; births = births }
  forks_by_till (branch body branches) a n births =
      let m = passage_by_till body a (started a (n.process ∷ []) n.position n.blocks births) in
      with_branch m (forks_by_till branches a n m.after.births)

-- a score, to the end of its last process
abbrev pub score_by_till : Resolved → Made
score_by_till r =
    let a : Around = record { seed = r.seed; channel = 0 } in
    let m = passage_by_till r.passage a (started a [] 0 [] []) in
    made (m.marks ++ mark_of_end m.after ∷ []) m.after

-- its lines, the events of each in the order of its marks
abbrev pub played_in_turn : Resolved → List Line
played_in_turn r = let m = score_by_till r in lines_in_turn 0 m.after.births m.marks
