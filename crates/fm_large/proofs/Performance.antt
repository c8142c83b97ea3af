-- What a large score plays: its processes, its events and its end.
use Rattle.std.proofs.Common.{◌≡◌, ◌∙◌, ◌+◌, ◌*◌, ◌==◌, ◌%◌, ◌<◌, ◌≤◌, ℕ, Bool, true, false, zero, suc, List, [], ◌∷◌, ◌++◌, length, length-append, refl, sym, ap, ap₂, arith, max, zero-add, add-zero, append-nil, if◌then◌else◌}
use Rattle.std.specs.Prelude.{nat_eq}
use Rattle.fm_warp.specs.Deformation as warps
use Rattle.fm_grammar.specs.Standing.{block_tree, branches_tree}
use Rattle.fm_meaning.specs.Played.{Forked, Made, fork_plays, mark_of_end, passage_plays, score_plays}
use Rattle.fm_meaning.specs.Resolve.{fork_of, passage_of, resolved}
use Rattle.fm_meaning.specs.State.{Around, Now, started}
use Rattle.fm_grammar.specs.Score.{Score}
use Rattle.fm_meaning.specs.Verdict.{Means}
use Rattle.fm_promise.specs.Gates.{gates_at_most}
use Rattle.fm_promise.specs.InTurn.{lines_in_turn, played_in_turn, score_by_till}
use Rattle.fm_gen.proofs.LengthLemmas.{large_score_short}
use Rattle.fm_gen.specs.LargeScore.{large_score, notes_of, stretch_of}
use Rattle.fm_gen.specs.declared.score.TheConstants.{MAX_NUMBER}
use Rattle.fm_large.specs.LargePerformance.{IsPerformed}
use Rattle.fm_large.proofs.Clear.{InRange, in_range, known, names_faultless, none_above, parts_a, parts_b, places_faultless}
use Rattle.fm_large.proofs.Ends.{at_a, at_b}
use Rattle.fm_value.specs.declared.node.Node.{Node}
use Rattle.fm_value.specs.declared.node.Node.TheVariants.{Add, Literal, Pick}
use Rattle.std.specs.Option.{option_to_list}
use Rattle.fm_line.specs.Marks.{Mark, events_in_turn, mark_event}
use Rattle.fm_line.specs.Line.{line, sum_below, total}
use Rattle.fm_line.specs.Piece.{piece}
use Rattle.fm_line.specs.declared.line.Line.{Line}
use Rattle.fm_meaning.specs.Bounds.{score_bounds}
use Rattle.fm_meaning.specs.Lines.{played_end, played_lines}
use Rattle.fm_large.proofs.Reading.{large_reads, large_tree}
use Rattle.fm_large.proofs.Text.{channels}
use Rattle.fm_meaning.specs.Resolved.{Passage, Resolved, done, item, loop, times, warp}
use Rattle.fm_large.proofs.Forms.{at, behind, on, branch_form, branches_form, double_form, single_form}
use Rattle.fm_large.proofs.Sounds.{Goes, channel_goes, goes_as, heard, heard_append, one_note, voice_goes, warped_goes}
use Rattle.fm_large.proofs.Totals.{IsLarge, branch_end, double_end, last_end, last_end_is, limits_faultless, processes_are, single_end}

-- ---- a branch

-- the key of each note
abbrev drawn_key : List Node
drawn_key = Literal 36 ∷ Literal 60 ∷ Pick ∷ Add ∷ []

abbrev voice : ℕ → ℕ → ℕ → Passage
voice line k notes = item (at line k) (loop (times notes) (one_note (at line (on 3 (behind (on 7 k) notes))) drawn_key)) done

single_goes : (line stretch notes number : ℕ) (a : Around) (n : Now) → IsLarge stretch notes
    → Goes n (passage_plays (passage_of (known stretch) (block_tree (single_form line notes number))) a n) (single_end stretch notes)
    (2 * notes)
single_goes line stretch notes number a n large =
    let k = behind 18 number in
    let inner : Around = record a { channel = number } in
    channel_goes (at line 10) number (item (at line (on 3 k)) (warp (parts_a stretch) (voice line (on 12 k) notes)) done) a n
    (single_end stretch notes) (2 * notes)
    (goes_as n _ (warps.at (parts_a stretch) (120 * notes)) (single_end stretch notes) (2 * notes) (2 * notes)
    (at_a stretch (120 * notes) large.slow large.fast (omega (arith, large.some))) refl
    (warped_goes (at line (on 3 k)) (parts_a stretch) (voice line (on 12 k) notes) inner n (120 * notes) (2 * notes)
    (voice_goes (at line (on 12 k)) (at line (on 3 (behind (on 19 k) notes))) drawn_key notes inner (record n { position = 0 }))))

double_goes : (line stretch notes number : ℕ) (a : Around) (n : Now) → IsLarge stretch notes
    → Goes n (passage_plays (passage_of (known stretch) (block_tree (double_form line notes number))) a n) (double_end stretch notes)
    (2 * notes)
double_goes line stretch notes number a n large =
    let k = behind 18 number in
    let inner : Around = record a { channel = number } in
    let begun : Now = record n { position = 0 } in
    let body = voice line (on 21 k) notes in
    channel_goes (at line 10) number (item (at line (on 3 k)) (warp (parts_a stretch)
    (item (at line (on 12 k)) (warp parts_b body) done)) done) a n (double_end stretch notes) (2 * notes)
    (goes_as n _ (warps.at (parts_a stretch) (warps.at parts_b (120 * notes))) (double_end stretch notes) (2 * notes) (2 * notes)
    (ap (warps.at (parts_a stretch)) (at_b (120 * notes) (omega (arith, large.some)))
    ∙ at_a stretch (120 * notes + 4080) large.slow large.fast (omega (arith, large.some)) ∙ omega (arith, large.some)) refl
    (warped_goes (at line (on 3 k)) (parts_a stretch) (item (at line (on 12 k)) (warp parts_b body) done) inner n
    (warps.at parts_b (120 * notes)) (2 * notes)
    (warped_goes (at line (on 12 k)) parts_b body inner begun (120 * notes) (2 * notes)
    (voice_goes (at line (on 21 k)) (at line (on 3 (behind (on 28 k) notes))) drawn_key notes inner begun))))

branch_goes : (line stretch notes number : ℕ) (a : Around) (n : Now) → IsLarge stretch notes
    → Goes n (passage_plays (passage_of (known stretch) (block_tree (branch_form line notes number))) a n)
    (branch_end stretch notes number) (2 * notes)
branch_goes line stretch notes number a n large = go (number % 2 == 1)
  where
    go : (b : Bool) → Goes n (passage_plays (passage_of (known stretch)
        (block_tree (if b then double_form line notes number else single_form line notes number))) a n)
        (if b then double_end stretch notes else single_end stretch notes) (2 * notes)
    go true = double_goes line stretch notes number a n large
    go false = single_goes line stretch notes number a n large

-- ---- all branches

-- the events of a process, where those of branches have the numbers from q on
abbrev pub heard_from : ℕ → ℕ → ℕ → List ℕ → ℕ
heard_from notes p q [] = 0
heard_from notes p q (number ∷ numbers) = (if nat_eq q p then 2 * notes else 0) + heard_from notes p (q + 1) numbers

record Forks (f : Forked) (stretch notes : ℕ) (births : List (List ℕ)) (numbers : List ℕ) : Type 0 where
  end : f.end ≡ last_end stretch notes numbers
  events : (p : ℕ) → heard p f.marks ≡ heard_from notes p (length births) numbers

-- a mark of an end is no event
end_unheard : (p : ℕ) (n : Now) (ms : List Mark) → heard p (mark_of_end n ∷ ms) ≡ heard p ms
end_unheard p n ms = go (nat_eq n.process p)
  where
    go : (b : Bool) → length ((if b then option_to_list (mark_event (mark_of_end n)) else []) ++ events_in_turn p ms) ≡ heard p ms
    go true = refl
    go false = refl

forks : (line stretch notes : ℕ) (numbers : List ℕ) (a : Around) (n : Now) (births : List (List ℕ)) → IsLarge stretch notes → n.position ≡ 0
    → Forks (fork_plays (fork_of (known stretch) (branches_tree (branches_form line notes numbers))) a n births)
    stretch notes births numbers
forks line stretch notes [] a n births large first = record { end = refl; events = λ p. refl }
forks line stretch notes (number ∷ numbers) a n births large first =
    let begun : Now = started a (n.process ∷ []) n.position n.blocks births in
    let one : Made = passage_plays (passage_of (known stretch) (block_tree (branch_form line notes number))) a begun in
    let goes = branch_goes line stretch notes number a begun large in
    let rest = forks (line + 1) stretch notes numbers a n one.after.births large first in
    let more : Forked = fork_plays (fork_of (known stretch) (branches_tree
    (branches_form (line + 1) notes numbers))) a n one.after.births in
    let later : length one.after.births ≡ length births + 1 = ap length goes.births ∙ length-append births ((n.process ∷ []) ∷ []) in
    record {
      end = ap₂ max (goes.position ∙ ap (λ k. k + branch_end stretch notes number) first ∙ zero-add _) rest.end;
      events = λ p. heard_append p one.marks (mark_of_end one.after ∷ more.marks)
          ∙ ap₂ (λ x y. x + y) (goes.events p) (end_unheard p one.after more.marks ∙ rest.events p
          ∙ ap (λ q. heard_from notes p q numbers) later);
    }

-- ---- the whole

-- what the score plays
abbrev large_resolved : ℕ → ℕ → ℕ → Resolved
large_resolved number stretch notes = resolved (large_tree number stretch notes)

-- its first process, and what its fork plays
abbrev outset : ℕ → Now
outset number = started (record { seed = number; channel = 0 }) [] 0 [] []

abbrev forked : ℕ → ℕ → ℕ → Forked
forked number stretch notes = fork_plays (fork_of (known stretch) (branches_tree (branches_form 6 notes (0 ∷ channels))))
    (record { seed = number; channel = 0 }) (outset number) (outset number).births

fork_facts : (number stretch notes : ℕ) → IsLarge stretch notes → Forks (forked number stretch notes) stretch notes ([] ∷ []) (0 ∷ channels)
fork_facts number stretch notes large = forks 6 stretch notes (0 ∷ channels) (record { seed = number; channel = 0 }) (outset number)
    (outset number).births large refl

-- it ends with the voices under both shapes
pub end_is : (number stretch notes : ℕ) → IsLarge stretch notes → played_end (large_resolved number stretch notes)
    ≡ double_end stretch notes
end_is number stretch notes large = (fork_facts number stretch notes large).end ∙ last_end_is stretch notes large

heard_is : (number stretch notes p : ℕ) → IsLarge stretch notes → heard p (score_plays (large_resolved number stretch notes)).marks
    ≡ heard_from notes p 1 (0 ∷ channels)
heard_is number stretch notes p large =
    let f = forked number stretch notes in
    heard_append p ((mark_of_end (outset number) ∷ f.marks) ++ []) (mark_of_end (score_plays (large_resolved number stretch notes)).after
    ∷ [])
    ∙ ap₂ (λ x y. x + y) (ap (heard p) (append-nil (mark_of_end (outset number) ∷ f.marks)) ∙ end_unheard p (outset number) f.marks
    ∙ (fork_facts number stretch notes large).events p)
    (end_unheard p (score_plays (large_resolved number stretch notes)).after []) ∙ add-zero _

all_heard : (notes : ℕ) → sum_below 18 (λ p. heard_from notes p 1 (0 ∷ channels)) ≡ 32 * notes
all_heard notes = omega arith

-- the lines of marks have the events of their processes
line_events : (j p : ℕ) (births : List (List ℕ)) (ms : List Mark) → p < length births
    → length (line (lines_in_turn j births ms) p).events ≡ heard (j + p) ms
line_events j p [] ms within = absurd (omega arith)
line_events j zero (b ∷ births) ms within = ap (λ k. heard k ms) (sym (add-zero j))
line_events j (suc p) (b ∷ births) ms within = line_events (j + 1) p births ms (omega arith) ∙ ap (λ k. heard k ms) (omega arith)

lines_counted : (j : ℕ) (births : List (List ℕ)) (ms : List Mark) → length (lines_in_turn j births ms) ≡ length births
lines_counted j [] ms = refl
lines_counted j (b ∷ births) ms = ap suc (lines_counted (j + 1) births ms)

sums_same : (n : ℕ) (f g : ℕ → ℕ) → ((p : ℕ) → p < n → f p ≡ g p) → sum_below n f ≡ sum_below n g
sums_same zero f g same = refl
sums_same (suc n) f g same = ap₂ (λ a b. a + b) (sums_same n f g (λ p lt. same p (omega arith))) (same n (omega arith))

total_is : (births : List (List ℕ)) (ms : List Mark) (notes : ℕ) → length births ≡ 18
    → ((p : ℕ) → heard p ms ≡ heard_from notes p 1 (0 ∷ channels)) → total (lines_in_turn 0 births ms) ≡ 32 * notes
total_is births ms notes count each =
    ap (λ n. sum_below n (λ p. length (line (lines_in_turn 0 births ms) p).events)) (lines_counted 0 births ms ∙ count)
    ∙ sums_same 18 (λ p. length (line (lines_in_turn 0 births ms) p).events) (λ p. heard_from notes p 1 (0 ∷ channels))
    (λ p lt. line_events 0 p births ms (omega arith) ∙ ap (λ k. heard k ms) (zero-add p) ∙ each p)
    ∙ all_heard notes

-- what is known of each accepted text
pub record Promises : Type 0 where
  pub processes : (text : List ℕ) (s : Score) → Means text s → length (played_lines (resolved s)) ≡ (score_bounds (resolved s)).processes
  pub lines : (text : List ℕ) (s : Score) → Means text s → gates_at_most 100 (resolved s) ≡ true
      → played_lines (resolved s) ≡ played_in_turn (resolved s)
  pub marks : (text : List ℕ) (s : Score) → Means text s → gates_at_most 100 (resolved s) ≡ true
      → score_plays (resolved s) ≡ score_by_till (resolved s)
  pub piece : (ls : List Line) → length (piece ls) ≡ total ls

module _ (number : ℕ) (within : number ≤ MAX_NUMBER) where
  abbrev tree : Score
  tree = large_tree number (stretch_of number) (notes_of number)

  large : IsLarge (stretch_of number) (notes_of number)
  large = record { slow = omega arith; fast = omega arith; some = omega arith; few = omega arith }

  clear : InRange (stretch_of number) (notes_of number)
  clear = in_range (stretch_of number) (notes_of number) large.slow large.fast large.few

  meant : Means (large_score number) tree
  meant = record {
    within = omega (arith, large_score_short number within);
    reads = large_reads number (omega arith);
    faultless = rw (
      names_faultless number (stretch_of number) (notes_of number) clear,
      places_faultless number (stretch_of number)
          (notes_of number),
      limits_faultless number (stretch_of number) (notes_of number) large,
    ) refl;
  }

  short : gates_at_most 100 (resolved tree) ≡ true
  short = none_above number (stretch_of number) (notes_of number)

  -- what is claimed of it
  pub performed : Promises → IsPerformed number
  performed promises =
      let lines = promises.lines (large_score number) tree meant short in
      let counted : length (played_lines (resolved tree)) ≡ 18 = promises.processes (large_score number) tree meant
      ∙ processes_are number (stretch_of number) (notes_of number) large in
      let births : length (score_by_till (resolved tree)).after.births ≡ 18 =
      sym (lines_counted 0 (score_by_till (resolved tree)).after.births (score_by_till (resolved tree)).marks) ∙ ap length (sym lines)
      ∙ counted in
      record {
        score = tree;
        means = meant;
        processes = counted;
        events = promises.piece (played_lines (resolved tree)) ∙ ap total lines
            ∙ total_is (score_by_till (resolved tree)).after.births (score_by_till (resolved tree)).marks (notes_of number) births
            (λ p. ap (λ (m : Made). heard p m.marks) (sym (promises.marks (large_score number) tree meant short))
            ∙ heard_is number (stretch_of number) (notes_of number) p large);
        last = end_is number (stretch_of number) (notes_of number) large;
      }
