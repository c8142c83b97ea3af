-- With articulations of at most 100 percent, ends of notes are put where the note-off map puts them, and come out in turn.
use Rattle.std.proofs.Common.{◌≡◌, ℕ, zero, suc, ◌+◌, ◌≤◌, Bool, true, false, List, [], ◌∷◌, ◌++◌, map, refl, sym, ap, ap₂, ◌∙◌, subst, arith, pos, true≢false}
use Rattle.std.specs.Prelude.{int_lt, min, drop, ◌&&◌, if◌then◌else◌}
use Rattle.std.specs.List.{AllByRecursion, list_all}
use Rattle.std.proofs.lemmas.Bool.{leb-true}
use Rattle.fm_tick.specs.declared.tick.TheConstants.{MAX_TICK}
use Rattle.fm_warp.specs.declared.part.Part.{Part}
use Rattle.fm_warp.specs.declared.side.Side.TheVariants.{Onset, Ending}
use Rattle.fm_warp.specs.Deformation.{at, placed, placed_end}
use Rattle.fm_line.specs.Marks.{Mark, has_ending, mapped}
use Rattle.fm_grammar.specs.Score.{Score}
use Rattle.fm_meaning.specs.Resolved.{Quality, duration, articulation, loudness, Play, note, rest, send, assign, choice, loop, phrase, par, warp, channel, steady, under, Passage, done, item, Fork, joined, branch}
use Rattle.fm_meaning.specs.Resolve.{resolved}
use Rattle.fm_meaning.specs.State.{OpenBlock, looped, listed, Around, Now, started, evaluated, count_drawn}
use Rattle.fm_meaning.specs.Played.{Made, made, and_then, in_block, mark_of_end, rounds, Forked, plays, passage_plays, fork_plays, score_plays}
use Rattle.fm_meaning.specs.Lines.{played_lines, played_end}
use Rattle.fm_meaning.specs.Bounds.{bounds_in}
use Rattle.fm_meaning.specs.Verdict.{Means}
use Rattle.fm_promise.specs.Gates.{entry_at_most, play_at_most, passage_at_most, fork_at_most, gates_at_most}
use Rattle.fm_promise.specs.Levels.{IsInTime, EachRound, LevelsOf, LevelsIn, LevelsAmong}
use Rattle.fm_promise.specs.InTurn.{with_branch, plays_by_till, passage_by_till, forks_by_till, score_by_till, lines_in_turn, played_in_turn}
use Rattle.fm_promise.proofs.Lists.{each_weaken}
use Rattle.fm_promise.proofs.Playable.{IsEntry, Playable, PlayableIn, PlayableFork}
use Rattle.fm_promise.proofs.Drawing.{AreWithin, restarted_open, count_stays}
use Rattle.fm_promise.proofs.Good.{Standing, standing}
use Rattle.fm_promise.proofs.Sending.{standing_same}
use Rattle.fm_promise.proofs.Following.{Inside, Later, InOrder, order_append, over_before}
use Rattle.fm_promise.proofs.Turning.{in_turn, Turned, idle, turned_then, note_turned, rest_turned, point_turned, in_block_turned, warp_turned}
use Rattle.fm_promise.proofs.Branching.{TurnedFork, no_turn, branch_turned, fork_turned}
use Rattle.fm_promise.proofs.Promises.{text_playable, text_whole}
use Rattle.fm_promise.proofs.InTurn.{whole_lines_in_turn}
use Rattle.fm_promise.proofs.InTime.{text_levels}

-- what is played, by both definitions, and what its levels say
record Told (longest : ℕ) (s : Standing) (m by_till : Made) (Level : Type 0) : Type 0 where
  turned : Turned longest s m
  same : Level → by_till ≡ m

-- what branches play
record ToldFork (position : ℕ) (births : List (List ℕ)) (f by_till : Forked) (Level : Type 0) : Type 0 where
  turned : TurnedFork position births f
  same : Level → by_till ≡ f

-- ---- tests

-- two tests
both_of : (a b : Bool) → a && b ≡ true → (a ≡ true) × (b ≡ true)
both_of true b is = (refl, is)
both_of false b is = absurd (true≢false (sym is))

-- an entry
entry_in : (longest : ℕ) (q : Quality) (e : ℕ) → IsEntry longest q e → entry_at_most 100 q e ≡ true → e ≤ in_turn longest q
entry_in longest duration e is set = is
entry_in longest articulation e is set = leb-true e 100 set
entry_in longest loudness e is set = is

-- a list of them
entries_in : (longest : ℕ) (q : Quality) (es : List ℕ) → AllByRecursion (IsEntry longest q) es → list_all (entry_at_most 100 q) es ≡ true
    → AllByRecursion (λ e. e ≤ in_turn longest q) es
entries_in longest q [] is set = tt
entries_in longest q (e ∷ es) is set =
    let b = both_of (entry_at_most 100 q e) (list_all (entry_at_most 100 q) es) set in
    (entry_in longest q e is.0 b.0, entries_in longest q es is.1 b.1)

-- ---- marks

-- of marks that end in time
maps_same : (o : ℕ) (parts : List Part) (ms : List Mark) → AllByRecursion (λ x. x.ending ≤ MAX_TICK) ms
    → map (mapped (placed Onset o parts) (placed Ending o parts)) ms ≡ map (mapped (placed Onset o parts) (placed_end o parts)) ms
maps_same o parts [] all = refl
maps_same o parts (m ∷ ms) all =
    let low : m.ending ≡ min m.ending MAX_TICK = let soon = all.0 in omega (arith, soon) in
    ap₂ (λ y xs. record m {
      onset = placed Onset o parts m.onset;
      ending = (if has_ending m.msg then placed Ending o parts y else placed Onset o parts m.ending);
    } ∷ xs) low (maps_same o parts ms all.1)

-- marks inside a body that ends in time
ends_in_time : (high : ℕ) (ms : List Mark) → high ≤ MAX_TICK → AllByRecursion (Inside 0 high) ms
    → AllByRecursion (λ x. x.ending ≤ MAX_TICK) ms
ends_in_time high ms soon inside =
    each_weaken (Inside 0 high) (λ x. x.ending ≤ MAX_TICK) (λ x i. omega (arith, i.ends, soon)) ms inside

-- ---- blocks

-- inside a block
in_block_told : (longest : ℕ) (block : OpenBlock) (inside by_till : Now → Made) (n : Now) (Level : Type 0)
    → Told longest (standing n) (inside (record n { blocks = block ∷ n.blocks })) (by_till (record n { blocks = block ∷ n.blocks })) Level
    → Told longest (standing n) (in_block block inside n) (in_block block by_till n) Level
in_block_told longest block inside by_till n Level told = record {
  turned = in_block_turned longest block inside n told.turned;
  same = λ level. ap (λ (m : Made). made m.marks (record m.after { blocks = drop 1 m.after.blocks })) (told.same level);
}

-- one statement, and what follows it
then_same : (first first' : Made) (later later' : Now → Made) → first ≡ first' → later first'.after ≡ later' first'.after
    → and_then first later ≡ and_then first' later'
then_same first first' later later' same onward =
    ap (λ m. and_then m later) same ∙ ap (λ (m : Made). made (first'.marks ++ m.marks) m.after) onward

-- rounds in turn
rounds_told : (longest : ℕ) (Q : ℕ → Now → Type 0) (body by_till : ℕ → Now → Made) (k i : ℕ) (n : Now)
    → AreWithin (in_turn longest) n.blocks
    → ((j : ℕ) (m : Now) → AreWithin (in_turn longest) m.blocks → Told longest (standing m) (body j m) (by_till j m) (Q j m))
    → Told longest (standing n) (rounds body k i n) (rounds by_till k i n) (EachRound Q body k i n)
rounds_told longest Q body by_till zero i n blocks each =
    record { turned = idle longest (standing n) n (omega arith) refl refl blocks; same = λ _. refl }
rounds_told longest Q body by_till (suc k) i n blocks each =
    let first = each i n blocks in
    let m = body i n in
    let later = rounds_told longest Q body by_till k (i + 1) m.after first.turned.blocks each in
    record {
      turned = turned_then longest (standing n) m (rounds body k (i + 1) m.after) first.turned later.turned;
      same = λ level. then_same (by_till i n) m (rounds by_till k (i + 1)) (rounds body k (i + 1)) (first.same level.0)
          (later.same level.1);
    }

-- one of two blocks
choice_told : (longest : ℕ) (s : Standing) (c : Bool) (x x' y y' : Made) (A B : Type 0) → Told longest s x x' A → Told longest s y y' B
    → Told longest s (elim c as (λ _. Made) [ true ↦ x | false ↦ y ]) (elim c as (λ _. Made) [ true ↦ x' | false ↦ y' ])
    (elim c as (λ _. Type 0) [ true ↦ A | false ↦ B ])
choice_told longest s true x x' y y' A B first second = first
choice_told longest s false x x' y y' A B first second = second

-- ---- statements

mutual
  -- a statement
  plays_told : (longest : ℕ) (p : Play) (a : Around) (n : Now) → Playable longest p → play_at_most 100 p ≡ true
      → AreWithin (in_turn longest) n.blocks
      → Told longest (standing n) (plays p a n) (plays_by_till p a n) (LevelsOf IsInTime p a n)
  plays_told longest (note draws span) a n is set blocks =
      record { turned = note_turned longest draws span a n blocks; same = λ _. refl }
  plays_told longest (rest span) a n is set blocks = record { turned = rest_turned longest span n blocks; same = λ _. refl }
  plays_told longest (send point draw) a n is set blocks =
      record { turned = point_turned longest point draw a n blocks; same = λ _. refl }
  plays_told longest (assign register expr) a n is set blocks = record {
    turned = idle longest (standing n) (plays (assign register expr) a n).after (omega arith) refl refl blocks;
    same = λ _. refl;
  }
  plays_told longest (choice expr first second) a n is set blocks =
      let v = evaluated expr n in
      let b = both_of (passage_at_most 100 first) (passage_at_most 100 second) set in
      choice_told longest (standing n) (int_lt (pos 0) v.value) (passage_plays first a v.after) (passage_by_till first a v.after)
      (passage_plays second a v.after) (passage_by_till second a v.after)
      (LevelsIn IsInTime first a v.after) (LevelsIn IsInTime second a v.after)
      (passage_told longest first a v.after is.2 b.0 blocks) (passage_told longest second a v.after is.3 b.1 blocks)
  plays_told longest (loop count body) a n is set blocks =
      let c = count_drawn count n in
      let s = count_stays count n in
      subst (λ t. Told longest t (plays (loop count body) a n) (plays_by_till (loop count body) a n)
      (LevelsOf IsInTime (loop count body) a n)) (standing_same n c.after s)
      (rounds_told longest (λ i m. LevelsIn IsInTime body a (record m { blocks = looped i ∷ m.blocks }))
      (λ i. in_block (looped i) (passage_plays body a)) (λ i. in_block (looped i) (passage_by_till body a)) c.value 0 c.after
      (s.blocks (in_turn longest) blocks)
      (λ i m opened. in_block_told longest (looped i) (passage_plays body a) (passage_by_till body a) m
      (LevelsIn IsInTime body a (record m { blocks = looped i ∷ m.blocks }))
      (passage_told longest body a (record m { blocks = looped i ∷ m.blocks }) is.1 set (tt, opened))))
  plays_told longest (phrase body) a n is set blocks =
      let told = passage_told longest body a n is set blocks in record { turned = told.turned; same = told.same }
  plays_told longest (par joined) a n is set blocks = absurd is.0
  plays_told longest (par (branch body branches)) a n is set blocks =
      let start = started a (n.process ∷ []) n.position n.blocks n.births in
      let b = both_of (passage_at_most 100 body) (fork_at_most 100 branches) set in
      let first = passage_told longest body a start is.1.0 b.0 (restarted_open (in_turn longest) n.blocks blocks) in
      let told = forks_told longest (branch body branches) a n n.births is.1 set blocks in
      record {
        turned = fork_turned longest a n (fork_plays (branch body branches) a n n.births) blocks
            (let reach = first.turned.rises in omega (arith, reach)) told.turned;
        same = λ level. ap (λ (f : Forked). made (mark_of_end n ∷ f.marks) (started a f.lasts f.end n.blocks f.births)) (told.same level);
      }
  plays_told longest (warp parts body) a n is set blocks =
      let level = record n { position = 0 } in
      let m = passage_plays body a level in
      let told = passage_told longest body a level is set blocks in
      record {
        turned = warp_turned longest parts n m told.turned;
        same = λ levels.
            ap (λ (x : Made). made (map (mapped (placed Onset n.position parts) (placed Ending n.position parts)) x.marks)
            (record x.after { position = n.position + at parts x.after.position })) (told.same levels.1)
            ∙ ap (λ ms. made ms (record m.after { position = n.position + at parts m.after.position }))
            (maps_same n.position parts m.marks (ends_in_time m.after.position m.marks levels.0.position told.turned.inside));
      }
  plays_told longest (channel number body) a n is set blocks =
      let told = passage_told longest body (record a { channel = number }) n is.1 set blocks in
      record { turned = told.turned; same = told.same }
  plays_told longest (steady quality entry body) a n is set blocks =
      let b = both_of (entry_at_most 100 quality entry) (passage_at_most 100 body) set in
      let inner = record n { blocks = listed quality (entry ∷ []) 0 ∷ n.blocks } in
      in_block_told longest (listed quality (entry ∷ []) 0) (passage_plays body a) (passage_by_till body a) n
      (LevelsIn IsInTime body a inner)
      (passage_told longest body a inner is.1 b.1 ((entry_in longest quality entry is.0 b.0, tt), blocks))
  plays_told longest (under quality entries body) a n is set blocks =
      let b = both_of (list_all (entry_at_most 100 quality) entries) (passage_at_most 100 body) set in
      let inner = record n { blocks = listed quality entries 0 ∷ n.blocks } in
      in_block_told longest (listed quality entries 0) (passage_plays body a) (passage_by_till body a) n
      (LevelsIn IsInTime body a inner)
      (passage_told longest body a inner is.1 b.1 (entries_in longest quality entries is.0 b.0, blocks))

  -- statements in turn
  passage_told : (longest : ℕ) (p : Passage) (a : Around) (n : Now) → PlayableIn longest p → passage_at_most 100 p ≡ true
      → AreWithin (in_turn longest) n.blocks
      → Told longest (standing n) (passage_plays p a n) (passage_by_till p a n) (LevelsIn IsInTime p a n)
  passage_told longest done a n is set blocks =
      record { turned = idle longest (standing n) n (omega arith) refl refl blocks; same = λ _. refl }
  passage_told longest (item spot play more) a n is set blocks =
      let b = both_of (play_at_most 100 play) (passage_at_most 100 more) set in
      let m = plays play a n in
      let first = plays_told longest play a n is.0 b.0 blocks in
      let later = passage_told longest more a m.after is.1 b.1 first.turned.blocks in
      record {
        turned = turned_then longest (standing n) m (passage_plays more a m.after) first.turned later.turned;
        same = λ level. then_same (plays_by_till play a n) m (passage_by_till more a) (passage_plays more a) (first.same level.1)
            (later.same level.2);
      }

  -- branches in turn
  forks_told : (longest : ℕ) (f : Fork) (a : Around) (n : Now) (births : List (List ℕ)) → PlayableFork longest f
      → fork_at_most 100 f ≡ true → AreWithin (in_turn longest) n.blocks
      → ToldFork n.position births (fork_plays f a n births) (forks_by_till f a n births) (LevelsAmong IsInTime f a n births)
  forks_told longest joined a n births is set blocks = record { turned = no_turn n.position births; same = λ _. refl }
  forks_told longest (branch body branches) a n births is set blocks =
      let start = started a (n.process ∷ []) n.position n.blocks births in
      let m = passage_plays body a start in
      let more = fork_plays branches a n m.after.births in
      let b = both_of (passage_at_most 100 body) (fork_at_most 100 branches) set in
      let first = passage_told longest body a start is.0 b.0 (restarted_open (in_turn longest) n.blocks blocks) in
      let later = forks_told longest branches a n m.after.births is.1 b.1 blocks in
      record {
        turned = branch_turned longest n.position (n.process ∷ []) births m more first.turned later.turned;
        same = λ level. ap (λ (x : Made). with_branch x (forks_by_till branches a n x.after.births)) (first.same level.0)
            ∙ ap (with_branch m) (later.same level.1);
      }

-- ---- accepted texts

-- an accepted text whose articulations are at most 100 percent
text_told : (t : List ℕ) (s : Score) → Means t s → gates_at_most 100 (resolved s) ≡ true
    → (let r = resolved s in let a : Around = record { seed = r.seed; channel = 0 } in let n = started a [] 0 [] [] in
    Told r.longest (standing n) (passage_plays r.passage a n) (passage_by_till r.passage a n) (LevelsIn IsInTime r.passage a n))
text_told t s m set =
    let r = resolved s in
    let a : Around = record { seed = r.seed; channel = 0 } in
    passage_told r.longest r.passage a (started a [] 0 [] []) (text_playable t s m) set tt

-- what it plays
pub text_by_till : (t : List ℕ) (s : Score) → Means t s → gates_at_most 100 (resolved s) ≡ true
    → score_by_till (resolved s) ≡ score_plays (resolved s)
text_by_till t s m set =
    ap (λ (x : Made). made (x.marks ++ mark_of_end x.after ∷ []) x.after) ((text_told t s m set).same (text_levels t s m).inner)

-- in their order
text_order : (t : List ℕ) (s : Score) → Means t s → gates_at_most 100 (resolved s) ≡ true → InOrder (score_plays (resolved s)).marks
text_order t s m set =
    let r = resolved s in
    let a : Around = record { seed = r.seed; channel = 0 } in
    let x = passage_plays r.passage a (started a [] 0 [] []) in
    let g = (text_told t s m set).turned in
    order_append x.marks (mark_of_end x.after ∷ []) g.order (tt, tt)
    (each_weaken (Inside 0 x.after.position) (λ y. AllByRecursion (Later y) (mark_of_end x.after ∷ []))
    (λ y i. (λ _. over_before x.after.position y (mark_of_end x.after) i.to i.ends (omega arith), tt)) x.marks g.inside)

-- its lines
pub text_in_turn : (t : List ℕ) (s : Score) → Means t s → gates_at_most 100 (resolved s) ≡ true
    → played_lines (resolved s) ≡ played_in_turn (resolved s)
text_in_turn t s m set =
    let r = resolved s in
    whole_lines_in_turn (bounds_in r.longest r.passage) (score_plays r).after.births (score_plays r).marks (played_end r)
    (text_whole t s m) (text_order t s m set)
    ∙ ap (λ (x : Made). lines_in_turn 0 x.after.births x.marks) (sym (text_by_till t s m set))
