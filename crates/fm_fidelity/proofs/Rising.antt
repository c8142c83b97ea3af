-- Positions never fall.
use Rattle.std.proofs.Common.{◌≡◌, ℕ, zero, suc, ◌+◌, ◌≤◌, Bool, true, false, List, [], ◌∷◌, ap, ◌∙◌, arith, pos}
use Rattle.std.specs.Prelude.{int_lt, nat_le}
use Rattle.std.proofs.lemmas.Bool.{and_parts, and_from, leb-true, le-leb}
use Rattle.fm_tick.specs.declared.tick.TheConstants.{MAX_TICK}
use Rattle.fm_warp.specs.declared.side.Side.TheVariants.{Onset}
use Rattle.fm_warp.specs.Deformation.{placed}
use Rattle.fm_warp.proofs.DeformationLemmas.{sum_from-mono}
use Rattle.fm_program.specs.State.{OpenLevel}
use Rattle.fm_program.specs.Needs.{levels_hold}
use Rattle.fm_meaning.specs.Resolved.{DataSource, LengthSource, Play, note, rest, send, assign, choice, loop, phrase, par, warp, channel, steady, under, Passage, done, item, Fork, joined, branch}
use Rattle.fm_meaning.specs.State.{looped, listed, Around, Now, started, evaluated, amount_drawn, keys_drawn, count_drawn}
use Rattle.fm_meaning.specs.Played.{Made, in_block, point_message, rounds, plays, passage_plays, fork_plays}
use Rattle.fm_meaning.specs.Places.{Depths, in_one, in_branching, in_loop, in_list, in_fork}
use Rattle.fm_fidelity.proofs.Keeping.{amount_after, keys_after, span_after, count_after, sent_after, note_begun, note_after}
use Rattle.fm_fidelity.proofs.Fits.{HasArm, Fits, FitsIn, FitsBeside}

-- ---- levels

-- an earlier position is within the limit of each level where a later one is
pub levels_earlier : (ls : List OpenLevel) (x y : ℕ) → x ≤ y → levels_hold ls y ≡ true
    → levels_hold ls x ≡ true
levels_earlier [] x y below held = le-leb x MAX_TICK (omega (arith, below, leb-true y MAX_TICK held))
levels_earlier (l ∷ ls) x y below held =
    let both = and_parts (nat_le y MAX_TICK) (levels_hold ls (placed Onset l.origin l.parts y)) held in
    and_from (nat_le x MAX_TICK) (levels_hold ls (placed Onset l.origin l.parts x))
    (le-leb x MAX_TICK (omega (arith, below, leb-true y MAX_TICK both.0)))
    (levels_earlier ls (placed Onset l.origin l.parts x) (placed Onset l.origin l.parts y)
    (omega (arith, sum_from-mono Onset l.parts 0 x y below)) both.1)

-- ---- statements

-- where a note begins is where it was drawn
pub begun_position : (draws : List DataSource) (span : LengthSource) (n : Now)
    → (note_begun draws span n).position ≡ n.position
begun_position draws span n = ap Now.position (span_after span (keys_drawn draws n).after)
    ∙ ap Now.position (keys_after draws n)

-- rounds
pub rounds_rise : (body : ℕ → Now → Made) (k i : ℕ) (n : Now)
    → ((j : ℕ) (m : Now) → m.position ≤ (body j m).after.position)
    → n.position ≤ (rounds body k i n).after.position
rounds_rise body zero i n each = omega arith
rounds_rise body (suc k) i n each = omega (arith, each i n, rounds_rise body k (i + 1) (body i n).after each)

-- one of two
either_rises : (b : Bool) (x : ℕ) (y z : Made) → x ≤ y.after.position → x ≤ z.after.position
    → x ≤ (elim b as (λ _. Made) [ true ↦ y | false ↦ z ]).after.position
either_rises true x y z first second = first
either_rises false x y z first second = second

mutual
  -- a statement
  pub plays_rise : (d : Depths) (p : Play) (a : Around) (n : Now) → Fits d p
      → n.position ≤ (plays p a n).after.position
  plays_rise d (note draws span) a n fits =
      omega (arith, ap Now.position (note_after draws span a n), begun_position draws span n)
  plays_rise d (rest span) a n fits = omega (arith, ap Now.position (span_after span n))
  plays_rise d (send point draw) a n fits =
      let v = amount_drawn draw n in
      omega (
        arith,
        ap Now.position (sent_after (point_message point a.channel v.value ∷ []) v.after.position v.after),
        ap Now.position (amount_after draw n),
      )
  plays_rise d (assign register expr) a n fits = omega arith
  plays_rise d (choice expr first second) a n fits =
      let v = evaluated expr n in
      either_rises (int_lt (pos 0) v.value) n.position (passage_plays first a v.after)
      (passage_plays second a v.after)
      (passage_rises (in_branching d) first a v.after fits.3)
      (passage_rises (in_branching d) second a v.after fits.4)
  plays_rise d (loop count body) a n fits =
      let c = count_drawn count n in
      omega (
        arith,
        ap Now.position (count_after count n),
        rounds_rise (λ i. in_block (looped i) (passage_plays body a)) c.value 0 c.after
            (λ j m. passage_rises (in_loop count d) body a (record m { blocks = looped j ∷ m.blocks })
            fits.3),
      )
  plays_rise d (phrase body) a n fits = passage_rises (in_one d) body a n fits
  plays_rise d (par branches) a n fits = fork_rises (in_fork d) branches a n n.births fits.1 fits.0
  plays_rise d (warp parts body) a n fits = omega arith
  plays_rise d (channel number body) a n fits = passage_rises (in_one d) body
      (record a { channel = number }) n fits.1
  plays_rise d (steady quality entry body) a n fits =
      passage_rises (in_one d) body a (record n { blocks = listed quality (entry ∷ []) 0 ∷ n.blocks }) fits.1
  plays_rise d (under quality entries body) a n fits =
      passage_rises (in_list quality d) body a
      (record n { blocks = listed quality entries 0 ∷ n.blocks }) fits.3

  -- statements in turn
  pub passage_rises : (d : Depths) (p : Passage) (a : Around) (n : Now) → FitsIn d p
      → n.position ≤ (passage_plays p a n).after.position
  passage_rises d done a n fits = omega arith
  passage_rises d (item spot play more) a n fits =
      omega (arith, plays_rise d play a n fits.0, passage_rises d more a (plays play a n).after fits.1)

  -- branches of which there is one
  fork_rises : (d : Depths) (f : Fork) (a : Around) (n : Now) (births : List (List ℕ)) → FitsBeside d f
      → HasArm f
      → n.position ≤ (fork_plays f a n births).end
  fork_rises d joined a n births fits some = absurd some
  fork_rises d (branch body branches) a n births fits some =
      omega (arith, passage_rises d body a (started a (n.process ∷ []) n.position n.blocks births) fits.0)
