-- What an accepted text plays is as the run of a plan asks.
use Rattle.std.proofs.Common.{◌≡◌, ℕ, ◌-◌, true, false, List, [], ◌∷◌, refl, sym, ◌∙◌, arith, true≢false, ℤ, pos, neg_ℤ, ◌-ℤ◌}
use Rattle.std.specs.Prelude.{nat_le, nat_lt}
use Rattle.std.specs.List.{list_all}
use Rattle.std.proofs.lemmas.Bool.{and_from, and_parts, or_from, or_left, or_right, leb-true, le-leb, lt-ltb}
use Rattle.fm_msg.specs.declared.msg.TheConstants.{DATA_VALUES}
use Rattle.fm_grammar.specs.Score.{Score}
use Rattle.fm_meaning.specs.Rules.{most_ticks, most_data, most_gate, bend_centre, most_bend}
use Rattle.fm_meaning.specs.Resolved.{DataSource, given, drawn, LengthSource, ticks, counted, beat, PointKind, control, program, bend, RoundSource, times, at_most, Quality, duration, articulation, loudness, Play, note, rest, send, assign, choice, loop, phrase, par, warp, channel, steady, under, Passage, done, item, Fork, joined, branch}
use Rattle.fm_meaning.specs.Bounds.{forks, forks_in}
use Rattle.fm_meaning.specs.Places.{Depths, outermost, in_one, in_branching, in_loop, in_warp, in_list, in_fork}
use Rattle.fm_meaning.specs.Resolve.{resolved}
use Rattle.fm_meaning.specs.Verdict.{Means}
use Rattle.fm_promise.specs.Kept.{draw_kept, key_kept, span_kept, count_kept, point_kept, entry_kept, Kept, KeptIn, KeptAmong}
use Rattle.fm_expansion.proofs.Frames.{entry_good}
use Rattle.fm_fidelity.proofs.Fits.{source_good, length_good, count_good, point_good, CountsForks, Fits, FitsIn, FitsBeside}

-- ---- numbers

source_fits : (loops : ℕ) (least most : ℤ) (x : DataSource) → draw_kept least most loops x ≡ true
    → source_good loops least most x ≡ true
source_fits loops least most (given v) is = is
source_fits loops least most (drawn e) is = is

keys_fit : (loops : ℕ) (xs : List DataSource) → list_all (key_kept loops) xs ≡ true
    → list_all (source_good loops (pos 0) (pos (DATA_VALUES - 1))) xs ≡ true
keys_fit loops [] is = refl
keys_fit loops (x ∷ xs) is =
    let both = and_parts (key_kept loops x) (list_all (key_kept loops) xs) is in
    and_from (source_good loops (pos 0) (pos (DATA_VALUES - 1)) x)
    (list_all (source_good loops (pos 0) (pos (DATA_VALUES - 1))) xs)
    (source_fits loops (pos 0) (pos (DATA_VALUES - 1)) x both.0) (keys_fit loops xs both.1)

span_fits : (d : Depths) (span : LengthSource) → span_kept d span ≡ true → length_good d.loops span ≡ true
span_fits d (ticks n) is = is
span_fits d (counted e most) is = is
span_fits d beat is = refl

count_fits : (loops : ℕ) (count : RoundSource) → count_kept loops count ≡ true → count_good loops count ≡ true
count_fits loops (times n) is = is
count_fits loops (at_most e most) is = is

point_fits : (loops : ℕ) (point : PointKind) (x : DataSource) → point_kept loops point x ≡ true
    → point_good loops point x ≡ true
point_fits loops (control c) x is =
    let both = and_parts (nat_le c most_data) (key_kept loops x) is in
    and_from (nat_lt c DATA_VALUES) (source_good loops (pos 0) (pos (DATA_VALUES - 1)) x)
    (lt-ltb c DATA_VALUES (omega (arith, leb-true c most_data both.0)))
    (source_fits loops (pos 0) (pos (DATA_VALUES - 1)) x both.1)
point_fits loops program x is = source_fits loops (pos 0) (pos (DATA_VALUES - 1)) x is
point_fits loops bend x is = source_fits loops (neg_ℤ (pos bend_centre))
    (pos most_bend -ℤ pos bend_centre) x is

entry_fits : (q : Quality) (v : ℕ) → entry_kept q v ≡ true → entry_good q v ≡ true
entry_fits duration v is = and_from (nat_le 0 v) (nat_le v most_ticks) (le-leb 0 v (omega arith)) is
entry_fits articulation v is = and_from (nat_le 0 v) (nat_le v most_gate) (le-leb 0 v (omega arith)) is
entry_fits loudness v is = is

entries_fit : (q : Quality) (vs : List ℕ) → list_all (entry_kept q) vs ≡ true
    → list_all (entry_good q) vs ≡ true
entries_fit q [] is = refl
entries_fit q (v ∷ vs) is =
    let both = and_parts (entry_kept q v) (list_all (entry_kept q) vs) is in
    and_from (entry_good q v) (list_all (entry_good q) vs) (entry_fits q v both.0) (entries_fit q vs both.1)

-- ---- no fork in a choice

mutual
  -- a statement in a choice
  alone : (d : Depths) (p : Play) → d.in_choice ≡ true → Kept d p → forks p ≡ false
  alone d (note draws span) is k = refl
  alone d (rest span) is k = refl
  alone d (send point draw) is k = refl
  alone d (assign register expr) is k = refl
  alone d (choice expr first second) is k =
      or_from (forks_in first) (forks_in second) (alone_in (in_branching d) first refl k.1)
      (alone_in (in_branching d) second refl k.2)
  alone d (loop (times n) body) is k = alone_in (in_loop (times n) d) body (or_left d.in_choice false is) k.2
  alone d (loop (at_most e n) body) is k = alone_in (in_loop (at_most e n) d) body
      (or_left d.in_choice true is) k.2
  alone d (phrase body) is k = alone_in (in_one d) body is k
  alone d (par branches) is k = absurd (true≢false (sym is ∙ k.0))
  alone d (warp parts body) is k = alone_in (in_warp d) body is k.2
  alone d (channel number body) is k = alone_in (in_one d) body is k.1
  alone d (steady quality entry body) is k = alone_in (in_one d) body is k.1
  alone d (under quality entries body) is k = alone_in (in_list quality d) body is k.3

  -- statements in a choice
  alone_in : (d : Depths) (p : Passage) → d.in_choice ≡ true → KeptIn d p → forks_in p ≡ false
  alone_in d done is k = refl
  alone_in d (item spot play more) is k = or_from (forks play) (forks_in more) (alone d play is k.0)
      (alone_in d more is k.1)

-- a loop that forks
counts_forks : (d : Depths) (count : RoundSource) (body : Passage) → KeptIn (in_loop count d) body
    → CountsForks count body
counts_forks d (times n) body k = tt
counts_forks d (at_most e n) body k = alone_in (in_loop (at_most e n) d) body
    (or_right d.in_choice true refl) k

-- ---- statements

mutual
  -- a statement
  fits : (d : Depths) (p : Play) → Kept d p → Fits d p
  fits d (note draws span) k = (k.0, keys_fit d.loops draws k.1, span_fits d span k.2)
  fits d (rest span) k = span_fits d span k
  fits d (send point draw) k = point_fits d.loops point draw k
  fits d (assign register expr) k = k
  fits d (choice expr first second) k = (
    k.0,
    alone_in (in_branching d) first refl k.1,
    alone_in (in_branching d) second refl k.2,
    fits_in
        (in_branching d) first k.1,
    fits_in (in_branching d) second k.2,
  )
  fits d (loop count body) k = (
    count_fits d.loops count k.0,
    counts_forks d count body k.2,
    k.1.frames,
    fits_in
        (in_loop count d) body k.2,
  )
  fits d (phrase body) k = fits_in (in_one d) body k
  fits d (par joined) k = absurd k.1
  fits d (par (branch body branches)) k = (tt, fits_beside (in_fork d) (branch body branches) k.2)
  fits d (warp parts body) k = (k.1.warps, fits_in (in_warp d) body k.2)
  fits d (channel number body) k = (omega (arith, k.0), fits_in (in_one d) body k.1)
  fits d (steady quality entry body) k = (entry_fits quality entry k.0, fits_in (in_one d) body k.1)
  fits d (under quality entries body) k = (
    k.0,
    entries_fit quality entries k.1,
    k.2.frames,
    fits_in
        (in_list quality d) body k.3,
  )

  -- statements in turn
  fits_in : (d : Depths) (p : Passage) → KeptIn d p → FitsIn d p
  fits_in d done k = tt
  fits_in d (item spot play more) k = (fits d play k.0, fits_in d more k.1)

  -- branches in turn
  fits_beside : (d : Depths) (f : Fork) → KeptAmong d f → FitsBeside d f
  fits_beside d joined k = tt
  fits_beside d (branch body branches) k = (fits_in d body k.0, fits_beside d branches k.1)

-- an accepted text
pub text_fits : (kept : (t : List ℕ) (s : Score) → Means t s → KeptIn outermost (resolved s).passage)
    (t : List ℕ) (s : Score)
    → Means t s → FitsIn outermost (resolved s).passage
text_fits kept t s m = fits_in outermost (resolved s).passage (kept t s m)
