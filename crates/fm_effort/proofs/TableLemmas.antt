-- What an operation lies in, as the code keeps it.
use Rattle.std.proofs.Common.{◌≡◌, ◌≢◌, ℕ, suc, ◌+◌, ◌-◌, ◌*◌, ◌<◌, ◌≤◌, List, [], ◌∷◌, length, get_or, set, refl, sym, ap, subst, ◌∙◌, arith, ⊎_elim}
use Rattle.std.proofs.lemmas.Bool.{cases_lt, lt-ltb, le-ltb}
use Rattle.std.proofs.lemmas.List.{get_or_default, get_or-set_same, get_or-set_other, get_or_past, length-set}
use Rattle.fm_program.specs.declared.op.TheConstants.{MAX_LOOPS}
use Rattle.fm_effort.specs.declared.enclosing.Enclosing.{Enclosing}
use Rattle.fm_effort.specs.Effort.{largest, counted, Surroundings, outer, in_rounds, rounds_in}
use Rattle.fm_effort.specs.Kept.{KeepsRounds, Encloses}
use Rattle.fm_effort.proofs.NumberLemmas.{counted_below}

-- ---- rounds

-- without a loop an operation is run once
rounds_none : counted (rounds_in []) ≡ 1
unfolding counted
rounds_none = refl

-- in one loop more it is run so many times as often
rounds_more : (n : ℕ) (ns : List ℕ) → length ns < MAX_LOOPS → counted (n * rounds_in ns) ≡ counted (rounds_in (n ∷ ns))
rounds_more n ns few = rw (le-ltb MAX_LOOPS (length ns) (omega arith), le-ltb MAX_LOOPS (suc (length ns)) (omega arith)) refl

-- in too many it is run as often as can be
rounds_past : (ns : List ℕ) → MAX_LOOPS < length ns → largest ≡ counted (rounds_in ns)
rounds_past ns many = rw (lt-ltb MAX_LOOPS (length ns) many) (sym (counted_below largest (omega arith)))

-- ---- the table

-- the entry of the innermost loop
pub kept_now : (table counts : List ℕ) → KeepsRounds table counts
    → get_or table (length counts) largest ≡ counted (rounds_in counts)
kept_now table [] k = k ∙ sym rounds_none
kept_now table (n ∷ ns) k = k.0

-- an entry further in changes none of these
kept_below : (table counts : List ℕ) (i v : ℕ) → length counts < i → KeepsRounds table counts
    → KeepsRounds (set table i v) counts
kept_below table [] i v low k =
    let other : 0 ≢ i = omega arith in get_or-set_other table i 0 v largest other ∙ k
kept_below table (n ∷ ns) i v low k =
    let other : suc (length ns) ≢ i = omega arith in (
      get_or-set_other table i (suc (length ns)) v largest other ∙ k.0,
      kept_below table ns i v (omega arith) k.1,
    )

-- the entry of a loop that is opened
entry_more : (table : List ℕ) (n v : ℕ) (ns : List ℕ) → length table ≡ MAX_LOOPS + 1 → v ≡ counted (n * rounds_in ns)
    → get_or (set table (suc (length ns)) v) (suc (length ns)) largest ≡ counted (rounds_in (n ∷ ns))
entry_more table n v ns long is =
    ⊎_elim
    (λ few. get_or-set_same table (suc (length ns)) v largest (omega arith) ∙ is ∙ rounds_more n ns few)
    (λ many. get_or_past (set table (suc (length ns)) v) (suc (length ns)) largest
    (omega (arith, length-set table (suc (length ns)) v)) ∙ rounds_past (n ∷ ns) (omega arith))
    (cases_lt (length ns) MAX_LOOPS)

-- a loop is opened
pub kept_more : (table : List ℕ) (n i v : ℕ) (ns : List ℕ) → length table ≡ MAX_LOOPS + 1 → i ≡ suc (length ns)
    → v ≡ counted (n * rounds_in ns) → KeepsRounds table ns → KeepsRounds (set table i v) (n ∷ ns)
kept_more table n i v ns long at is k =
    let low : length ns < i = omega arith in (
      ap (λ (j : ℕ). get_or (set table j v) (suc (length ns)) largest) at ∙ entry_more table n v ns long is,
      kept_below table ns i v low k,
    )

-- one loop less, if there is one
pub outer_length : (counts : List ℕ) → length counts - 1 ≡ length (outer counts)
outer_length [] = refl
outer_length (n ∷ ns) = omega arith

-- ---- what the code keeps

-- how often an operation is run, from the table
pub rounds_here : (e : Enclosing) (a : Surroundings) (d : ℕ) → e.loops < length e.rounds → Encloses e a
    → get_or e.rounds e.loops d ≡ counted (rounds_in a.counts)
rounds_here e a d below k =
    get_or_default e.rounds e.loops d largest below
    ∙ ap (λ (i : ℕ). get_or e.rounds i largest) k.loops
    ∙ kept_now e.rounds a.counts k.rounds

-- and beyond the table
pub rounds_beyond : (e : Enclosing) (a : Surroundings) → length e.rounds ≤ e.loops → Encloses e a
    → largest ≡ counted (rounds_in a.counts)
rounds_beyond e a past k =
    sym (get_or_past e.rounds e.loops largest past)
    ∙ ap (λ (i : ℕ). get_or e.rounds i largest) k.loops
    ∙ kept_now e.rounds a.counts k.rounds

-- a loop is opened
pub opened : (e next : Enclosing) (a : Surroundings) (n : ℕ) (v : ℕ) → length e.rounds ≡ MAX_LOOPS + 1
    → next.loops ≡ e.loops + 1 → v ≡ counted (n * rounds_in a.counts) → next.rounds ≡ set e.rounds next.loops v
    → next.levels ≡ e.levels → next.sure ≡ e.sure → Encloses e a → Encloses next (in_rounds n a)
opened e next a n v long more times is levels sure k =
    let count : next.loops ≡ suc (length a.counts) = (let had = k.loops in omega arith) in
    record {
      rounds = subst (λ (t : List ℕ). KeepsRounds t (n ∷ a.counts)) (sym is)
          (kept_more e.rounds n next.loops v a.counts long count times k.rounds);
      loops = count;
      levels = levels ∙ k.levels;
      sure = sure ∙ k.sure;
    }
