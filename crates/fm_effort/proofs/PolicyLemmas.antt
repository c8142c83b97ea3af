-- When an estimate is made, and what comes of it.
use Rattle.std.proofs.Common.{◌≡◌, ◌∙◌, ℕ, ◌/◌, ◌<◌, ◌≤◌, max, nat_le, nat_lt, if◌then◌else◌, Bool, true, false, List, length, refl, sym, ap, arith, ⊎_elim}
use Rattle.std.proofs.lemmas.Bool.{lt-leb, le-leb, lt-ltb, le-ltb, leb-true, cases_lt}
use Rattle.fm_program.specs.Parts.{ProgramParts, PlanParts}
use Rattle.fm_effort.specs.declared.load.Load.{Load}
use Rattle.fm_effort.specs.declared.load.TheConstants.{MOST_OPERATIONS}
use Rattle.fm_effort.specs.declared.useful.TheConstants.{MANY_EVENTS, FEW_EVENTS, LITTLE_WORK, LEAST_FOR_AN_EVENT}
use Rattle.fm_effort.specs.Effort.{largest, counted, all_effort, all_operations, is_too_many, is_small, IsFew, are_few, IsCheap, are_looked_at, is_estimated, busy, event_work, workers_of}
use Rattle.fm_effort.specs.Kept.{load_for}

-- long programs are not looked at
pub none_for_long : (ps : List ProgramParts) → MOST_OPERATIONS < all_operations ps → false ≡ are_looked_at ps
none_for_long ps long = sym (lt-leb (all_operations ps) MOST_OPERATIONS long)

-- but all others
pub some_for_short : (ps : List ProgramParts) → all_operations ps ≤ MOST_OPERATIONS → true ≡ are_looked_at ps
some_for_short ps short = sym (le-leb (all_operations ps) MOST_OPERATIONS short)

-- a number is below a limit where it is, cut off
counted_lt : (n limit : ℕ) → limit ≤ largest → nat_lt (counted n) limit ≡ nat_lt n limit
unfolding counted
counted_lt n limit low =
    ⊎_elim (λ below. lt-ltb (counted n) limit (omega arith) ∙ sym (lt-ltb n limit below))
    (λ above. le-ltb (counted n) limit (omega arith) ∙ sym (le-ltb n limit above)) (cases_lt n limit)

-- and it is many where it is, cut off
counted_many : (n : ℕ) → nat_le MANY_EVENTS (counted n) ≡ nat_le MANY_EVENTS n
unfolding counted
counted_many n =
    ⊎_elim (λ below. lt-leb MANY_EVENTS (counted n) (omega arith) ∙ sym (lt-leb MANY_EVENTS n below))
    (λ above. le-leb MANY_EVENTS (counted n) (omega arith) ∙ sym (le-leb MANY_EVENTS n above)) (cases_lt n MANY_EVENTS)

-- many are some
some_events : (n : ℕ) → nat_le MANY_EVENTS n ≡ true → max (counted n) 1 ≡ counted n
unfolding counted
some_events n many = let least : MANY_EVENTS ≤ n = leb-true MANY_EVENTS n many in omega arith

-- ---- the workers

-- none for too many processes
pub none_where_crowded : (p : PlanParts) (room most count : ℕ) → count ≡ length p.programs
    → is_too_many count room ≡ true → 0 ≡ workers_of p room most
unfolding workers_of
none_where_crowded p room most count is many =
    let all = ap (λ (n : ℕ). is_too_many n room) (sym is) ∙ many in rw all refl

-- all for programs that are not looked at
pub all_unseen : (p : PlanParts) (room most count : ℕ) → count ≡ length p.programs
    → is_too_many count room ≡ false → false ≡ are_looked_at p.programs → most ≡ workers_of p room most
unfolding workers_of are_few is_estimated
all_unseen p room most count is few unmade =
    let all = ap (λ (n : ℕ). is_too_many n room) (sym is) ∙ few in rw (all, sym unmade) refl

-- else by what they compute
pub some_seen : (p : PlanParts) (room most count result : ℕ) (load : Load) → count ≡ length p.programs
    → is_too_many count room ≡ false → true ≡ are_looked_at p.programs → load ≡ load_for (all_effort p.programs)
    → result ≡ (if is_small (record { work = load.work; events = load.events }) then 0
    else if nat_le MANY_EVENTS load.events then busy (load.work / max load.events 1) most
    else most)
    → result ≡ workers_of p room most
unfolding workers_of are_few is_estimated
some_seen p room most count result load is few made loaded found =
    found ∙ same (nat_le MANY_EVENTS (all_effort p.programs).events) refl
  where
    all : is_too_many (length p.programs) room ≡ false
    all = ap (λ (n : ℕ). is_too_many n room) (sym is) ∙ few

    same : (b : Bool) → nat_le MANY_EVENTS (all_effort p.programs).events ≡ b
        → (if is_small (record { work = load.work; events = load.events }) then 0
        else if nat_le MANY_EVENTS load.events then busy (load.work / max load.events 1) most
        else most)
        ≡ workers_of p room most
    same true many =
        rw (
          all,
          sym made,
          loaded,
          counted_lt (all_effort p.programs).events FEW_EVENTS (omega arith),
          counted_lt (all_effort p.programs).work LITTLE_WORK (omega arith),
          counted_many (all_effort p.programs).events,
          many,
          some_events (all_effort p.programs).events many,
        )
        refl
    same false none =
        rw (
          all,
          sym made,
          loaded,
          counted_lt (all_effort p.programs).events FEW_EVENTS (omega arith),
          counted_lt (all_effort p.programs).work LITTLE_WORK (omega arith),
          counted_many (all_effort p.programs).events,
          none,
        )
        refl

-- none for few events
pub none_where_few : (p : PlanParts) (room most result : ℕ) → result ≡ workers_of p room most
    → IsFew p.programs → result ≡ 0
unfolding workers_of are_few
none_where_few p room most result is few = is ∙ none (is_too_many (length p.programs) room) refl
  where
    none : (b : Bool) → is_too_many (length p.programs) room ≡ b → workers_of p room most ≡ 0
    none true many = rw many refl
    none false free =
        rw (
          free,
          le-leb (all_operations p.programs) MOST_OPERATIONS few.short,
          lt-ltb (all_effort p.programs).events FEW_EVENTS few.few,
          lt-ltb (all_effort p.programs).work LITTLE_WORK few.little,
        )
        refl

-- none where an event takes little to compute
pub none_where_cheap : (p : PlanParts) (room most result : ℕ) → result ≡ workers_of p room most
    → IsCheap p.programs → result ≡ 0
unfolding workers_of
none_where_cheap p room most result is cheap = is ∙ none (is_too_many (length p.programs) room) refl (are_few p.programs) refl
  where
    none : (b : Bool) → is_too_many (length p.programs) room ≡ b → (c : Bool) → are_few p.programs ≡ c
        → workers_of p room most ≡ 0
    none true many c few = rw many refl
    none false free true few = rw (free, few) refl
    none false free false others =
        rw (
          free,
          others,
          cheap.estimated,
          lt-ltb (event_work (all_effort p.programs)) LEAST_FOR_AN_EVENT cheap.little,
        )
        refl
