-- All programs of a score have operations that fit, and start in lists and levels that are there.
use Rattle.std.proofs.Common.{◌≡◌, ℕ, zero, suc, ◌+◌, ◌<◌, ◌≤◌, Bool, true, false, List, [], ◌∷◌, ◌++◌, length, reverse, refl, sym, ap, ◌∙◌, subst, arith, length-append, true≢false}
use Rattle.std.specs.Prelude.{slice_index_or, nat_le, nat_lt, ◌&&◌}
use Rattle.std.specs.List.{list_all}
use Rattle.std.proofs.lemmas.List.{length-map}
use Rattle.std.proofs.lemmas.Bool.{and_parts, and_from, lt-ltb, le-leb, leb-true}
use Rattle.fm_pattern.specs.declared.cursor.TheConstants.{MAX_ENTRIES}
use Rattle.fm_nest.specs.declared.nest.TheConstants.{MAX_LEVELS}
use Rattle.fm_program.specs.declared.op.TheConstants.{MAX_FRAMES, MAX_INDEX, MAX_LENGTH, MAX_LOOPS}
use Rattle.fm_program.specs.declared.op.Count.TheVariants as count
use Rattle.fm_program.specs.declared.op.Slot.{Slot}
use Rattle.fm_program.specs.declared.op.Op.{Op}
use Rattle.fm_program.specs.declared.op.Op.TheVariants as op
use Rattle.fm_program.specs.Parts.{StockParts, ProgramParts, no_program}
use Rattle.fm_program.specs.Fit.{has_up_to, slot_fits, scope_fits, op_fits, ops_fit, program_fits}
use Rattle.fm_program.specs.State.{OpenLevel}
use Rattle.fm_meaning.specs.Places.{Depths, in_one, in_branching, in_loop, in_warp as deeper_warp, in_list, in_fork}
use Rattle.fm_expansion.specs.Outline.{Tables, stock_with, parts_in, rounds_of, Instruction, note, rest, send, assign, choice, loop, phrase, par, warp, channel, steady, under, Block, done, item, Arms, joined, arm, play_in, passage_in, fork_in}
use Rattle.fm_expansion.specs.Homes.{Home, loop_frame, loop_round, list_frame, list_of_one, frames_of, slots_of, cycles_of, Inside, at_home, in_scope, in_warp}
use Rattle.fm_expansion.specs.Emission.{forks_in, size, scopes_of, scopes_in, emit}
use Rattle.fm_expansion.specs.Expansion.{Emitting, with_ops, with_scopes, straight, begun, whole, unrolled, expand, expand_in, expand_arms}
use Rattle.fm_fidelity.proofs.Fits.{Fits, FitsIn, FitsBeside}
use Rattle.fm_expansion.proofs.Settings.{HasScopes, in_block_more, on_channel, in_one_entry, in_list_more, in_round_more, in_level_more}
use Rattle.fm_expansion.proofs.Lengths.{emit_length, forks_in_alike}
use Rattle.fm_expansion.proofs.Programs.{at_first, reverse_cons, reverse_length}
use Rattle.fm_expansion.proofs.Growing.{Prefix, prefix_then, has_scopes, unrolled_grows, expand_in_grows, expand_arms_grow}
use Rattle.fm_fidelity.proofs.Making.{all_more}
use Rattle.fm_expansion.proofs.Resolving.{HasWarps, HasWarpsIn, HasWarpsAmong}
use Rattle.fm_fidelity.proofs.Static.{in_table, HomesGood, Inner, ops_wider, ops_both, loop_scope_there, emit_fits}

-- ---- lists

-- a test of two lists
pub all_both : {A : Type 0} (f : A → Bool) (xs ys : List A) → list_all f xs ≡ true
    → list_all f ys ≡ true → list_all f (xs ++ ys) ≡ true
all_both f [] ys first second = second
all_both f (x ∷ xs) ys first second =
    let both = and_parts (f x) (list_all f xs) first in
    and_from (f x) (list_all f (xs ++ ys)) both.0 (all_both f xs ys both.1 second)

-- a test of a list turned round
all_reverse : (f : ℕ → Bool) (xs : List ℕ) → list_all f xs ≡ true → list_all f (reverse xs) ≡ true
all_reverse f [] all = refl
all_reverse f (x ∷ xs) all =
    let both = and_parts (f x) (list_all f xs) all in
    subst (λ l. list_all f l ≡ true) (sym (reverse_cons x xs))
    (all_more f (reverse xs) x (all_reverse f xs both.1) both.0)

-- ---- scopes

-- rounds below the limit
abbrev RoundsGood : List Home → Type 0
RoundsGood [] = Unit {0}
RoundsGood (loop_frame ∷ hs) = RoundsGood hs
RoundsGood (loop_round j ∷ hs) = (j < MAX_INDEX) × RoundsGood hs
RoundsGood (list_frame q l ∷ hs) = RoundsGood hs
RoundsGood (list_of_one q v ∷ hs) = RoundsGood hs

-- those of good homes are
rounds_good : (t : Tables) (hs : List Home) → HomesGood t hs → RoundsGood hs
rounds_good t [] good = tt
rounds_good t (loop_frame ∷ hs) good = rounds_good t hs good
rounds_good t (loop_round j ∷ hs) good = (good.0, rounds_good t hs good.1)
rounds_good t (list_frame q l ∷ hs) good = rounds_good t hs good.1
rounds_good t (list_of_one q v ∷ hs) good = rounds_good t hs good.1

-- their slots fit
slots_good : (hs : List Home) → RoundsGood hs → list_all slot_fits (slots_of hs) ≡ true
slots_good [] good = refl
slots_good (loop_frame ∷ hs) good = slots_good hs good
slots_good (loop_round j ∷ hs) good =
    and_from (nat_lt j MAX_INDEX) (list_all slot_fits (slots_of hs)) (lt-ltb j MAX_INDEX good.0)
    (slots_good hs good.1)
slots_good (list_frame q l ∷ hs) good = slots_good hs good
slots_good (list_of_one q v ∷ hs) good = slots_good hs good

-- a scope of them fits
scope_good : (hs : List Home) → RoundsGood hs → length (slots_of hs) ≤ MAX_LOOPS → scope_fits (slots_of hs) ≡ true
scope_good hs good few =
    and_from (nat_le (length (slots_of hs)) MAX_LOOPS) (list_all slot_fits (slots_of hs))
    (le-leb (length (slots_of hs)) MAX_LOOPS few) (slots_good hs good)

mutual
  -- the scopes of a statement fit
  scopes_good : (t : Tables) (x : Instruction) (d : Depths) (hs : List Home) → RoundsGood hs → Fits d (play_in t x)
      → length (slots_of hs) ≤ d.frames → list_all scope_fits (scopes_of x hs) ≡ true
  scopes_good t (note chord lasting) d hs good fits low = refl
  scopes_good t (rest lasting) d hs good fits low = refl
  scopes_good t (send point draw) d hs good fits low = refl
  scopes_good t (assign register expr) d hs good fits low = refl
  scopes_good t (choice expr first second) d hs good fits low =
      all_both scope_fits (scopes_in first hs) (scopes_in second hs)
      (scopes_in_good t first (in_branching d) hs good fits.3 low) (scopes_in_good t second (in_branching d) hs good fits.4 low)
  scopes_good t (loop count body) d hs good fits low =
      and_from (scope_fits (slots_of (loop_frame ∷ hs))) (list_all scope_fits (scopes_in body (loop_frame ∷ hs)))
      (scope_good (loop_frame ∷ hs) good (omega (arith, low, fits.2)))
      (scopes_in_good t body (in_loop (rounds_of t count) d) (loop_frame ∷ hs) good fits.3 (omega (arith, low)))
  scopes_good t (phrase body) d hs good fits low = scopes_in_good t body (in_one d) hs good fits low
  scopes_good t (par arms) d hs good fits low = refl
  scopes_good t (warp number body) d hs good fits low = scopes_in_good t body (deeper_warp d) hs good fits.1 low
  scopes_good t (channel number body) d hs good fits low = scopes_in_good t body (in_one d) hs good fits.1 low
  scopes_good t (steady quality entry body) d hs good fits low =
      scopes_in_good t body (in_one d) (list_of_one quality entry ∷ hs) good fits.1 low
  scopes_good t (under quality list body) d hs good fits low =
      scopes_in_good t body (in_list quality d) (list_frame quality list ∷ hs) good fits.3 (omega (arith, low))

  -- those of statements in turn
  scopes_in_good : (t : Tables) (b : Block) (d : Depths) (hs : List Home) → RoundsGood hs → FitsIn d (passage_in t b)
      → length (slots_of hs) ≤ d.frames → list_all scope_fits (scopes_in b hs) ≡ true
  scopes_in_good t done d hs good fits low = refl
  scopes_in_good t (item spot x more) d hs good fits low =
      all_both scope_fits (scopes_of x hs) (scopes_in more hs) (scopes_good t x d hs good fits.0 low)
      (scopes_in_good t more d hs good fits.1 low)

-- ---- programs

-- lists that are open where a process starts are there
cycles_there : (t : Tables) (hs : List Home) → HomesGood t hs
    → list_all (λ c. nat_lt c (length t.lists)) (cycles_of hs) ≡ true
cycles_there t [] good = refl
cycles_there t (loop_frame ∷ hs) good = cycles_there t hs good
cycles_there t (loop_round j ∷ hs) good = cycles_there t hs good.1
cycles_there t (list_frame q l ∷ hs) good =
    all_more (λ c. nat_lt c (length t.lists)) (cycles_of hs) l (cycles_there t hs good.1)
    (lt-ltb l (length t.lists) good.0)
cycles_there t (list_of_one q v ∷ hs) good = cycles_there t hs good.1

-- no more than frames
cycles_few : (hs : List Home) → length (cycles_of hs) ≤ frames_of hs
cycles_few [] = omega arith
cycles_few (loop_frame ∷ hs) = omega (arith, cycles_few hs)
cycles_few (loop_round j ∷ hs) = cycles_few hs
cycles_few (list_frame q l ∷ hs) = omega (arith, cycles_few hs, length-append (cycles_of hs) (l ∷ []))
cycles_few (list_of_one q v ∷ hs) = cycles_few hs

-- one of two
pick : {A : Type 0} (P : A → Type 0) (b : Bool) (x y : A) → (b ≡ true → P x) → (b ≡ false → P y)
    → P (elim b as (λ _. A) [ true ↦ x | false ↦ y ])
pick P true x y first second = first refl
pick P false x y first second = second refl

module _ (t : Tables) (scopes : List (List Slot)) where
  -- the stock of the plan
  abbrev st : StockParts
  st = stock_with t scopes

  -- what is known of programs
  pub record Shaped (e : Emitting) : Type 0 where
    pub finished : list_all (program_fits st) e.finished ≡ true
    pub current : program_fits st e.current ≡ true
    pub root : (slice_index_or (whole e) 0 no_program).levels ≡ []
    pub slots : list_all scope_fits e.scopes ≡ true

  -- a program with operations more
  more_fit : (p : ProgramParts) (ops : List Op) → program_fits st p ≡ true
      → ops_fit st (length (p.ops ++ ops)) (length p.ops) ops ≡ true
      → program_fits st (record p { ops = p.ops ++ ops }) ≡ true
  more_fit p ops fits new =
      let a = ops_fit st (length p.ops) 0 p.ops in
      let b = nat_le (length p.cycles) MAX_FRAMES in
      let c = list_all (λ c. nat_lt c (length t.lists)) p.cycles in
      let d = nat_le (length p.levels) MAX_LEVELS in
      let e = list_all (λ w. nat_lt w (length t.warps)) p.levels in
      let last = and_parts (a && b && c && d) e fits in
      let fourth = and_parts (a && b && c) d last.0 in
      let third = and_parts (a && b) c fourth.0 in
      let second = and_parts a b third.0 in
      let x = ops_fit st (length (p.ops ++ ops)) 0 (p.ops ++ ops) in
      let wider : length p.ops ≤ length (p.ops ++ ops) = omega (arith, length-append p.ops ops) in
      let zero_more : length p.ops ≡ 0 + length p.ops = omega arith in
      let all = ops_both st (length (p.ops ++ ops)) 0 (length p.ops) p.ops ops refl
      (ops_wider st (length p.ops) (length (p.ops ++ ops)) 0 p.ops wider second.0)
      (subst (λ k. ops_fit st (length (p.ops ++ ops)) k ops ≡ true) zero_more new) in
      and_from (x && b && c && d) e
      (and_from (x && b && c) d (and_from (x && b) c (and_from x b all second.1) third.1) fourth.1) last.1

  -- the first program keeps its levels
  root_more : (e : Emitting) (ops : List Op) → (slice_index_or (whole e) 0 no_program).levels ≡ []
      → (slice_index_or (whole (with_ops ops e)) 0 no_program).levels ≡ []
  root_more e ops root = by_first e.finished root
    where
      by_first : (ps : List ProgramParts) → (slice_index_or (ps ++ e.current ∷ []) 0 no_program).levels ≡ []
          → (slice_index_or (ps ++ (with_ops ops e).current ∷ []) 0 no_program).levels ≡ []
      by_first [] h = h
      by_first (p ∷ ps) h = h

  -- operations more
  shaped_ops : (e : Emitting) (ops : List Op)
      → ops_fit st (length (e.current.ops ++ ops)) (length e.current.ops) ops ≡ true
      → Shaped e → Shaped (with_ops ops e)
  shaped_ops e ops new s = record {
    finished = s.finished;
    current = more_fit e.current ops s.current new;
    root = root_more e ops s.root;
    slots = s.slots;
  }

  -- scopes more
  shaped_scopes : (e : Emitting) (ss : List (List Slot)) → list_all scope_fits ss ≡ true
      → Shaped e → Shaped (with_scopes ss e)
  shaped_scopes e ss new s = record {
    finished = s.finished;
    current = s.current;
    root = s.root;
    slots = all_both scope_fits e.scopes ss s.slots new;
  }

  -- one operation that fits anywhere
  one_fits : (e : Emitting) (o : Op) → ((size operation : ℕ) → op_fits st size operation o ≡ true)
      → ops_fit st (length (e.current.ops ++ o ∷ [])) (length e.current.ops) (o ∷ []) ≡ true
  one_fits e o anywhere =
      and_from (op_fits st (length (e.current.ops ++ o ∷ [])) (length e.current.ops) o) true
      (anywhere _ _) refl

  -- a program that begins fits
  pub begun_fits : (d : Depths) (i : Inside) (ls : List OpenLevel) (qs : List ℕ) → Inner t scopes d i ls
      → program_fits st (begun i qs) ≡ true
  begun_fits d i ls qs inner =
      let b = nat_le (length (cycles_of i.homes)) MAX_FRAMES in
      let c = list_all (λ c. nat_lt c (length t.lists)) (cycles_of i.homes) in
      let e = nat_le (length (reverse i.warps)) MAX_LEVELS in
      let f = list_all (λ w. nat_lt w (length t.warps)) (reverse i.warps) in
      and_from (true && b && c && e) f
      (and_from (true && b && c) e
      (and_from (true && b) c
      (and_from true b refl (le-leb (length (cycles_of i.homes)) MAX_FRAMES
      (omega (arith, cycles_few i.homes, inner.set.frames, inner.set.few))))
      (cycles_there t i.homes inner.homes))
      (le-leb (length (reverse i.warps)) MAX_LEVELS (omega (
        arith,
        reverse_length i.warps,
        ap length inner.set.warps,
        length-map ls OpenLevel.warp,
        inner.set.levels,
        inner.set.flat,
      ))))
      (all_reverse (λ w. nat_lt w (length t.warps)) i.warps inner.warps)

  -- a statement that does not fork
  straight_shaped : (x : Instruction) (d : Depths) (i : Inside) (ls : List OpenLevel) (e : Emitting)
      → Fits d (play_in t x)
      → HasWarps t x → Inner t scopes d i ls → Prefix (straight x i e).scopes scopes → Shaped e
      → Shaped (straight x i e)
  straight_shaped x d i ls e fits warps inner pre s =
      let operation = length e.current.ops in
      let ops = emit x i operation (length e.scopes) in
      let new = scopes_of x i.homes in
      let scoped = subst (λ l. HasScopes l (length e.scopes) new) (sym pre.is)
      (has_scopes new e.scopes pre.more) in
      let long : operation + size x ≤ length (e.current.ops ++ ops) =
      omega (arith, length-append e.current.ops ops, emit_length x i operation (length e.scopes)) in
      shaped_scopes (with_ops ops e) new (scopes_good t x d i.homes (rounds_good t i.homes inner.homes) fits
      (omega (arith, inner.set.loops, inner.set.low)))
      (shaped_ops e ops (emit_fits t scopes x d i ls operation (length e.scopes)
      (length (e.current.ops ++ ops)) fits warps inner scoped long) s)

  -- rounds that are written out
  unrolled_shaped : (round : ℕ → Emitting → Emitting) (most : ℕ)
      → ((j : ℕ) (e : Emitting) (k : ℕ) → Prefix e.scopes (unrolled round k j e).scopes)
      → ((j : ℕ) (e : Emitting) → j < most → Prefix (round j e).scopes scopes → Shaped e → Shaped (round j e))
      → (k j : ℕ) (e : Emitting) → j + k ≤ most → Prefix (unrolled round k j e).scopes scopes → Shaped e
      → Shaped (unrolled round k j e)
  unrolled_shaped round most grows each zero j e few pre s = s
  unrolled_shaped round most grows each (suc k) j e few pre s =
      let f = round j e in
      unrolled_shaped round most grows each k (j + 1) f (omega (arith, few)) pre
      (each j e (omega (arith, few)) (prefix_then f.scopes (unrolled round k (j + 1) f).scopes scopes
      (grows (j + 1) f k) pre) s)

  -- what is known of programs that are all whole
  pub record ShapedAll (ps : List ProgramParts) (ss : List (List Slot)) : Type 0 where
    pub programs : list_all (program_fits st) ps ≡ true
    pub some : 0 < length ps
    pub root : (slice_index_or ps 0 no_program).levels ≡ []
    pub slots : list_all scope_fits ss ≡ true

  -- all programs, once the one that grows is whole
  pub closed_shape : (e : Emitting) → Shaped e → ShapedAll (whole e) e.scopes
  closed_shape e s = record {
    programs = all_more (program_fits st) e.finished e.current s.finished s.current;
    some = omega (arith, length-append e.finished (e.current ∷ []));
    root = s.root;
    slots = s.slots;
  }

  -- a program behind them
  fresh_shape : (d : Depths) (i : Inside) (ls : List OpenLevel) (qs : List ℕ) (ps : List ProgramParts)
      (ss : List (List Slot))
      → Inner t scopes d i ls → ShapedAll ps ss
      → Shaped (record { finished = ps; current = begun i qs; scopes = ss })
  fresh_shape d i ls qs ps ss inner s = record {
    finished = s.programs;
    current = begun_fits d i ls qs inner;
    root = ap ProgramParts.levels (at_first ps (begun i qs ∷ []) 0 no_program s.some) ∙ s.root;
    slots = s.slots;
  }

  mutual
    -- a statement
    pub expand_shaped : (x : Instruction) (d : Depths) (i : Inside) (ls : List OpenLevel) (e : Emitting)
        → Fits d (play_in t x)
        → HasWarps t x → Inner t scopes d i ls → Prefix (expand x i e).scopes scopes → Shaped e
        → Shaped (expand x i e)
    expand_shaped (note chord lasting) d i ls e fits warps inner pre s = straight_shaped
        (note chord lasting) d i ls e fits warps inner pre s
    expand_shaped (rest lasting) d i ls e fits warps inner pre s = straight_shaped (rest lasting) d i ls
        e fits warps inner pre s
    expand_shaped (send p x) d i ls e fits warps inner pre s = straight_shaped (send p x) d i ls e fits
        warps inner pre s
    expand_shaped (assign register expr) d i ls e fits warps inner pre s =
        straight_shaped (assign register expr) d i ls e fits warps inner pre s
    expand_shaped (choice expr first second) d i ls e fits warps inner pre s =
        straight_shaped (choice expr first second) d i ls e fits warps inner pre s
    expand_shaped (loop (count.Drawn expr most) body) d i ls e fits warps inner pre s =
        let x = loop (count.Drawn expr most) body in
        let alone = sym (forks_in_alike t body) ∙ fits.1 in
        pick (λ f. Prefix f.scopes scopes → Shaped f) (forks_in body) _ (straight x i e)
        (λ is. absurd (true≢false (sym is ∙ alone)))
        (λ _ own. straight_shaped x d i ls e fits warps inner own s) pre
    expand_shaped (loop (count.Fixed k) body) d i ls e fits warps inner pre s =
        let hs = i.homes in
        let x = loop (count.Fixed k) body in
        let c = rounds_of t (count.Fixed k) in
        let round : ℕ → Emitting → Emitting = λ j f. expand_in body
        (in_scope (loop_round j) (length f.scopes) i)
        (with_scopes (slots_of (loop_round j ∷ hs) ∷ []) f) in
        let grow : (j : ℕ) (f : Emitting) → Prefix f.scopes (round j f).scopes = λ j f.
        prefix_then f.scopes (f.scopes ++ slots_of (loop_round j ∷ hs) ∷ []) (round j f).scopes
        (record { more = slots_of (loop_round j ∷ hs) ∷ []; is = refl })
        (expand_in_grows body (in_scope (loop_round j) (length f.scopes) i)
        (with_scopes (slots_of (loop_round j ∷ hs) ∷ []) f)) in
        let few : 0 + k ≤ MAX_INDEX = omega (arith, leb-true k MAX_LENGTH fits.0) in
        pick (λ f. Prefix f.scopes scopes → Shaped f) (forks_in body) (unrolled round k 0 e) (straight x i e)
        (λ is own. unrolled_shaped round MAX_INDEX (λ j f n. unrolled_grows round grow n j f)
        (λ j f small own_pre shaped.
        (let deeper = in_scope (loop_round j) (length f.scopes) i in
        let own_slots = slots_of (loop_round j ∷ hs) in
        let f1 = with_scopes (own_slots ∷ []) f in
        let first = prefix_then f1.scopes (round j f).scopes scopes (expand_in_grows body deeper f1)
        own_pre in
        let scope = (subst (λ l. HasScopes l (length f.scopes) (own_slots ∷ [])) (sym first.is)
        (has_scopes (own_slots ∷ []) f.scopes first.more)).0 in
        let good : HomesGood t (loop_round j ∷ hs) = (small, inner.homes) in
        expand_in_shaped body (in_loop c d) deeper ls f1 fits.3 warps
        (record {
          set = in_round_more scopes d i ls c j (length f.scopes) fits.2 scope inner.set;
          there = loop_scope_there t scopes (length f.scopes) _ (slots_of hs) scope;
          homes = good;
          warps = inner.warps;
        })
        own_pre
        (shaped_scopes f (own_slots ∷ [])
        (and_from (scope_fits own_slots) true
        (scope_good (loop_round j ∷ hs) (rounds_good t (loop_round j ∷ hs) good)
        (omega (arith, inner.set.loops, inner.set.low, fits.2))) refl) shaped)))
        k 0 e few own s)
        (λ _ own. straight_shaped x d i ls e fits warps inner own s) pre
    expand_shaped (phrase body) d i ls e fits warps inner pre s =
        expand_in_shaped body (in_one d) i ls e fits warps
        (record {
          set = in_block_more scopes d i ls inner.set;
          there = inner.there;
          homes = inner.homes;
          warps = inner.warps;
        }) pre s
    expand_shaped (par arms) d i ls e fits warps inner pre s =
        let inside : Inner t scopes (in_fork d) i ls = record {
          set = in_block_more scopes (in_one d) i ls (in_block_more scopes d i ls inner.set);
          there = inner.there;
          homes = inner.homes;
          warps = inner.warps;
        } in
        let j = expand_arms arms i (length e.finished) (whole e) e.scopes in
        fresh_shape d i ls j.lasts j.programs j.scopes inner
        (expand_arms_shaped arms (in_fork d) i ls (length e.finished) (whole e) e.scopes fits.1 warps
        inside pre (closed_shape e s))
    expand_shaped (warp number body) d i ls e fits warps inner pre s =
        let l : OpenLevel = record { warp = number; parts = parts_in t number; origin = 0 } in
        let deeper = in_warp number i in
        let there = lt-ltb number (length t.warps) warps.0 in
        let inside : Inner t scopes (deeper_warp d) deeper (l ∷ ls) = record {
          set = in_level_more scopes d i ls l fits.0 inner.set;
          there = inner.there;
          homes = inner.homes;
          warps = and_from (nat_lt number (length t.warps))
              (list_all (λ w. nat_lt w (length t.warps)) i.warps) there inner.warps;
        } in
        let e1 = with_ops (op.Enter number ∷ []) e in
        let s1 = shaped_ops e (op.Enter number ∷ []) (one_fits e (op.Enter number) (λ _ _. there)) s in
        let e2 = expand_in body deeper e1 in
        shaped_ops e2 (op.Leave ∷ []) (one_fits e2 op.Leave (λ _ _. refl))
        (expand_in_shaped body (deeper_warp d) deeper (l ∷ ls) e1 fits.1 warps.1 inside pre s1)
    expand_shaped (channel number body) d i ls e fits warps inner pre s =
        expand_in_shaped body (in_one d) (record i { channel = number }) ls e fits.1 warps
        (record {
          set = on_channel scopes d i ls number fits.0 inner.set;
          there = inner.there;
          homes = inner.homes;
          warps = inner.warps;
        }) pre s
    expand_shaped (steady quality entry body) d i ls e fits warps inner pre s =
        expand_in_shaped body (in_one d) (at_home (list_of_one quality entry) i) ls e fits.1 warps
        (record {
          set = in_one_entry scopes d i ls quality entry inner.set;
          there = inner.there;
          homes = (fits.0, inner.homes);
          warps = inner.warps;
        })
        pre s
    expand_shaped (under quality list body) d i ls e fits warps inner pre s =
        let there = in_table (has_up_to MAX_ENTRIES) t.lists list [] refl fits.0 in
        let deeper = at_home (list_frame quality list) i in
        let inside : Inner t scopes (in_list quality d) deeper ls = record {
          set = in_list_more scopes d i ls quality list fits.2 inner.set;
          there = inner.there;
          homes = (there, inner.homes);
          warps = inner.warps;
        } in
        let e1 = with_ops (op.Begin list ∷ []) e in
        let s1 = shaped_ops e (op.Begin list ∷ [])
        (one_fits e (op.Begin list) (λ _ _. lt-ltb list (length t.lists) there)) s in
        let e2 = expand_in body deeper e1 in
        shaped_ops e2 (op.Close ∷ []) (one_fits e2 op.Close (λ _ _. refl))
        (expand_in_shaped body (in_list quality d) deeper ls e1 fits.3 warps inside pre s1)

    -- statements in turn
    pub expand_in_shaped : (b : Block) (d : Depths) (i : Inside) (ls : List OpenLevel) (e : Emitting)
        → FitsIn d (passage_in t b)
        → HasWarpsIn t b → Inner t scopes d i ls → Prefix (expand_in b i e).scopes scopes → Shaped e
        → Shaped (expand_in b i e)
    expand_in_shaped done d i ls e fits warps inner pre s = s
    expand_in_shaped (item spot x more) d i ls e fits warps inner pre s =
        let f = expand x i e in
        expand_in_shaped more d i ls f fits.1 warps.1 inner pre
        (expand_shaped x d i ls e fits.0 warps.0 inner
        (prefix_then f.scopes (expand_in more i f).scopes scopes (expand_in_grows more i f) pre) s)

    -- branches in turn
    pub expand_arms_shaped : (arms : Arms) (d : Depths) (i : Inside) (ls : List OpenLevel) (k : ℕ)
        (ps : List ProgramParts) (ss : List (List Slot))
        → FitsBeside d (fork_in t arms) → HasWarpsAmong t arms → Inner t scopes d i ls
        → Prefix (expand_arms arms i k ps ss).scopes scopes
        → ShapedAll ps ss → ShapedAll (expand_arms arms i k ps ss).programs
        (expand_arms arms i k ps ss).scopes
    expand_arms_shaped joined d i ls k ps ss fits warps inner pre s = s
    expand_arms_shaped (arm body arms) d i ls k ps ss fits warps inner pre s =
        let e0 : Emitting = record { finished = ps; current = begun i (k ∷ []); scopes = ss } in
        let e1 = expand_in body i e0 in
        let j = expand_arms arms i k (whole e1) e1.scopes in
        expand_arms_shaped arms d i ls k (whole e1) e1.scopes fits.1 warps.1 inner pre
        (closed_shape e1 (expand_in_shaped body d i ls e0 fits.0 warps.0 inner
        (prefix_then e1.scopes j.scopes scopes (expand_arms_grow arms i k (whole e1) e1.scopes) pre)
        (fresh_shape d i ls (k ∷ []) ps ss inner s)))
