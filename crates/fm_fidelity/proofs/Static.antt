-- The numbers of the operations of a statement that does not fork fit.
use Rattle.std.proofs.Common.{◌≡◌, ℕ, suc, ◌+◌, ◌-◌, ◌/◌, ◌<◌, ◌≤◌, Bool, true, false, List, [], ◌∷◌, ◌++◌, map, length, refl, sym, ap, ◌∙◌, subst, arith, ⊎_elim, ℤ, pos, true≢false, zero}
use Rattle.std.specs.Prelude.{slice_index_or, neg_ℤ, nat_le, nat_lt, ◌&&◌, if◌then◌else◌}
use Rattle.std.specs.List.{list_all}
use Rattle.std.proofs.lemmas.Bool.{and_parts, and_from, cases_lt, lt-ltb, le-leb, leb-true}
use Rattle.fm_value.specs.declared.registers.TheConstants.{REGISTERS}
use Rattle.fm_value.specs.Value.{is_expr}
use Rattle.fm_pattern.specs.declared.cursor.TheConstants.{MAX_ENTRIES}
use Rattle.fm_msg.specs.declared.msg.TheConstants.{CHANNELS, DATA_VALUES, BEND_VALUES}
use Rattle.fm_program.specs.declared.op.TheConstants.{MAX_INDEX, MAX_LENGTH, MAX_PERCENT, MAX_PITCHES}
use Rattle.fm_program.specs.declared.op.Draw.{Draw}
use Rattle.fm_program.specs.declared.op.Draw.TheVariants as draw
use Rattle.fm_program.specs.declared.op.Count.{Count}
use Rattle.fm_program.specs.declared.op.Count.TheVariants as count
use Rattle.fm_program.specs.declared.op.Point.{Point}
use Rattle.fm_program.specs.declared.op.Point.TheVariants as point
use Rattle.fm_program.specs.declared.op.Turn.{Turn}
use Rattle.fm_program.specs.declared.op.Turn.TheVariants as turn
use Rattle.fm_program.specs.declared.op.Slot.{Slot}
use Rattle.fm_program.specs.declared.op.Op.{Op}
use Rattle.fm_program.specs.declared.op.Op.TheVariants as op
use Rattle.fm_program.specs.Parts.{StockParts}
use Rattle.fm_program.specs.Fit.{has_up_to, expr_fits, draw_fits, span_fits, count_fits, turn_fits, point_fits, loops_of, goes_forward, op_fits, ops_fit}
use Rattle.fm_meaning.specs.Rules.{usual_gate, usual_velocity}
use Rattle.fm_meaning.specs.Resolved.{Quality, duration, articulation, loudness}
use Rattle.fm_meaning.specs.State.{same_quality}
use Rattle.fm_meaning.specs.Places.{Depths, in_one, in_branching, in_loop, in_warp as deeper_warp, in_list}
use Rattle.fm_program.specs.State.{OpenLevel}
use Rattle.fm_expansion.specs.Outline.{Tables, stock_with, expr_in, chord_in, parts_in, Lasting, ticks, computed, beat, source_of, length_of, rounds_of, kind_of, Instruction, note, rest, send, assign, choice, loop, phrase, par, warp, channel, steady, under, Block, done, item, play_in, passage_in}
use Rattle.fm_expansion.specs.Homes.{Home, loop_frame, loop_round, list_frame, list_of_one, turn_for, span_at, span_for, slots_of, Inside, at_home, in_scope, in_warp}
use Rattle.fm_expansion.specs.Emission.{size, size_in, scopes_of, scopes_in, emit, emit_in}
use Rattle.fm_expansion.proofs.Frames.{least_entry, most_entry, entry_good}
use Rattle.fm_fidelity.proofs.Fits.{source_good, length_good, count_good, point_good, Fits, FitsIn}
use Rattle.fm_expansion.proofs.Settings.{HasScopes, scopes_front, scopes_back, Setting, in_block_more, in_choice_more, on_channel, in_one_entry, in_list_more, in_frame_more, in_level_more}
use Rattle.fm_expansion.proofs.Lengths.{emit_length, emit_in_length}
use Rattle.fm_expansion.proofs.Resolving.{HasWarps, HasWarpsIn}

-- ---- numbers of tables

-- behind a list stands the default
behind_list : {A : Type 0} (xs : List A) (n : ℕ) (d : A) → length xs ≤ n → slice_index_or xs n d ≡ d
behind_list [] zero d past = refl
behind_list [] (suc n) d past = refl
behind_list (x ∷ xs) zero d past = absurd (omega (arith, past))
behind_list (x ∷ xs) (suc n) d past = behind_list xs n d (omega (arith, past))

-- what holds of an entry and not of the default has a number of the table
pub in_table : {A : Type 0} (f : A → Bool) (xs : List A) (n : ℕ) (d : A) → f d ≡ false
    → f (slice_index_or xs n d) ≡ true → n < length xs
in_table f xs n d not_default holds = ⊎_elim
    (λ lt. lt)
    (λ le. absurd (true≢false (sym holds ∙ ap f (behind_list xs n d le) ∙ not_default)))
    (cases_lt n (length xs))

-- ---- homes

-- rounds below the limit, lists of the table and entries in range
abbrev pub HomesGood : Tables → List Home → Type 0
HomesGood t [] = Unit {0}
HomesGood t (loop_frame ∷ hs) = HomesGood t hs
HomesGood t (loop_round j ∷ hs) = (j < MAX_INDEX) × HomesGood t hs
HomesGood t (list_frame q l ∷ hs) = (l < length t.lists) × HomesGood t hs
HomesGood t (list_of_one q v ∷ hs) = (entry_good q v ≡ true) × HomesGood t hs

-- by whether a list is of the quality
turn_good_by : (least most : ℕ) (b : Bool) (x y : Turn) → (b ≡ true → turn_fits least most x ≡ true)
    → turn_fits least most y ≡ true
    → turn_fits least most (if b then x else y) ≡ true
turn_good_by least most true x y first second = first refl
turn_good_by least most false x y first second = second

-- an entry of the same quality
same_entry : (q p : Quality) (v : ℕ) → same_quality q p ≡ true → entry_good p v ≡ true → entry_good q v ≡ true
same_entry duration duration v same good = good
same_entry articulation articulation v same good = good
same_entry loudness loudness v same good = good
same_entry duration articulation v same good = absurd (true≢false (sym same))
same_entry duration loudness v same good = absurd (true≢false (sym same))
same_entry articulation duration v same good = absurd (true≢false (sym same))
same_entry articulation loudness v same good = absurd (true≢false (sym same))
same_entry loudness duration v same good = absurd (true≢false (sym same))
same_entry loudness articulation v same good = absurd (true≢false (sym same))

-- a turn of these homes fits
turn_good : (t : Tables) (q : Quality) (otherwise : ℕ) (hs : List Home) → HomesGood t hs
    → entry_good q otherwise ≡ true
    → turn_fits (least_entry q) (most_entry q) (turn_for q otherwise hs) ≡ true
turn_good t q otherwise [] good usual = usual
turn_good t q otherwise (loop_frame ∷ hs) good usual = turn_good t q otherwise hs good usual
turn_good t q otherwise (loop_round j ∷ hs) good usual = turn_good t q otherwise hs good.1 usual
turn_good t q otherwise (list_frame p l ∷ hs) good usual =
    turn_good_by (least_entry q) (most_entry q) (same_quality q p) _ (turn_for q otherwise hs) (λ is. refl)
    (turn_good t q otherwise hs good.1 usual)
turn_good t q otherwise (list_of_one p v ∷ hs) good usual =
    turn_good_by (least_entry q) (most_entry q) (same_quality q p) (turn.Steady v) (turn_for q otherwise hs)
    (λ is. same_entry q p v is good.0) (turn_good t q otherwise hs good.1 usual)

-- what is open round a statement, with numbers that are there
pub record Inner (t : Tables) (scopes : List (List Slot)) (d : Depths) (i : Inside)
    (ls : List OpenLevel) : Type 0 where
  pub set : Setting scopes d i ls
  pub there : i.scope < length scopes
  pub homes : HomesGood t i.homes
  pub warps : list_all (λ w. nat_lt w (length t.warps)) i.warps ≡ true

-- ---- operations behind others

-- an operation is as far in a longer program
forward_wider : (size more operation target : ℕ) → size ≤ more → goes_forward size operation target ≡ true
    → goes_forward more operation target ≡ true
forward_wider size more operation target wider h =
    let both = and_parts (nat_lt operation target) (nat_le target size) h in
    and_from (nat_lt operation target) (nat_le target more) both.0
    (le-leb target more (omega (arith, leb-true target size both.1, wider)))

-- by the last of two tests
last_wider : (a b c : Bool) → (b ≡ true → c ≡ true) → a && b ≡ true → a && c ≡ true
last_wider a b c on h = let both = and_parts a b h in and_from a c both.0 (on both.1)

-- an operation fits in a longer program
op_wider : (t : StockParts) (size more operation : ℕ) (o : Op) → size ≤ more → op_fits t size operation o ≡ true
    → op_fits t more operation o ≡ true
op_wider t size more operation (op.Note c d ch gate loud k) wider h = h
op_wider t size more operation (op.Rest d k) wider h = h
op_wider t size more operation (op.Send p ch d k) wider h = h
op_wider t size more operation (op.Set r e k) wider h = h
op_wider t size more operation (op.Test e k past) wider h =
    last_wider (nat_lt k (length t.scopes) && expr_fits t (loops_of t k) e)
    (goes_forward size operation past) (goes_forward more operation past)
    (forward_wider size more operation past wider) h
op_wider t size more operation (op.Jump to) wider h = forward_wider size more operation to wider h
op_wider t size more operation (op.Loop n k past) wider h =
    last_wider (nat_lt k (length t.scopes) && count_fits t (loops_of t k) n)
    (goes_forward size operation past) (goes_forward more operation past)
    (forward_wider size more operation past wider) h
op_wider t size more operation (op.Again back) wider h = h
op_wider t size more operation (op.Begin l) wider h = h
op_wider t size more operation op.Close wider h = h
op_wider t size more operation (op.Enter w) wider h = h
op_wider t size more operation op.Leave wider h = h

-- so do operations in turn
pub ops_wider : (t : StockParts) (size more operation : ℕ) (os : List Op) → size ≤ more
    → ops_fit t size operation os ≡ true
    → ops_fit t more operation os ≡ true
ops_wider t size more operation [] wider h = refl
ops_wider t size more operation (o ∷ os) wider h =
    let both = and_parts (op_fits t size operation o) (ops_fit t size (operation + 1) os) h in
    and_from (op_fits t more operation o) (ops_fit t more (operation + 1) os)
    (op_wider t size more operation o wider both.0)
    (ops_wider t size more (operation + 1) os wider both.1)

-- operations behind others
pub ops_both : (t : StockParts) (size operation n : ℕ) (a b : List Op) → length a ≡ n
    → ops_fit t size operation a ≡ true
    → ops_fit t size (operation + n) b ≡ true → ops_fit t size operation (a ++ b) ≡ true
ops_both t size operation n [] b long first second = subst (λ p. ops_fit t size p b ≡ true)
    (omega (arith, long)) second
ops_both t size operation n (o ∷ a) b long first second =
    let both = and_parts (op_fits t size operation o) (ops_fit t size (operation + 1) a) first in
    let e : operation + n ≡ operation + 1 + length a = omega (arith, long) in
    and_from (op_fits t size operation o) (ops_fit t size (operation + 1) (a ++ b)) both.0
    (ops_both t size (operation + 1) (length a) a b refl both.1 (subst (λ p. ops_fit t size p b ≡ true) e second))

-- ---- operations

module _ (t : Tables) (scopes : List (List Slot)) where
  -- the stock of the plan
  abbrev st : StockParts
  st = stock_with t scopes

  -- an expression of the table
  expr_there : (loops e : ℕ) → is_expr loops (expr_in t e) ≡ true → expr_fits st loops e ≡ true
  expr_there loops e good =
      and_from (nat_lt e (length t.exprs)) (is_expr loops (expr_in t e))
      (lt-ltb e (length t.exprs) (in_table (is_expr loops) t.exprs e [] refl good)) good

  -- a number of a message
  draw_there : (loops : ℕ) (least most : ℤ) (x : Draw) → source_good loops least most (source_of t x) ≡ true
      → draw_fits st loops least most x ≡ true
  draw_there loops least most (draw.Fixed v) good = good
  draw_there loops least most (draw.Drawn e) good = expr_there loops e good

  -- the numbers of a chord
  draws_there : (loops : ℕ) (least most : ℤ) (xs : List Draw)
      → list_all (source_good loops least most) (map (source_of t) xs) ≡ true
      → list_all (draw_fits st loops least most) xs ≡ true
  draws_there loops least most [] good = refl
  draws_there loops least most (x ∷ xs) good =
      let both = and_parts (source_good loops least most (source_of t x))
      (list_all (source_good loops least most) (map (source_of t) xs)) good in
      and_from (draw_fits st loops least most x) (list_all (draw_fits st loops least most) xs)
      (draw_there loops least most x both.0) (draws_there loops least most xs both.1)

  -- a turn as a duration
  span_turn_good : (loops : ℕ) (x : Turn) → turn_fits 0 MAX_LENGTH x ≡ true
      → span_fits st loops (span_at x) ≡ true
  span_turn_good loops (turn.Steady v) good = (and_parts (nat_le 0 v) (nat_le v MAX_LENGTH) good).1
  span_turn_good loops (turn.Cycle f) good = refl

  -- a duration
  span_there : (loops : ℕ) (l : Lasting) (hs : List Home) → HomesGood t hs
      → length_good loops (length_of t l) ≡ true
      → span_fits st loops (span_for l hs) ≡ true
  span_there loops (ticks n) hs homes good = good
  span_there loops (computed e most) hs homes good =
      let both = and_parts (nat_le most MAX_LENGTH) (is_expr loops (expr_in t e)) good in
      and_from (nat_le most MAX_LENGTH) (expr_fits st loops e) both.0 (expr_there loops e both.1)
  span_there loops beat hs homes good = span_turn_good loops (turn_for duration 0 hs)
      (turn_good t duration 0 hs homes refl)

  -- a count
  count_there : (loops : ℕ) (c : Count) → count_good loops (rounds_of t c) ≡ true
      → count_fits st loops c ≡ true
  count_there loops (count.Fixed n) good = good
  count_there loops (count.Drawn e most) good =
      let both = and_parts (nat_le most MAX_LENGTH) (is_expr loops (expr_in t e)) good in
      and_from (nat_le most MAX_LENGTH) (expr_fits st loops e) both.0 (expr_there loops e both.1)

  -- a point
  point_there : (loops : ℕ) (p : Point) (x : Draw) → point_good loops (kind_of p) (source_of t x) ≡ true
      → point_fits st loops p x ≡ true
  point_there loops (point.Control c) x good =
      let both = and_parts (nat_lt c DATA_VALUES)
      (source_good loops (pos 0) (pos (DATA_VALUES - 1)) (source_of t x)) good in
      and_from (nat_lt c DATA_VALUES) (draw_fits st loops (pos 0) (pos (DATA_VALUES - 1)) x) both.0
      (draw_there loops (pos 0) (pos (DATA_VALUES - 1)) x both.1)
  point_there loops point.Program x good = draw_there loops (pos 0) (pos (DATA_VALUES - 1)) x good
  point_there loops point.Bend x good = draw_there loops (neg_ℤ (pos (BEND_VALUES / 2)))
      (pos (BEND_VALUES / 2 - 1)) x good

  -- as many loops as are open
  loops_open : (d : Depths) (i : Inside) (ls : List OpenLevel) → Inner t scopes d i ls
      → loops_of st i.scope ≡ d.loops
  loops_open d i ls inner = ap length inner.set.scope ∙ inner.set.loops

  -- a scope that is there
  scope_there : (d : Depths) (i : Inside) (ls : List OpenLevel) → Inner t scopes d i ls
      → nat_lt i.scope (length scopes) ≡ true
  scope_there d i ls inner = lt-ltb i.scope (length scopes) inner.there

  -- a scope with a loop is there
  pub loop_scope_there : (k : ℕ) (s : Slot) (ss : List Slot) → slice_index_or scopes k [] ≡ s ∷ ss
      → k < length scopes
  loop_scope_there k s ss is = in_table is_some_scope scopes k [] refl (ap is_some_scope is)
    where
      is_some_scope : List Slot → Bool
      is_some_scope [] = false
      is_some_scope (x ∷ xs) = true

  mutual
    -- a statement
    pub emit_fits : (x : Instruction) (d : Depths) (i : Inside) (ls : List OpenLevel)
        (operation next whole : ℕ) → Fits d (play_in t x)
        → HasWarps t x → Inner t scopes d i ls → HasScopes scopes next (scopes_of x i.homes)
        → operation + size x ≤ whole
        → ops_fit st whole operation (emit x i operation next) ≡ true
    emit_fits (note chord lasting) d i ls operation next whole fits warps inner scoped room =
        let loops = loops_of st i.scope in
        let same = sym (loops_open d i ls inner) in
        let pitches = subst (λ k. list_all (draw_fits st k (pos 0) (pos (DATA_VALUES - 1)))
        (chord_in t chord) ≡ true) same
        (draws_there d.loops (pos 0) (pos (DATA_VALUES - 1)) (chord_in t chord) fits.1) in
        let span = subst (λ k. span_fits st k (span_for lasting i.homes) ≡ true) same
        (span_there d.loops lasting i.homes inner.homes fits.2) in
        let chords = lt-ltb chord (length t.chords)
        (in_table (λ c. has_up_to MAX_PITCHES (map (source_of t) c)) t.chords chord [] refl fits.0) in
        let a = nat_lt chord (length t.chords) in
        let b = nat_lt i.scope (length scopes) in
        let c = list_all (draw_fits st loops (pos 0) (pos (DATA_VALUES - 1))) (chord_in t chord) in
        let e = span_fits st loops (span_for lasting i.homes) in
        let f = nat_lt i.channel CHANNELS in
        let gate = turn_for articulation usual_gate i.homes in
        let loud = turn_for loudness usual_velocity i.homes in
        and_from (a && b && c && e && f && turn_fits 0 MAX_PERCENT gate && turn_fits 1 (DATA_VALUES - 1)
        loud) true
        (and_from (a && b && c && e && f && turn_fits 0 MAX_PERCENT gate) (turn_fits 1 (DATA_VALUES - 1) loud)
        (and_from (a && b && c && e && f) (turn_fits 0 MAX_PERCENT gate)
        (and_from (a && b && c && e) f
        (and_from (a && b && c) e (and_from (a && b) c (and_from a b chords (scope_there d i ls inner))
        pitches) span)
        (lt-ltb i.channel CHANNELS inner.set.channel))
        (turn_good t articulation usual_gate i.homes inner.homes refl))
        (turn_good t loudness usual_velocity i.homes inner.homes refl)) refl
    emit_fits (rest lasting) d i ls operation next whole fits warps inner scoped room =
        let loops = loops_of st i.scope in
        let span = subst (λ k. span_fits st k (span_for lasting i.homes) ≡ true)
        (sym (loops_open d i ls inner))
        (span_there d.loops lasting i.homes inner.homes fits) in
        and_from (nat_lt i.scope (length scopes) && span_fits st loops (span_for lasting i.homes)) true
        (and_from (nat_lt i.scope (length scopes)) (span_fits st loops (span_for lasting i.homes))
        (scope_there d i ls inner) span) refl
    emit_fits (send p x) d i ls operation next whole fits warps inner scoped room =
        let loops = loops_of st i.scope in
        let sent = subst (λ k. point_fits st k p x ≡ true) (sym (loops_open d i ls inner))
        (point_there d.loops p x fits) in
        let a = nat_lt i.scope (length scopes) in
        let b = nat_lt i.channel CHANNELS in
        and_from (a && b && point_fits st loops p x) true
        (and_from (a && b) (point_fits st loops p x)
        (and_from a b (scope_there d i ls inner) (lt-ltb i.channel CHANNELS inner.set.channel)) sent) refl
    emit_fits (assign register expr) d i ls operation next whole fits warps inner scoped room =
        let loops = loops_of st i.scope in
        let own = subst (λ k. expr_fits st k expr ≡ true) (sym (loops_open d i ls inner))
        (expr_there d.loops expr fits.1) in
        let a = nat_lt i.scope (length scopes) in
        let b = nat_lt register REGISTERS in
        and_from (a && b && expr_fits st loops expr) true
        (and_from (a && b) (expr_fits st loops expr)
        (and_from a b (scope_there d i ls inner) (lt-ltb register REGISTERS fits.0)) own) refl
    emit_fits (choice expr first second) d i ls operation next whole fits warps inner scoped room =
        let loops = loops_of st i.scope in
        let own = subst (λ k. expr_fits st k expr ≡ true) (sym (loops_open d i ls inner))
        (expr_there d.loops expr fits.0) in
        let middle = operation + size_in first + 2 in
        let out = middle + size_in second in
        let later = next + length (scopes_in first i.homes) in
        let ops1 = emit_in first i (operation + 1) next in
        let ops2 = emit_in second i middle later in
        let inside : Inner t scopes (in_branching d) i ls = record {
          set = in_choice_more scopes d i ls inner.set;
          there = inner.there;
          homes = inner.homes;
          warps = inner.warps;
        } in
        let a = nat_lt i.scope (length scopes) && expr_fits st loops expr in
        let forward = and_from (nat_lt operation middle) (nat_le middle whole) (lt-ltb operation middle (omega arith))
        (le-leb middle whole (omega (arith, room))) in
        let test = and_from a (goes_forward whole operation middle)
        (and_from (nat_lt i.scope (length scopes)) (expr_fits st loops expr)
        (scope_there d i ls inner) own) forward in
        let one = emit_in_fits first (in_branching d) i ls (operation + 1) next whole fits.3 warps.0 inside
        (scopes_front scopes next (scopes_in first i.homes) (scopes_in second i.homes) scoped)
        (omega (arith, room)) in
        let two = emit_in_fits second (in_branching d) i ls middle later whole fits.4 warps.1 inside
        (scopes_back scopes next (scopes_in first i.homes) (scopes_in second i.homes) scoped)
        (omega (arith, room)) in
        let at_middle : middle ≡ operation + 1 + size_in first + 1 = omega arith in
        let leap = and_from (nat_lt (operation + 1 + size_in first) out) (nat_le out whole)
        (lt-ltb (operation + 1 + size_in first) out (omega arith)) (le-leb out whole (omega (arith, room))) in
        let rest_fits = and_from (goes_forward whole (operation + 1 + size_in first) out)
        (ops_fit st whole (operation + 1 + size_in first + 1) ops2) leap
        (subst (λ q. ops_fit st whole q ops2 ≡ true) at_middle two) in
        and_from (op_fits st whole operation (op.Test expr i.scope middle))
        (ops_fit st whole (operation + 1) (ops1 ++ op.Jump out ∷ ops2)) test
        (ops_both st whole (operation + 1) (size_in first) ops1 (op.Jump out ∷ ops2)
        (emit_in_length first i (operation + 1) next) one rest_fits)
    emit_fits (loop c body) d i ls operation next whole fits warps inner scoped room =
        let loops = loops_of st i.scope in
        let own = subst (λ k. count_fits st k c ≡ true) (sym (loops_open d i ls inner))
        (count_there d.loops c fits.0) in
        let past = operation + size_in body + 2 in
        let deeper = in_scope loop_frame next i in
        let inside : Inner t scopes (in_loop (rounds_of t c) d) deeper ls = record {
          set = in_frame_more scopes d i ls (rounds_of t c) next fits.2 scoped.0 inner.set;
          there = loop_scope_there next _ (slots_of i.homes) scoped.0;
          homes = inner.homes;
          warps = inner.warps;
        } in
        let ops = emit_in body deeper (operation + 1) (next + 1) in
        let a = nat_lt i.scope (length scopes) && count_fits st loops c in
        let forward = and_from (nat_lt operation past) (nat_le past whole) (lt-ltb operation past (omega arith))
        (le-leb past whole (omega (arith, room))) in
        let opens = and_from a (goes_forward whole operation past)
        (and_from (nat_lt i.scope (length scopes)) (count_fits st loops c)
        (scope_there d i ls inner) own) forward in
        let one = emit_in_fits body (in_loop (rounds_of t c) d) deeper ls (operation + 1) (next + 1) whole
        fits.3 warps inside scoped.1
        (omega (arith, room)) in
        and_from (op_fits st whole operation (op.Loop c i.scope past))
        (ops_fit st whole (operation + 1) (ops ++ op.Again (operation + 1) ∷ [])) opens
        (ops_both st whole (operation + 1) (size_in body) ops (op.Again (operation + 1) ∷ [])
        (emit_in_length body deeper (operation + 1) (next + 1)) one refl)
    emit_fits (phrase body) d i ls operation next whole fits warps inner scoped room =
        emit_in_fits body (in_one d) i ls operation next whole fits warps
        (record {
          set = in_block_more scopes d i ls inner.set;
          there = inner.there;
          homes = inner.homes;
          warps = inner.warps;
        }) scoped room
    emit_fits (par arms) d i ls operation next whole fits warps inner scoped room = refl
    emit_fits (warp number body) d i ls operation next whole fits warps inner scoped room =
        let l : OpenLevel = record { warp = number; parts = parts_in t number; origin = 0 } in
        let deeper = in_warp number i in
        let inside : Inner t scopes (deeper_warp d) deeper (l ∷ ls) = record {
          set = in_level_more scopes d i ls l fits.0 inner.set;
          there = inner.there;
          homes = inner.homes;
          warps = and_from (nat_lt number (length t.warps))
              (list_all (λ w. nat_lt w (length t.warps)) i.warps)
              (lt-ltb number (length t.warps) warps.0) inner.warps;
        } in
        let ops = emit_in body deeper (operation + 1) next in
        let one = emit_in_fits body (deeper_warp d) deeper (l ∷ ls) (operation + 1) next whole fits.1
        warps.1 inside scoped (omega (arith, room)) in
        and_from (nat_lt number (length t.warps)) (ops_fit st whole (operation + 1) (ops ++ op.Leave ∷ []))
        (lt-ltb number (length t.warps) warps.0)
        (ops_both st whole (operation + 1) (size_in body) ops (op.Leave ∷ [])
        (emit_in_length body deeper (operation + 1) next) one refl)
    emit_fits (channel number body) d i ls operation next whole fits warps inner scoped room =
        emit_in_fits body (in_one d) (record i { channel = number }) ls operation next whole fits.1 warps
        (record {
          set = on_channel scopes d i ls number fits.0 inner.set;
          there = inner.there;
          homes = inner.homes;
          warps = inner.warps;
        })
        scoped room
    emit_fits (steady quality entry body) d i ls operation next whole fits warps inner scoped room =
        emit_in_fits body (in_one d) (at_home (list_of_one quality entry) i) ls operation next whole fits.1 warps
        (record {
          set = in_one_entry scopes d i ls quality entry inner.set;
          there = inner.there;
          homes = (fits.0, inner.homes);
          warps = inner.warps;
        })
        scoped room
    emit_fits (under quality list body) d i ls operation next whole fits warps inner scoped room =
        let there = in_table (has_up_to MAX_ENTRIES) t.lists list [] refl fits.0 in
        let deeper = at_home (list_frame quality list) i in
        let inside : Inner t scopes (in_list quality d) deeper ls = record {
          set = in_list_more scopes d i ls quality list fits.2 inner.set;
          there = inner.there;
          homes = (there, inner.homes);
          warps = inner.warps;
        } in
        let ops = emit_in body deeper (operation + 1) next in
        let one = emit_in_fits body (in_list quality d) deeper ls (operation + 1) next whole fits.3 warps
        inside scoped (omega (arith, room)) in
        and_from (nat_lt list (length t.lists)) (ops_fit st whole (operation + 1) (ops ++ op.Close ∷ []))
        (lt-ltb list (length t.lists) there)
        (ops_both st whole (operation + 1) (size_in body) ops (op.Close ∷ [])
        (emit_in_length body deeper (operation + 1) next) one refl)

    -- statements in turn
    pub emit_in_fits : (b : Block) (d : Depths) (i : Inside) (ls : List OpenLevel)
        (operation next whole : ℕ) → FitsIn d (passage_in t b)
        → HasWarpsIn t b → Inner t scopes d i ls → HasScopes scopes next (scopes_in b i.homes)
        → operation + size_in b ≤ whole
        → ops_fit st whole operation (emit_in b i operation next) ≡ true
    emit_in_fits done d i ls operation next whole fits warps inner scoped room = refl
    emit_in_fits (item spot x more) d i ls operation next whole fits warps inner scoped room =
        let later = next + length (scopes_of x i.homes) in
        ops_both st whole operation (size x) (emit x i operation next) (emit_in more i (operation + size x) later)
        (emit_length x i operation next)
        (emit_fits x d i ls operation next whole fits.0 warps.0 inner
        (scopes_front scopes next (scopes_of x i.homes) (scopes_in more i.homes) scoped)
        (omega (arith, room)))
        (emit_in_fits more d i ls (operation + size x) later whole fits.1 warps.1 inner
        (scopes_back scopes next (scopes_of x i.homes) (scopes_in more i.homes) scoped) (omega (arith, room)))
