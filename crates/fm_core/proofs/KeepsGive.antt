-- Give keeps the state sound.
use Rattle.std.proofs.Math.Seq.{take-add}
use Rattle.std.proofs.lemmas.List.{append-nil}
use Rattle.std.proofs.Common.{◌≡◌, ◌≢◌, ℕ, ◌+◌, ◌-◌, ◌<◌, ◌≤◌, List, [], ◌∷◌, ◌++◌, length, get_or, set, take, drop, Bool, true, false, refl, sym, ap, ◌∙◌, subst, arith, length-append, length-set, get_or-set_same, get_or-set_other}
use Rattle.std.proofs.lemmas.Bool.{eqb-true}
use Rattle.std.proofs.lemmas.List.{length-take, length-drop, append_assoc, get_or-take, get_or-drop}
use Rattle.std.specs.Prelude.{not, ◌&&◌, nat_eq, if◌then◌else◌}
use mathlib.Core.Logic.{dite}
use native.Mathlib.Decide.{ℕ_discrete, dec_lt}
use Rattle.fm_line.proofs.Members.{same_default}
use Rattle.fm_line.specs.Line.{line, event, event_at, upper}
use Rattle.fm_line.specs.declared.line.Line.{Line}
use Rattle.fm_core.proofs.Booleans.{not_true, false_from, true_from, both, and_true, left_false, right_false, not_below, if_true, if_false, clash}
use Rattle.fm_core.proofs.Cells.{Taken, Moves, moved_sound}
use Rattle.fm_core.proofs.Elements.{take_take}
use Rattle.fm_core.proofs.GiveTests.{given_may}
use Rattle.fm_core.proofs.Given.{given_not_unborn, given_ended, given_not_held, take_le}
use Rattle.fm_core.proofs.GivenFits.{given_fits}
use Rattle.fm_core.proofs.Processes.{append_each, of_append, of_self, of_none}
use Rattle.fm_core.proofs.TagLemmas.{held_is_born}
use Rattle.fm_core.proofs.Dues.{counted_first, not_covered, covered_down}
use Rattle.fm_core.specs.Effects.{given, visits_by_give, after}
use Rattle.fm_core.specs.Floors.{within, floor_le}
use Rattle.fm_core.specs.Giving.{MayGive}
use Rattle.fm_core.specs.Invariant.{ValidSetting, Sound, NotBelow, of_process}
use Rattle.fm_core.specs.State.{Setting, State, cell, desk, visited}
use Rattle.fm_core.specs.Steps.{Allowed}
use Rattle.fm_core.specs.Tags.{is_unborn, is_held}
use Rattle.fm_core.specs.Taking.{is_due, covers, count_due, outbox}
use Rattle.fm_core.specs.declared.cell.Cell.{Cell}
use Rattle.fm_core.specs.declared.due.Due.{Due}
use Rattle.fm_core.specs.declared.due.Due.TheVariants.{Nothing, Pair, Everything}
use Rattle.fm_core.specs.declared.floor.Floor.{Floor}
use Rattle.fm_core.specs.declared.floor.Floor.TheVariants.{At, Done}
use Rattle.fm_core.specs.declared.step.Step.TheVariants.{Give}
use Rattle.fm_msg.specs.Event.{TimedMessage}

within_floor : (a : Floor) (f lead t : ℕ) → floor_le a (At f) ≡ true → within a lead t ≡ true → t ≤ f + lead
within_floor (At a) f lead t e w = let x = not_below f a (not_true _ e) in let y = not_below (a + lead) t (not_true _ w) in omega arith
within_floor Done f lead t e w = absurd (cc)

module _ (g : Setting) (h : State) (valid : ValidSetting g) (ok : Sound g h) (s p t n now : ℕ) (ends : Bool)
    (allowed : Allowed g h (Give s p t n now ends)) where
  abbrev c : Cell
  c = cell h p

  abbrev l : Line
  l = line g.lines p

  may : MayGive g h s p t n now ends
  may = given_may g h s p t n now ends allowed

  lt : p < length h.cells
  lt = may.process

  held : is_held c.tag ≡ true
  held = (both (is_held c.tag) (nat_eq c.seat s) may.held).0

  seat_is : c.seat ≡ s
  seat_is = eqb-true c.seat s (both (is_held c.tag) (nat_eq c.seat s) may.held).1

  born : is_unborn c.tag ≡ false
  born = held_is_born c.tag held

  some : t ≤ c.computed - c.taken
  some = let a = take_le g h s p in let b = may.take in omega arith

  abbrev back : Cell
  back = given g.room c t n now ends

  led_on : (f k : ℕ) → h.floor ≡ At f → k < c.computed + n → Dec (k < c.computed) → upper l k ≤ f + g.lead
  led_on f k e less (yes d) = ok.led f p k e lt d
  led_on f k e less (no d) = let i : ℕ = k - c.computed in let z : c.computed + i ≡ k = omega arith in
      let low = may.low i (omega arith) in let pace : floor_le (desk h s).paced (At f) ≡ true =
      subst (λ (x : Floor). floor_le (desk h s).paced x ≡ true) e (ok.paced s may.seat) in
      within_floor (desk h s).paced f g.lead (upper l k) pace (rw z at low)

  gives : Moves g h valid ok p back lt
  gives = record {
    fits = given_fits g h s p t n now ends may (ok.fits p lt) born some;
    born = given_not_unborn g.room (c.computed + n - (c.taken + t)) ends;
    ended_on = λ e. given_ended g.room (c.computed + n - (c.taken + t)) ends ∙ may.stays e;
    waited = λ i there. ok.after_all p i lt born there;
    seat = λ e. absurd (clash _ e (given_not_held g.room (c.computed + n - (c.taken + t)) ends));
    alone = λ q near d held_q e. absurd (clash _ e (given_not_held g.room (c.computed + n - (c.taken + t)) ends));
    clock = λ _. may.on;
    birth = λ i e. absurd (clash _ e born);
    computed = omega arith;
    led = λ f k e less. led_on f k e less (dec_lt k c.computed);
  }

  abbrev new : List TimedMessage
  new = take t (outbox l c)

  abbrev gs : List TimedMessage
  gs = h.gather ++ take t (outbox l c)

  new_is : new ≡ take t (drop c.taken l.events)
  new_is = take_take t (c.computed - c.taken) (drop c.taken l.events) some

  length_out : length (outbox l c) ≡ c.computed - c.taken
  length_out = let a = length-take (c.computed - c.taken) (drop c.taken l.events) in let b = length-drop c.taken l.events in
      let f = (ok.fits p lt).computed in omega arith

  length_new : length new ≡ t
  length_new = let a = length-take t (outbox l c) in let b = length_out in let x = some in omega arith

  -- the event i of the outbox
  out_at : (i : ℕ) (d : TimedMessage) → i < c.computed - c.taken → get_or (outbox l c) i d ≡ get_or l.events (c.taken + i) d
  out_at i d less = get_or-take (c.computed - c.taken) (drop c.taken l.events) i d less ∙ get_or-drop c.taken l.events i d

  out_event : (i : ℕ) → i < c.computed - c.taken → get_or (outbox l c) i (event_at 0) ≡ event l (c.taken + i)
  out_event i less = let f = (ok.fits p lt).computed in
      out_at i (event_at 0) less ∙ same_default l.events (c.taken + i) (event_at 0) (event_at l.end) (omega arith)

  new_event : (i : ℕ) → i < length new → (i < t) × (get_or new i (event_at 0) ≡ event l (c.taken + i))
  new_event i less = let a = length_new in let b = some in let near : i < t = omega arith in
      (near, get_or-take t (outbox l c) i (event_at 0) near ∙ out_event i (omega arith))

  new_process : (i : ℕ) → i < length new → (get_or new i (event_at 0)).process ≡ p
  new_process i less = let e = new_event i less in let f = (ok.fits p lt).computed in let b = some in let a = e.0 in
      ap (λ (x : TimedMessage). x.process) e.1 ∙ (valid.lines.numbered p (c.taken + i) (omega arith)).0

  out_down : (i j : ℕ) → i ≤ j → j < length (outbox l c) → covers h.due (get_or (outbox l c) j (event_at 0)) ≡ true
      → covers h.due (get_or (outbox l c) i (event_at 0)) ≡ true
  out_down i j le less e = let a = length_out in let f = (ok.fits p lt).computed in let here = out_event i (omega arith) in
      let there = out_event j (omega arith) in
      let time : upper l (c.taken + i) ≤ upper l (c.taken + j) = valid.lines.rising p (c.taken + i) (c.taken + j) (omega arith) in
      let same : (event l (c.taken + i)).process ≡ (event l (c.taken + j)).process =
      (valid.lines.numbered p (c.taken + i) (omega arith)).0 ∙ sym (valid.lines.numbered p (c.taken + j) (omega arith)).0 in
      subst (λ (x : TimedMessage). covers h.due x ≡ true) (sym here)
      (covered_down h.due (event l (c.taken + i)) (event l (c.taken + j)) time same
      (subst (λ (x : TimedMessage). covers h.due x ≡ true) there e))

  -- what must be taken, where the process is unvisited and seat 0 has it; else nothing
  take_is : (b : Bool) → (nat_eq s 0 && not (visited h p)) ≡ b → t ≡ (if b then count_due h.due (outbox l c) else 0)
  take_is b e = may.take ∙ ap (λ (x : Bool). if x then count_due h.due (outbox l c) else 0) e

  new_due : (b : Bool) → (nat_eq s 0 && not (visited h p)) ≡ b → (i : ℕ) → i < length new
      → covers h.due (get_or new i (event_at 0)) ≡ true
  new_due false e i less = let z = take_is false e in let a = length_new in absurd (omega arith)
  new_due true e i less = let z = take_is true e in let k = new_event i less in let a = length_out in let b = some in let near = k.0 in
      let less_out : i < length (outbox l c) = omega arith in
      let is = (counted_first h.due (outbox l c) out_down i less_out).0 (omega arith) in
      subst (λ (x : TimedMessage). covers h.due x ≡ true) (out_event i (omega arith) ∙ sym k.1) is

  abbrev vs : List Bool
  vs = visits_by_give h s p

  vs_other : (q : ℕ) → q ≢ p → get_or vs q false ≡ visited h q
  vs_other q d = go (nat_eq s 0 && is_due h.due)
    where
      go : (b : Bool) → get_or (if b then set h.visited p true else h.visited) q false ≡ get_or h.visited q false
      go true = get_or-set_other h.visited p q true false d
      go false = refl

  vs_kept : visited h p ≡ true → get_or vs p false ≡ true
  vs_kept e = go (nat_eq s 0 && is_due h.due)
    where
      go : (b : Bool) → get_or (if b then set h.visited p true else h.visited) p false ≡ true
      go true = get_or-set_same h.visited p true false (let m = ok.marked in let x = lt in omega arith)
      go false = e

  -- a process that counts as visited now and did not before was given by seat 0
  by_seat_0 : visited h p ≡ false → get_or vs p false ≡ true → (nat_eq s 0 && not (visited h p)) ≡ true
  by_seat_0 f v = go (nat_eq s 0) (is_due h.due) refl refl
    where
      go : (a b : Bool) → nat_eq s 0 ≡ a → is_due h.due ≡ b → (nat_eq s 0 && not (visited h p)) ≡ true
      go true b e k = and_true _ _ e (true_from _ f)
      go false b e k = let same : vs ≡ h.visited = if_false (nat_eq s 0 && is_due h.due) (set h.visited p true) h.visited
          (left_false _ _ e) in let w : visited h p ≡ true = ap (λ (x : List Bool). get_or x p false) (sym same) ∙ v in absurd (cc)

  newly : (b : Bool) → visited h p ≡ b → get_or vs p false ≡ true → (m i k : ℕ) → h.due ≡ Pair m i → c.taken + t ≤ k → k < length l.events
      → NotBelow m i (upper l k) p
  newly true e v m i k d le less = ok.visited_below m i p k d lt e (omega arith) less
  newly false e v m i k d le less = dite (dec_lt k c.computed)
      (λ near. let z = take_is true (by_seat_0 e v) in let j : ℕ = k - c.taken in let f = ok.fits p lt in let ta = f.taken in
      let all = f.computed in let back_to : c.taken + j ≡ k = omega arith in let a = length_out in
      let out : (get_or (outbox l c) j (event_at 0)) ≡ event l k = out_event j (omega arith) ∙ ap (event l) back_to in
      let none = (counted_first h.due (outbox l c) out_down j (omega arith)).1 (omega arith) in
      let here : covers (Pair m i) (event l k) ≡ false = subst (λ (x : TimedMessage). covers (Pair m i) x ≡ false) out
      (subst (λ (x : Due). covers x (get_or (outbox l c) j (event_at 0)) ≡ false) d none) in
      let mine = (valid.lines.numbered p k less).0 in
      subst (λ (x : ℕ). NotBelow m i (upper l k) x) mine (not_covered m i (event l k) here))
      (λ far. ok.due_rest m i p k d lt (omega arith) less)

  all_taken : (b : Bool) → visited h p ≡ b → get_or vs p false ≡ true → h.due ≡ Everything → c.taken + t ≡ length l.events
  all_taken true e v d = let z = ok.visited_all p d lt e in let f = ok.fits p lt in let a = f.taken in let b = f.computed in
      let x = some in omega arith
  all_taken false e v d = let z = take_is true (by_seat_0 e v) in let f = ok.fits p lt in let a = f.taken in
      let ended = ok.done p (ok.due_all d) lt in let w = f.whole ended in
      let all : count_due h.due (outbox l c) ≡ length (outbox l c) = ap (λ (x : Due). count_due x (outbox l c)) d ∙ every (outbox l c) in
      let x = length_out in omega arith
    where
      every : (es : List TimedMessage) → count_due Everything es ≡ length es
      every [] = refl
      every (e ∷ es) = let a = every es in omega arith

  fits_gather : (b : Bool) → (nat_eq s 0 && not (visited h p)) ≡ b → length (of_process p gs) ≤ (if get_or vs p false then g.room else 0)
  fits_gather b e = let split = ap length (of_append p h.gather new) ∙ length-append (of_process p h.gather) (of_process p new) in
      let mine = ap length (of_self p new new_process) in let a = length_new in let old = ok.gathered p lt in
      go b e (visited h p) (get_or vs p false) refl refl (omega arith) old
    where
      go : (b : Bool) → (nat_eq s 0 && not (visited h p)) ≡ b → (x y : Bool) → visited h p ≡ x → get_or vs p false ≡ y
          → length (of_process p gs) ≡ length (of_process p h.gather) + t → length (of_process p h.gather) ≤ (if x then g.room else 0)
          → length (of_process p gs) ≤ (if y then g.room else 0)
      go b e true y f v sum old = let k = vs_kept f in let is : y ≡ true = sym v ∙ k in
          let z = take_is false (right_false (nat_eq s 0) (not (visited h p)) (false_from _ f)) in rw is (omega arith)
      go false e false true f v sum old = let z = take_is false e in omega arith
      go false e false false f v sum old = let z = take_is false e in omega arith
      go true e false true f v sum old = let box = (ok.fits p lt).boxed in let x = some in omega arith
      go true e false false f v sum old = let z = take_is true e in let none : is_due h.due ≡ false = undue (is_due h.due) refl in
          let zero_t : count_due h.due (outbox l c) ≡ 0 = nothing_counted h.due none (outbox l c) in omega arith
        where
          undue : (d : Bool) → is_due h.due ≡ d → is_due h.due ≡ false
          undue false k = k
          undue true k = let same : vs ≡ set h.visited p true = if_true (nat_eq s 0 && is_due h.due) (set h.visited p true) h.visited
              (and_true _ _ (both _ _ e).0 k) in
              let w : get_or vs p false ≡ true = ap (λ (x : List Bool). get_or x p false) same
              ∙ get_or-set_same h.visited p true false (let m = ok.marked in let x = lt in omega arith) in absurd (clash _ w v)

          nothing_counted : (d : Due) → is_due d ≡ false → (es : List TimedMessage) → count_due d es ≡ 0
          nothing_counted Nothing k es = nothing es
            where
              nothing : (es : List TimedMessage) → count_due Nothing es ≡ 0
              nothing [] = refl
              nothing (e ∷ es) = let a = nothing es in omega arith
          nothing_counted (Pair m i) k es = absurd (clash true refl k)
          nothing_counted Everything k es = absurd (clash true refl k)

  whole : h.released ++ gs ≡ (h.released ++ h.gather) ++ new
  whole = sym (append_assoc h.released h.gather new)

  takes : Taken g h p back vs gs
  takes = record {
    marked = same_length;
    named = λ k less. subst (λ (xs : List TimedMessage). k < length xs → (get_or xs k (event_at 0)).process < length h.cells) (sym whole)
        (append_each (λ (e : TimedMessage). e.process < length h.cells) (h.released ++ h.gather) new ok.named
        (λ i near. let z = new_process i near in let x = lt in omega arith) k) less;
    kept = λ q near d. ap (of_process q) whole
        ∙ (of_append q (h.released ++ h.gather) new
        ∙ (ap (λ (xs : List TimedMessage). of_process q (h.released ++ h.gather) ++ xs) (of_none p q new d new_process)
        ∙ (append-nil (of_process q (h.released ++ h.gather)) ∙ ok.kept q near)));
    kept_here = ap (of_process p) whole ∙ (of_append p (h.released ++ h.gather) new
        ∙ (ap (λ (xs : List TimedMessage). of_process p (h.released ++ h.gather) ++ xs) (of_self p new new_process ∙ new_is)
        ∙ (ap (λ (xs : List TimedMessage). xs ++ take t (drop c.taken l.events)) (ok.kept p lt) ∙ sym (take-add c.taken t l.events))));
    not_due = λ d. let none = ok.not_due d in let z : t ≡ 0 = undue (nat_eq s 0 && not (visited h p)) refl d in
        let e : new ≡ [] = ap (λ (x : ℕ). take x (outbox l c)) z ∙ none_taken (outbox l c) in
        ap (λ (xs : List TimedMessage). xs ++ new) none ∙ e;
    gathered_due = append_each (λ (e : TimedMessage). covers h.due e ≡ true) h.gather new ok.gathered_due
        (new_due (nat_eq s 0 && not (visited h p)) refl);
    gathered = λ q near. dite (ℕ_discrete q p)
        (λ e. subst (λ (r : ℕ). length (of_process r gs) ≤ (if get_or vs r false then g.room else 0)) (sym e)
        (fits_gather (nat_eq s 0 && not (visited h p)) refl))
        (λ d. let split = ap length (of_append q h.gather new
        ∙ (ap (λ (xs : List TimedMessage). of_process q h.gather ++ xs) (of_none p q new d new_process)
        ∙ append-nil (of_process q h.gather))) in
        let old : length (of_process q h.gather) ≤ (if get_or vs q false then g.room else 0) =
        subst (λ (b : Bool). length (of_process q h.gather) ≤ (if b then g.room else 0)) (sym (vs_other q d)) (ok.gathered q near) in
        omega arith);
    visited_other = vs_other;
    visited_below = λ m i k d v. newly (visited h p) refl v m i k d;
    visited_all = λ d v. all_taken (visited h p) refl v d;
  }
    where
      same_length : length vs ≡ length h.cells
      same_length = go (nat_eq s 0 && is_due h.due)
        where
          go : (b : Bool) → length (if b then set h.visited p true else h.visited) ≡ length h.cells
          go true = length-set h.visited p true ∙ ok.marked
          go false = ok.marked

      none_taken : (xs : List TimedMessage) → take 0 xs ≡ []
      none_taken [] = refl
      none_taken (x ∷ xs) = refl

      undue : (b : Bool) → (nat_eq s 0 && not (visited h p)) ≡ b → h.due ≡ Nothing → t ≡ 0
      undue false e d = take_is false e
      undue true e d = take_is true e ∙ (ap (λ (x : Due). count_due x (outbox l c)) d ∙ nothing (outbox l c))
        where
          nothing : (es : List TimedMessage) → count_due Nothing es ≡ 0
          nothing [] = refl
          nothing (x ∷ es) = let a = nothing es in omega arith

  -- an allowed give keeps the state sound
  pub keeps_give : Sound g (after g h (Give s p t n now ends))
  keeps_give = moved_sound g h valid ok p back lt gives vs gs takes
