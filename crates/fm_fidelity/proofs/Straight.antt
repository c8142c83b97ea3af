-- The operations of a statement that does not fork play what it plays, in exactly so many steps.
use Rattle.std.proofs.Common.{◌≡◌, ℕ, zero, suc, ◌+◌, ◌≤◌, Bool, true, false, List, [], ◌∷◌, ◌++◌, map, length, refl, sym, ap, ◌∙◌, subst, arith, ℤ, pos, append-nil, true≢false}
use Rattle.std.specs.Prelude.{Some, slice_get, int_lt, if◌then◌else◌, nat_le}
use Rattle.std.proofs.lemmas.Bool.{or_parts, and_from, le-leb, lt-ltb}
use Rattle.fm_tick.specs.declared.tick.TheConstants.{MAX_TICK}
use Rattle.fm_warp.specs.declared.side.Side.TheVariants.{Onset}
use Rattle.fm_warp.specs.Deformation.{placed}
use Rattle.fm_nest.specs.declared.nest.TheConstants.{MAX_LEVELS}
use Rattle.fm_program.specs.declared.op.TheConstants.{MAX_FRAMES}
use Rattle.fm_program.specs.declared.op.Slot.{Slot}
use Rattle.fm_program.specs.declared.op.Count.{Count}
use Rattle.fm_program.specs.declared.op.Op.TheVariants as op
use Rattle.fm_program.specs.Action.{Action, action_of, repeats_of}
use Rattle.fm_program.specs.Action as action
use Rattle.fm_program.specs.Needs.{levels_hold}
use Rattle.fm_program.specs.State.{counting, cycling, OpenLevel, Standing, Draught}
use Rattle.fm_program.specs.Run.{Stepped, silent, loop_opened}
use Rattle.fm_meaning.specs.State.{looped, listed, restarted, Now, evaluated, count_drawn}
use Rattle.fm_meaning.specs.Played.{Made, in_block, rounds, plays, passage_plays}
use Rattle.fm_meaning.specs.Places.{Depths, in_one, in_branching, in_loop, in_warp as deeper_warp, in_list}
use Rattle.fm_promise.specs.Levels.{IsInTime, EachRound, LevelsOf, LevelsIn}
use Rattle.fm_expansion.specs.Outline.{Tables, stock_with, expr_in, parts_in, list_in, rounds_of, Instruction, note, rest, send, assign, choice, loop, phrase, par, warp, channel, steady, under, Block, done, item, play_in, passage_in}
use Rattle.fm_expansion.specs.Homes.{loop_frame, list_frame, list_of_one, slots_of, Inside, at_home, in_scope, in_warp}
use Rattle.fm_expansion.specs.Emission.{forks, forks_in, size, size_in, scopes_of, scopes_in, emit, emit_in}
use Rattle.fm_fidelity.proofs.Plain.{heard, heard_append, heard_through}
use Rattle.fm_fidelity.proofs.Running.{HasAt, has_front, has_back, Runs, nothing, one_silent, after, become, begin_at, step_silent}
use Rattle.fm_fidelity.proofs.Keeping.{count_after, passage_kept}
use Rattle.fm_expansion.proofs.Frames.{Counter, frames_held, Held, held_length, held_alike, slots_give, slots_open}
use Rattle.fm_fidelity.proofs.Keeping.{plays_kept}
use Rattle.fm_fidelity.proofs.Drawing.{at, expr_is, repeats_are}
use Rattle.fm_fidelity.proofs.Fits.{Fits, FitsIn}
use Rattle.fm_fidelity.proofs.Rising.{levels_earlier, plays_rise, passage_rises, rounds_rise}
use Rattle.fm_fidelity.proofs.Steps.{rounds_steps, steps_of, steps_in}
use Rattle.fm_expansion.proofs.Settings.{HasScopes, scopes_front, scopes_back, Setting, in_block_more, in_choice_more, on_channel, in_one_entry, in_list_more, in_frame_more, in_level_more, holds_by}
use Rattle.fm_expansion.proofs.Lengths.{emit_length, emit_in_length}
use Rattle.fm_fidelity.proofs.Atoms.{around, Reaches, room, note_runs, rest_runs, send_runs, assign_runs}
use Rattle.fm_fidelity.proofs.Rounds.{list_front, one_front, rounds_run}

module _ (t : Tables) (scopes : List (List Slot)) (code : List Action) (seed : ℕ) where
  -- ---- choices

  -- the test of a choice
  test_runs : (expr past : ℕ) (d : Depths) (i : Inside) (operation : ℕ) (n : Now) (ls : List OpenLevel)
      (cs : List Counter) (b : Bool)
      → int_lt (pos 0) (evaluated (expr_in t expr) n).value ≡ b → Setting scopes d i ls
      → Held t i.homes cs n.blocks
      → levels_hold ls n.position ≡ true
      → slice_get code operation ≡ Some (action_of (stock_with t scopes) (op.Test expr i.scope past))
      → Runs code (at operation n ls (frames_held i.homes cs n.blocks)) 1 []
      (at (if b then operation + 1 else past) (evaluated (expr_in t expr) n).after ls
      (frames_held i.homes cs n.blocks))
  test_runs expr past d i operation n ls cs b is setting held fits here =
      let nodes = expr_in t expr in
      let slots = slots_of i.homes in
      let fs = frames_held i.homes cs n.blocks in
      let v = evaluated nodes n in
      let tested : Draught ℤ → Stepped = λ u. silent
      (record u.after { operation = (if int_lt (pos 0) u.value then operation + 1 else past) }) in
      let there : Bool → Standing = λ c. at (if c then operation + 1 else past) v.after ls fs in
      let small = room t scopes code d i ls cs n setting held in
      one_silent code (at operation n ls fs) (there b)
      (step_silent code (at operation n ls fs) (there b) (action.choose nodes slots past) refl
      (here ∙ ap (λ k. Some (action.choose nodes k past)) setting.scope)
      (slots_open t i.homes cs n.blocks held)
      (ap tested (expr_is nodes operation n ls fs slots (slots_give t i.homes cs n.blocks held))
      ∙ ap (λ c. silent (there c)) is)
      (holds_by (there b) small.0 small.1 fits))

  -- from the test to the end of either block
  choice_by : (first second : Block) (i : Inside) (operation : ℕ) (n m : Now) (ls : List OpenLevel)
      (cs : List Counter) (b : Bool)
      → Held t i.homes cs m.blocks → frames_held i.homes cs n.blocks ≡ frames_held i.homes cs m.blocks
      → (length (frames_held i.homes cs (passage_plays (passage_in t first) (around seed i)
      m).after.blocks) ≤ MAX_FRAMES)
      → (length ls ≤ MAX_LEVELS)
      → Runs code (at operation n ls (frames_held i.homes cs n.blocks)) 1 []
      (at (if b then operation + 1 else operation + size_in first + 2) m ls (frames_held i.homes cs n.blocks))
      → (b ≡ true → levels_hold ls (passage_plays (passage_in t first) (around seed i) m).after.position
      ≡ true)
      → (b ≡ true → Reaches code i.homes cs ls (operation + 1) m (steps_in (passage_in t first) (around seed i) m)
      (passage_plays (passage_in t first) (around seed i) m) (operation + 1 + size_in first))
      → (b ≡ false → Reaches code i.homes cs ls (operation + size_in first + 2) m
      (steps_in (passage_in t second) (around seed i) m)
      (passage_plays (passage_in t second) (around seed i) m) (operation + size_in first + 2 + size_in second))
      → slice_get code (operation + 1 + size_in first) ≡ Some
      (action.jump (operation + size_in first + 2 + size_in second))
      → Reaches code i.homes cs ls operation n
      (1 + elim b as (λ _. ℕ) [
        | true ↦ steps_in (passage_in t first) (around seed i) m + 1
        | false ↦ steps_in (passage_in t second) (around seed i) m
      ])
      (elim b as (λ _. Made) [
        | true ↦ passage_plays (passage_in t first) (around seed i) m
        | false ↦ passage_plays (passage_in t second) (around seed i) m
      ])
      (operation + (size_in first + size_in second + 2))
  choice_by first second i operation n m ls cs true held same small flat tested soon one other jumped =
      let o = passage_plays (passage_in t first) (around seed i) m in
      let fs = frames_held i.homes cs o.after.blocks in
      let out = operation + size_in first + 2 + size_in second in
      let from = at (operation + 1 + size_in first) o.after ls fs in
      let steps = steps_in (passage_in t first) (around seed i) m in
      let there = at out o.after ls fs in
      let e : out ≡ operation + (size_in first + size_in second + 2) = omega arith in
      let leap = one_silent code from there (step_silent code from there (action.jump out) refl jumped
      refl refl
      (holds_by there small flat (soon refl))) in
      become code _ _ _ _ _ _ _ refl (append-nil (heard ls o.marks)) (ap (λ p. at p o.after ls fs) e)
      (after code _ _ _ 1 (steps + 1) [] (heard ls o.marks ++ []) tested
      (begin_at code _ _ _ _ _ (ap (λ g. at (operation + 1) m ls g) same)
      (after code _ _ there steps 1 (heard ls o.marks) [] (one refl) leap)))
  choice_by first second i operation n m ls cs false held same small flat tested soon one other jumped =
      let o = passage_plays (passage_in t second) (around seed i) m in
      let fs = frames_held i.homes cs o.after.blocks in
      let steps = steps_in (passage_in t second) (around seed i) m in
      let e : operation + size_in first + 2 + size_in second ≡ operation +
      (size_in first + size_in second + 2) = omega arith in
      become code _ _ _ _ _ _ _ refl refl (ap (λ p. at p o.after ls fs) e)
      (after code _ _ _ 1 steps [] (heard ls o.marks) tested
      (begin_at code _ _ _ _ _ (ap (λ g. at (operation + size_in first + 2) m ls g) same) (other refl)))

  -- one of two types
  first_of : (b : Bool) (A B : Type 0) → elim b as (λ _. Type 0) [ true ↦ A | false ↦ B ] → b ≡ true → A
  first_of true A B h is = h
  first_of false A B h is = absurd (true≢false (sym is))

  -- the other one
  second_of : (b : Bool) (A B : Type 0) → elim b as (λ _. Type 0) [ true ↦ A | false ↦ B ] → b ≡ false → B
  second_of true A B h is = absurd (true≢false is)
  second_of false A B h is = h

  -- the levels of one of two blocks
  first_held : (b : Bool) (ls : List OpenLevel) (x y : Made)
      → levels_hold ls (elim b as (λ _. Made) [ true ↦ x | false ↦ y ]).after.position ≡ true → b ≡ true
      → levels_hold ls x.after.position ≡ true
  first_held true ls x y h is = h
  first_held false ls x y h is = absurd (true≢false (sym is))

  -- those of the other
  second_held : (b : Bool) (ls : List OpenLevel) (x y : Made)
      → levels_hold ls (elim b as (λ _. Made) [ true ↦ x | false ↦ y ]).after.position ≡ true → b ≡ false
      → levels_hold ls y.after.position ≡ true
  second_held true ls x y h is = absurd (true≢false is)
  second_held false ls x y h is = h

  -- ---- loops

  -- a loop in a frame: its count, and as many rounds
  loop_by : (k : ℕ) (d : Depths) (i : Inside) (operation z : ℕ) (n : Now) (ls : List OpenLevel)
      (cs : List Counter) (count : Count)
      → (count_drawn (rounds_of t count) n).value ≡ k
      → (steps : Now → ℕ) (inside : Now → Made) (Q : Now → Type 0)
      → d.frames + 1 ≤ MAX_FRAMES → Setting scopes d i ls → Held t i.homes cs n.blocks
      → EachRound (λ j m. Q (record m { blocks = looped j ∷ m.blocks })) (λ j. in_block (looped j) inside) k 0
      (count_drawn (rounds_of t count) n).after
      → levels_hold ls (rounds (λ j. in_block (looped j) inside) k 0
      (count_drawn (rounds_of t count) n).after).after.position ≡ true
      → slice_get code operation ≡ Some (action_of (stock_with t scopes) (op.Loop count i.scope (operation + z + 2)))
      → slice_get code (operation + 1 + z) ≡ Some (action.again (operation + 1))
      → ((m : Now) → map restarted (inside m).after.blocks ≡ map restarted m.blocks)
      → ((m : Now) → m.position ≤ (inside m).after.position)
      → ((j left : ℕ) (m : Now) → Held t i.homes cs m.blocks → Q (record m { blocks = looped j ∷ m.blocks })
      → levels_hold ls (inside (record m { blocks = looped j ∷ m.blocks })).after.position ≡ true
      → Reaches code (loop_frame ∷ i.homes) (record { left = left; back = operation + 1 } ∷ cs) ls (operation + 1)
      (record m { blocks = looped j ∷ m.blocks }) (steps (record m { blocks = looped j ∷ m.blocks }))
      (inside (record m { blocks = looped j ∷ m.blocks })) (operation + 1 + z))
      → Reaches code i.homes cs ls operation n
      (1 + rounds_steps (λ j m. steps (record m { blocks = looped j ∷ m.blocks }))
      (λ j. in_block (looped j) inside) k 0
      (count_drawn (rounds_of t count) n).after)
      (rounds (λ j. in_block (looped j) inside) k 0 (count_drawn (rounds_of t count) n).after) (operation + z + 2)
  loop_by zero d i operation z n ls cs count is steps inside Q deep setting held levels high here over kept
      rise each =
      let hs = i.homes in
      let slots = slots_of hs in
      let c = count_drawn (rounds_of t count) n in
      let fs = frames_held hs cs n.blocks in
      let s = at operation n ls fs in
      let repeats = repeats_of (stock_with t scopes) count in
      let past = operation + z + 2 in
      let opened_by : Draught ℕ → Stepped = λ k. silent (loop_opened k.value past k.after) in
      let there = at past c.after ls fs in
      let small = room t scopes code d i ls cs n setting held in
      let b1 = ap Now.blocks (count_after (rounds_of t count) n) in
      become code s _ _ _ _ _ _ refl refl (ap (λ b. at past c.after ls (frames_held hs cs b)) (sym b1))
      (one_silent code s there (step_silent code s there (action.loop repeats slots past) refl
      (here ∙ ap (λ k. Some (action.loop repeats k past)) setting.scope) (slots_open t hs cs n.blocks held)
      (ap opened_by (repeats_are t scopes count operation n ls fs slots (slots_give t hs cs n.blocks held))
      ∙ ap (λ k. silent (loop_opened k past (at operation c.after ls fs))) is)
      (holds_by there small.0 small.1 high)))
  loop_by (suc k) d i operation z n ls cs count is steps inside Q deep setting held levels high here over
      kept rise each =
      let hs = i.homes in
      let slots = slots_of hs in
      let c = count_drawn (rounds_of t count) n in
      let fs = frames_held hs cs n.blocks in
      let s = at operation n ls fs in
      let repeats = repeats_of (stock_with t scopes) count in
      let past = operation + z + 2 in
      let opened_by : Draught ℕ → Stepped = λ x. silent (loop_opened x.value past x.after) in
      let there = at (operation + 1) c.after ls (counting 0 k (operation + 1) ∷ fs) in
      let small = room t scopes code d i ls cs n setting held in
      let b1 = ap Now.blocks (count_after (rounds_of t count) n) in
      let held1 = subst (λ bs. Held t hs cs bs) (sym b1) held in
      let body : ℕ → Now → Made = λ j. in_block (looped j) inside in
      let o = rounds body (suc k) 0 c.after in
      let soon = levels_earlier ls c.after.position o.after.position
      (rounds_rise body (suc k) 0 c.after (λ j m. rise (record m { blocks = looped j ∷ m.blocks })))
      high in
      let open_step = one_silent code s there (step_silent code s there (action.loop repeats slots past) refl
      (here ∙ ap (λ x. Some (action.loop repeats x past)) setting.scope)
      (slots_open t hs cs n.blocks held)
      (ap opened_by (repeats_are t scopes count operation n ls fs slots (slots_give t hs cs n.blocks held))
      ∙ ap (λ x. silent (loop_opened x past (at operation c.after ls fs))) is)
      (holds_by there (omega (arith, held_length t hs cs n.blocks held, setting.frames, deep))
      small.1 soon)) in
      after code s there _ 1 _ [] (heard ls o.marks) open_step
      (begin_at code _ _ _ _ _ (ap (λ b. at (operation + 1) c.after ls
      (counting 0 k (operation + 1) ∷ frames_held hs cs b)) (sym b1))
      (rounds_run t code hs cs ls operation z (λ j m. steps (record m { blocks = looped j ∷ m.blocks })) inside
      (λ j m. Q (record m { blocks = looped j ∷ m.blocks })) over (omega (arith, setting.frames, deep))
      small.1 kept rise each
      k 0 c.after held1 levels high))

  mutual
    -- a statement
    pub emit_runs : (x : Instruction) (d : Depths) (i : Inside) (operation next : ℕ) (n : Now)
        (ls : List OpenLevel) (cs : List Counter)
        → Fits d (play_in t x) → forks x ≡ false → Setting scopes d i ls → Held t i.homes cs n.blocks
        → LevelsOf IsInTime (play_in t x) (around seed i) n
        → levels_hold ls (plays (play_in t x) (around seed i) n).after.position ≡ true
        → HasAt (stock_with t scopes) code operation (emit x i operation next)
        → HasScopes scopes next (scopes_of x i.homes)
        → Reaches code i.homes cs ls operation n (steps_of (play_in t x) (around seed i) n)
        (plays (play_in t x) (around seed i) n)
        (operation + size x)
    emit_runs (note chord lasting) d i operation next n ls cs fits alone setting held levels high has scoped =
        note_runs t scopes code chord lasting d i seed operation n ls cs setting held high has.0
    emit_runs (rest lasting) d i operation next n ls cs fits alone setting held levels high has scoped =
        rest_runs t scopes code lasting d i seed operation n ls cs setting held high has.0
    emit_runs (send point draw) d i operation next n ls cs fits alone setting held levels high has scoped =
        send_runs t scopes code point draw d i seed operation n ls cs setting held high has.0
    emit_runs (assign register expr) d i operation next n ls cs fits alone setting held levels high has scoped =
        assign_runs t scopes code register expr d i seed operation n ls cs setting held high has.0
    emit_runs (choice expr first second) d i operation next n ls cs fits alone setting held levels high has
        scoped =
        let stock = stock_with t scopes in
        let a = around seed i in
        let v = evaluated (expr_in t expr) n in
        let b = int_lt (pos 0) v.value in
        let both = or_parts (forks_in first) (forks_in second) alone in
        let middle = operation + size_in first + 2 in
        let ops1 = emit_in first i (operation + 1) next in
        let later = next + length (scopes_in first i.homes) in
        let ops2 = emit_in second i middle later in
        let jump = op.Jump (middle + size_in second) in
        let p1 = passage_in t first in
        let p2 = passage_in t second in
        let inside = in_choice_more scopes d i ls setting in
        let has1 = has_front stock code (operation + 1) ops1 (jump ∷ ops2) has.1 in
        let has_rest = has_back stock code (operation + 1) (size_in first) ops1 (jump ∷ ops2)
        (emit_in_length first i (operation + 1) next) has.1 in
        let at_middle : operation + 1 + size_in first + 1 ≡ middle = omega arith in
        let has2 = subst (λ p. HasAt stock code p ops2) at_middle has_rest.1 in
        let m1 = passage_plays p1 a v.after in
        let m2 = passage_plays p2 a v.after in
        let held1 = held_alike t i.homes cs n.blocks m1.after.blocks (passage_kept p1 a v.after) held in
        let small = room t scopes code d i ls cs m1.after setting held1 in
        let level1 = first_of b (LevelsIn IsInTime p1 a v.after) (LevelsIn IsInTime p2 a v.after) levels in
        let level2 = second_of b (LevelsIn IsInTime p1 a v.after) (LevelsIn IsInTime p2 a v.after) levels in
        let high1 = first_held b ls m1 m2 high in
        let high2 = second_held b ls m1 m2 high in
        choice_by first second i operation n v.after ls cs b held refl small.0 small.1
        (test_runs expr middle d i operation n ls cs b refl setting held
        (levels_earlier ls n.position (plays (play_in t (choice expr first second)) a n).after.position
        (plays_rise d (play_in t (choice expr first second)) a n fits) high) has.0)
        high1
        (λ is. emit_in_runs first (in_branching d) i (operation + 1) next v.after ls cs fits.3 both.0 inside
        held (level1 is) (high1 is) has1
        (scopes_front scopes next (scopes_in first i.homes) (scopes_in second i.homes) scoped))
        (λ is. emit_in_runs second (in_branching d) i middle later v.after ls cs fits.4 both.1 inside
        held (level2 is) (high2 is) has2
        (scopes_back scopes next (scopes_in first i.homes) (scopes_in second i.homes) scoped))
        has_rest.0
    emit_runs (loop count body) d i operation next n ls cs fits alone setting held levels high has scoped =
        let stock = stock_with t scopes in
        let a = around seed i in
        let hs = i.homes in
        let z = size_in body in
        let p = passage_in t body in
        let c = count_drawn (rounds_of t count) n in
        let inside = in_scope loop_frame next i in
        let ops = emit_in body inside (operation + 1) (next + 1) in
        let has_body = has_front stock code (operation + 1) ops (op.Again (operation + 1) ∷ []) has.1 in
        let has_again = (has_back stock code (operation + 1) z ops (op.Again (operation + 1) ∷ [])
        (emit_in_length body inside (operation + 1) (next + 1)) has.1).0 in
        let e : operation + z + 2 ≡ operation + (z + 2) = omega arith in
        let set = in_frame_more scopes d i ls (rounds_of t count) next fits.2 scoped.0 setting in
        become code _ _ _ _ _ _ _ refl refl (ap (λ q. at q (plays (play_in t (loop count body)) a n).after ls
        (frames_held hs cs (plays (play_in t (loop count body)) a n).after.blocks)) e)
        (loop_by c.value d i operation z n ls cs count refl
        (λ m. steps_in p a m) (passage_plays p a) (λ m. LevelsIn IsInTime p a m)
        fits.2 setting held levels high has.0 has_again
        (λ m. passage_kept p a m) (λ m. passage_rises (in_loop (rounds_of t count) d) p a m fits.3)
        (λ k left m own level top. emit_in_runs body (in_loop (rounds_of t count) d) inside (operation + 1)
        (next + 1)
        (record m { blocks = looped k ∷ m.blocks }) ls (record { left = left; back = operation + 1 } ∷ cs)
        fits.3 alone set own level top
        has_body scoped.1))
    emit_runs (phrase body) d i operation next n ls cs fits alone setting held levels high has scoped =
        emit_in_runs body (in_one d) i operation next n ls cs fits alone
        (in_block_more scopes d i ls setting) held levels high has scoped
    emit_runs (par arms) d i operation next n ls cs fits alone setting held levels high has scoped = absurd
        (true≢false alone)
    emit_runs (warp number body) d i operation next n ls cs fits alone setting held levels high has scoped =
        let stock = stock_with t scopes in
        let a = around seed i in
        let hs = i.homes in
        let z = size_in body in
        let p = passage_in t body in
        let parts = parts_in t number in
        let l : OpenLevel = record { warp = number; parts = parts; origin = n.position } in
        let start : Now = record n { position = 0 } in
        let o = passage_plays p a start in
        let m = plays (play_in t (warp number body)) a n in
        let inside = in_warp number i in
        let ops = emit_in body inside (operation + 1) next in
        let has_body = has_front stock code (operation + 1) ops (op.Leave ∷ []) has.1 in
        let has_leave = (has_back stock code (operation + 1) z ops (op.Leave ∷ [])
        (emit_in_length body inside (operation + 1) next) has.1).0 in
        let top = and_from (nat_le o.after.position MAX_TICK)
        (levels_hold ls (placed Onset n.position parts o.after.position))
        (le-leb o.after.position MAX_TICK levels.0.position) high in
        let fs = frames_held hs cs n.blocks in
        let gs = frames_held hs cs o.after.blocks in
        let s = at operation n ls fs in
        let entered = at (operation + 1) start (l ∷ ls) fs in
        let inner = at (operation + 1 + z) o.after (l ∷ ls) gs in
        let out = at (operation + 1 + z + 1) m.after ls gs in
        let small = room t scopes code d i ls cs n setting held in
        let deep = in_level_more scopes d i ls l fits.0 setting in
        let held1 = held_alike t hs cs n.blocks o.after.blocks (passage_kept p a start) held in
        let small1 = room t scopes code d i ls cs o.after setting held1 in
        let flat : length (l ∷ ls) ≤ MAX_LEVELS = omega (arith, deep.levels, deep.flat) in
        let e : operation + 1 + z + 1 ≡ operation + (z + 2) = omega arith in
        let steps = steps_in p a start in
        let k : 1 + (steps + 1) ≡ 2 + steps = omega arith in
        let enter_step = one_silent code s entered
        (step_silent code s entered (action.enter number parts) refl has.0 refl refl
        (holds_by entered small.0 flat (levels_earlier (l ∷ ls) 0 o.after.position (omega arith) top))) in
        let leave_step = one_silent code inner out (step_silent code inner out action.leave refl has_leave
        (lt-ltb 0 (length (l ∷ ls)) (omega arith)) refl
        (holds_by out small1.0 small1.1 high)) in
        become code s _ _ _ _ _ _ k (append-nil (heard (l ∷ ls) o.marks) ∙ heard_through l ls o.marks)
        (ap (λ q. at q m.after ls gs) e)
        (after code s entered out 1 (steps + 1) [] (heard (l ∷ ls) o.marks ++ []) enter_step
        (after code entered inner out steps 1 (heard (l ∷ ls) o.marks) []
        (emit_in_runs body (deeper_warp d) inside (operation + 1) next start (l ∷ ls) cs fits.1 alone deep
        held levels.1 top has_body scoped)
        leave_step))
    emit_runs (channel number body) d i operation next n ls cs fits alone setting held levels high has scoped =
        emit_in_runs body (in_one d) (record i { channel = number }) operation next n ls cs fits.1 alone
        (on_channel scopes d i ls number fits.0 setting) held levels high has scoped
    emit_runs (steady quality entry body) d i operation next n ls cs fits alone setting held levels high has
        scoped =
        let a = around seed i in
        let hs = i.homes in
        let p = passage_in t body in
        let block = listed quality (entry ∷ []) 0 in
        let start : Now = record n { blocks = block ∷ n.blocks } in
        let o = passage_plays p a start in
        let there = at (operation + size_in body) o.after ls in
        let held0 : Held t (list_of_one quality entry ∷ hs) cs start.blocks = (refl, refl, held) in
        let held1 = held_alike t (list_of_one quality entry ∷ hs) cs start.blocks o.after.blocks
        (passage_kept p a start) held0 in
        become code _ _ _ _ _ _ _ refl refl (ap there (one_front t quality entry hs cs o.after.blocks held1))
        (emit_in_runs body (in_one d) (at_home (list_of_one quality entry) i) operation next start ls cs
        fits.1 alone
        (in_one_entry scopes d i ls quality entry setting) held0 levels high has scoped)
    emit_runs (under quality list body) d i operation next n ls cs fits alone setting held levels high has
        scoped =
        let stock = stock_with t scopes in
        let a = around seed i in
        let hs = i.homes in
        let z = size_in body in
        let p = passage_in t body in
        let entries = list_in t list in
        let start : Now = record n { blocks = listed quality entries 0 ∷ n.blocks } in
        let o = passage_plays p a start in
        let m = plays (play_in t (under quality list body)) a n in
        let inside = at_home (list_frame quality list) i in
        let ops = emit_in body inside (operation + 1) next in
        let has_body = has_front stock code (operation + 1) ops (op.Close ∷ []) has.1 in
        let has_close = (has_back stock code (operation + 1) z ops (op.Close ∷ [])
        (emit_in_length body inside (operation + 1) next) has.1).0 in
        let held0 : Held t (list_frame quality list ∷ hs) cs start.blocks = (refl, refl, fits.1, held) in
        let held1 = held_alike t (list_frame quality list ∷ hs) cs start.blocks o.after.blocks
        (passage_kept p a start) held0 in
        let held2 = held_alike t hs cs n.blocks m.after.blocks
        (plays_kept (play_in t (under quality list body)) a n) held in
        let set = in_list_more scopes d i ls quality list fits.2 setting in
        let small0 = room t scopes code (in_list quality d) inside ls cs start set held0 in
        let small2 = room t scopes code d i ls cs m.after setting held2 in
        let fs = frames_held hs cs n.blocks in
        let gs = frames_held hs cs m.after.blocks in
        let front = list_front t quality list hs cs o.after.blocks held1 in
        let s = at operation n ls fs in
        let opened = at (operation + 1) start ls (cycling entries 0 ∷ fs) in
        let inner = at (operation + 1 + z) o.after ls (front.frame ∷ gs) in
        let out = at (operation + 1 + z + 1) m.after ls gs in
        let soon = levels_earlier ls n.position m.after.position
        (plays_rise d (play_in t (under quality list body)) a n fits) high in
        let e : operation + 1 + z + 1 ≡ operation + (z + 2) = omega arith in
        let steps = steps_in p a start in
        let k : 1 + (steps + 1) ≡ 2 + steps = omega arith in
        let begin_step = one_silent code s opened
        (step_silent code s opened (action.begin entries) refl has.0 refl refl
        (holds_by opened small0.0 small0.1 soon)) in
        let close_step = one_silent code inner out (step_silent code inner out action.close refl has_close
        (lt-ltb 0 (length (front.frame ∷ gs)) (omega arith)) refl
        (holds_by out small2.0 small2.1 high)) in
        become code s _ _ _ _ _ _ k (append-nil (heard ls o.marks)) (ap (λ q. at q m.after ls gs) e)
        (after code s opened out 1 (steps + 1) [] (heard ls o.marks ++ []) begin_step
        (after code opened inner out steps 1 (heard ls o.marks) []
        (become code opened _ inner steps steps (heard ls o.marks) (heard ls o.marks) refl refl
        (ap (λ g. at (operation + 1 + z) o.after ls g) front.is)
        (emit_in_runs body (in_list quality d) inside (operation + 1) next start ls cs fits.3 alone set
        held0 levels high has_body scoped))
        close_step))

    -- statements in turn
    pub emit_in_runs : (b : Block) (d : Depths) (i : Inside) (operation next : ℕ) (n : Now)
        (ls : List OpenLevel) (cs : List Counter)
        → FitsIn d (passage_in t b) → forks_in b ≡ false → Setting scopes d i ls → Held t i.homes cs n.blocks
        → LevelsIn IsInTime (passage_in t b) (around seed i) n
        → levels_hold ls (passage_plays (passage_in t b) (around seed i) n).after.position ≡ true
        → HasAt (stock_with t scopes) code operation (emit_in b i operation next)
        → HasScopes scopes next (scopes_in b i.homes)
        → Reaches code i.homes cs ls operation n (steps_in (passage_in t b) (around seed i) n)
        (passage_plays (passage_in t b) (around seed i) n) (operation + size_in b)
    emit_in_runs done d i operation next n ls cs fits alone setting held levels high has scoped =
        let e : operation ≡ operation + 0 = omega arith in
        become code _ _ _ _ _ _ _ refl refl (ap (λ q. at q n ls (frames_held i.homes cs n.blocks)) e)
        (nothing code (at operation n ls (frames_held i.homes cs n.blocks)))
    emit_in_runs (item spot x more) d i operation next n ls cs fits alone setting held levels high has scoped =
        let stock = stock_with t scopes in
        let a = around seed i in
        let both = or_parts (forks x) (forks_in more) alone in
        let p = play_in t x in
        let q = passage_in t more in
        let m = plays p a n in
        let o = passage_plays q a m.after in
        let ops = emit x i operation next in
        let later = next + length (scopes_of x i.homes) in
        let others = emit_in more i (operation + size x) later in
        let held1 = held_alike t i.homes cs n.blocks m.after.blocks (plays_kept p a n) held in
        let soon = levels_earlier ls m.after.position o.after.position
        (passage_rises d q a m.after fits.1) high in
        let e : operation + size x + size_in more ≡ operation + (size x + size_in more) = omega arith in
        become code _ _ _ _ _ _ _ refl (sym (heard_append ls m.marks o.marks))
        (ap (λ k. at k o.after ls (frames_held i.homes cs o.after.blocks)) e)
        (after code _ _ _ (steps_of p a n) (steps_in q a m.after) (heard ls m.marks) (heard ls o.marks)
        (emit_runs x d i operation next n ls cs fits.0 both.0 setting held levels.1 soon
        (has_front stock code operation ops others has)
        (scopes_front scopes next (scopes_of x i.homes) (scopes_in more i.homes) scoped))
        (emit_in_runs more d i (operation + size x) later m.after ls cs fits.1 both.1 setting held1 levels.2 high
        (has_back stock code operation (size x) ops others (emit_length x i operation next) has)
        (scopes_back scopes next (scopes_of x i.homes) (scopes_in more i.homes) scoped)))
