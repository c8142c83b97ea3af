-- The runs of loops, lists and blocks of one entry.
use Rattle.std.proofs.Common.{◌≡◌, ℕ, zero, suc, ◌+◌, ◌≤◌, true, List, [], ◌∷◌, map, length, drop, refl, sym, ap, ◌∙◌, subst, arith, append-nil}
use Rattle.std.specs.Prelude.{Some, slice_get}
use Rattle.std.proofs.lemmas.Bool.{eq-eqb}
use Rattle.fm_nest.specs.declared.nest.TheConstants.{MAX_LEVELS}
use Rattle.fm_program.specs.declared.op.TheConstants.{MAX_FRAMES}
use Rattle.fm_program.specs.Action.{Action, again}
use Rattle.fm_program.specs.Needs.{levels_hold}
use Rattle.fm_program.specs.State.{OpenFrame, counting, cycling, OpenLevel, Standing}
use Rattle.fm_program.specs.Run.{silent, round_over}
use Rattle.fm_meaning.specs.State.{OpenBlock, looped, listed, restarted, Now}
use Rattle.fm_meaning.specs.Played.{Made, in_block, rounds}
use Rattle.fm_promise.specs.Levels.{EachRound}
use Rattle.fm_expansion.specs.Outline.{Tables}
use Rattle.fm_expansion.specs.Homes.{Home, loop_frame, loop_round, list_frame, list_of_one, frames_of}
use Rattle.fm_fidelity.proofs.Plain.{heard, heard_append}
use Rattle.fm_fidelity.proofs.Running.{Runs, one_silent, after, become, begin_at, step_silent}
use Rattle.fm_fidelity.proofs.Keeping.{block_kept}
use Rattle.fm_expansion.proofs.Frames.{Counter, frames_held, Held, held_length, held_alike}
use Rattle.fm_fidelity.proofs.Drawing.{at}
use Rattle.fm_fidelity.proofs.Rising.{levels_earlier, rounds_rise}
use Rattle.fm_expansion.proofs.Settings.{holds_by}
use Rattle.fm_fidelity.proofs.Steps.{rounds_steps}
use Rattle.fm_fidelity.proofs.Atoms.{Reaches}

-- ---- what is open innermost

-- whether a block is the round of a loop, and of which one
abbrev IsRound : List OpenBlock → ℕ → Type 0
IsRound [] i = ⊥
IsRound (looped j ∷ bs) i = j ≡ i
IsRound (listed q es c ∷ bs) i = ⊥

-- blocks that are those of a round but for their cursors
round_first : (i : ℕ) (bs ds : List OpenBlock) → map restarted bs ≡ looped i ∷ ds → IsRound bs i
round_first i [] ds same = subst (λ x. IsRound x i) (sym same) refl
round_first i (looped j ∷ bs) ds same = subst (λ x. IsRound x i) (sym same) refl
round_first i (listed q es c ∷ bs) ds same = subst (λ x. IsRound x i) (sym same) refl

-- the frame of the loop stands in front
round_front : (i : ℕ) (hs : List Home) (c : Counter) (cs : List Counter) (bs : List OpenBlock) → IsRound bs i
    → frames_held (loop_frame ∷ hs) (c ∷ cs) bs ≡ counting i c.left c.back ∷ frames_held hs cs (drop 1 bs)
round_front i hs c cs [] is = absurd is
round_front i hs c cs (looped j ∷ bs) is = ap (λ k. counting k c.left c.back ∷ frames_held hs cs bs) is
round_front i hs c cs (listed q es k ∷ bs) is = absurd is

-- the frames behind the innermost one
abbrev pub frames_behind : List OpenFrame → List OpenFrame
frames_behind [] = []
frames_behind (f ∷ fs) = fs

-- a frame in front of others
pub record Front (fs gs : List OpenFrame) : Type 0 where
  pub frame : OpenFrame
  pub is : fs ≡ frame ∷ gs

-- the frame of a list stands in front
pub list_front : (t : Tables) (q : _) (l : ℕ) (hs : List Home) (cs : List Counter) (bs : List OpenBlock)
    → Held t (list_frame q l ∷ hs) cs bs → Front (frames_held (list_frame q l ∷ hs) cs bs)
    (frames_held hs cs (drop 1 bs))
list_front t q l hs cs (listed p es c ∷ bs) h = record { frame = cycling es c; is = refl }
list_front t q l hs cs bs h = absurd h

-- a list of one entry has no frame
pub one_front : (t : Tables) (q : _) (v : ℕ) (hs : List Home) (cs : List Counter) (bs : List OpenBlock)
    → Held t (list_of_one q v ∷ hs) cs bs → frames_held (list_of_one q v ∷ hs) cs bs ≡ frames_held hs cs
    (drop 1 bs)
one_front t q v hs cs (listed p es c ∷ bs) h = refl
one_front t q v hs cs bs h = absurd h

-- nor has a round that is written out
pub written_front : (t : Tables) (j : ℕ) (hs : List Home) (cs : List Counter) (bs : List OpenBlock)
    → Held t (loop_round j ∷ hs) cs bs → frames_held (loop_round j ∷ hs) cs bs ≡ frames_held hs cs (drop 1 bs)
written_front t j hs cs (looped i ∷ bs) h = refl
written_front t j hs cs bs h = absurd h

-- ---- rounds

module _ (t : Tables) (code : List Action) (hs : List Home) (cs : List Counter) (ls : List OpenLevel)
    (operation z : ℕ)
    (steps : ℕ → Now → ℕ) (inside : Now → Made) (Q : ℕ → Now → Type 0)
    (here : slice_get code (operation + 1 + z) ≡ Some (again (operation + 1)))
    (few : frames_of hs + 1 ≤ MAX_FRAMES) (flat : length ls ≤ MAX_LEVELS)
    (kept : (m : Now) → map restarted (inside m).after.blocks ≡ map restarted m.blocks)
    (rise : (m : Now) → m.position ≤ (inside m).after.position)
    (each : (i left : ℕ) (m : Now) → Held t hs cs m.blocks → Q i m
    → levels_hold ls (inside (record m { blocks = looped i ∷ m.blocks })).after.position ≡ true
    → Reaches code (loop_frame ∷ hs) (record { left = left; back = operation + 1 } ∷ cs) ls (operation + 1)
    (record m { blocks = looped i ∷ m.blocks }) (steps i m)
    (inside (record m { blocks = looped i ∷ m.blocks })) (operation + 1 + z)) where
  -- a round
  abbrev body : ℕ → Now → Made
  body i m = in_block (looped i) inside m

  -- the state inside it
  abbrev within : ℕ → Now → Now
  within i m = record m { blocks = looped i ∷ m.blocks }

  -- the state behind it
  abbrev behind : ℕ → Now → Now
  behind i m = (body i m).after

  -- what is open behind a round
  held_behind : (i : ℕ) (m : Now) → Held t hs cs m.blocks → Held t hs cs (behind i m).blocks
  held_behind i m held = held_alike t hs cs m.blocks (behind i m).blocks
      (block_kept (looped i) inside m kept) held

  -- the frames behind the body of a round
  frames_there : (i left : ℕ) (m : Now) → frames_held (loop_frame ∷ hs)
      (record { left = left; back = operation + 1 } ∷ cs)
      (inside (within i m)).after.blocks ≡ counting i left (operation + 1) ∷ frames_held hs cs (behind i m).blocks
  frames_there i left m = round_front i hs (record { left = left; back = operation + 1 }) cs
      (inside (within i m)).after.blocks
      (round_first i (inside (within i m)).after.blocks (map restarted m.blocks) (kept (within i m)))

  -- the end of a round
  again_step : (i left : ℕ) (m : Now) (s : Standing) → Held t hs cs m.blocks
      → s ≡ round_over (operation + 1) (at (operation + 1 + z) (behind i m) ls
      (counting i left (operation + 1) ∷ frames_held hs cs (behind i m).blocks))
      (counting i left (operation + 1) ∷ frames_held hs cs (behind i m).blocks)
      → length s.frames ≤ MAX_FRAMES → s.levels ≡ ls → s.position ≡ (behind i m).position
      → levels_hold ls (behind i m).position ≡ true
      → Runs code (at (operation + 1 + z) (inside (within i m)).after ls
      (frames_held (loop_frame ∷ hs) (record { left = left; back = operation + 1 } ∷ cs)
      (inside (within i m)).after.blocks)) 1 [] s
  again_step i left m s held is frames levels position fits =
      let fs = counting i left (operation + 1) ∷ frames_held hs cs (behind i m).blocks in
      let from = at (operation + 1 + z) (behind i m) ls fs in
      begin_at code _ from s 1 [] (ap (λ g. at (operation + 1 + z) (behind i m) ls g) (frames_there i left m))
      (one_silent code from s (step_silent code from s (again (operation + 1)) refl here
      (eq-eqb (operation + 1) (operation + 1) refl) (ap silent (sym is))
      (holds_by s frames (subst (λ l. length l ≤ MAX_LEVELS) (sym levels) flat)
      (subst (λ l. levels_hold l s.position ≡ true) (sym levels)
      (subst (λ p. levels_hold ls p ≡ true) (sym position) fits)))))

  -- as many rounds as are left, and this one
  pub rounds_run : (left i : ℕ) (m : Now) → Held t hs cs m.blocks → EachRound Q body (suc left) i m
      → levels_hold ls (rounds body (suc left) i m).after.position ≡ true
      → Runs code (at (operation + 1) m ls (counting i left (operation + 1) ∷ frames_held hs cs m.blocks))
      (rounds_steps steps body (suc left) i m) (heard ls (rounds body (suc left) i m).marks)
      (at (operation + z + 2) (rounds body (suc left) i m).after ls
      (frames_held hs cs (rounds body (suc left) i m).after.blocks))
  rounds_run zero i m held levels fits =
      let o = inside (within i m) in
      let next = behind i m in
      let fs = frames_held hs cs next.blocks in
      let end : Standing = at (operation + 1 + z + 1) next ls fs in
      let held1 = held_behind i m held in
      let p : operation + 1 + z + 1 ≡ operation + z + 2 = omega arith in
      let n : steps i m + 1 ≡ rounds_steps steps body 1 i m = omega arith in
      become code _ _ _ _ _ _ _ n (append-nil (heard ls o.marks) ∙ ap (heard ls) (sym (append-nil o.marks)))
      (ap (λ q. at q next ls fs) p)
      (after code _ _ end (steps i m) 1 (heard ls o.marks) [] (each i 0 m held levels.0 fits)
      (again_step i 0 m end held refl (omega (arith, held_length t hs cs next.blocks held1, few)) refl
      refl fits))
  rounds_run (suc left) i m held levels fits =
      let o = inside (within i m) in
      let next = behind i m in
      let fs = frames_held hs cs next.blocks in
      let end : Standing = at (operation + 1) next ls (counting (i + 1) left (operation + 1) ∷ fs) in
      let held1 = held_behind i m held in
      let others = rounds body (suc left) (i + 1) next in
      let soon = levels_earlier ls next.position others.after.position
      (rounds_rise body (suc left) (i + 1) next (λ j k. rise (within j k))) fits in
      let n : steps i m + (1 + rounds_steps steps body (suc left) (i + 1) next) ≡ rounds_steps steps
      body (suc (suc left)) i m = omega arith in
      become code _ _ _ _ _ _ _ n (sym (heard_append ls o.marks others.marks)) refl
      (after code _ _ _ (steps i m) (1 + rounds_steps steps body (suc left) (i + 1) next)
      (heard ls o.marks) (heard ls others.marks)
      (each i (suc left) m held levels.0 soon)
      (after code _ end _ 1 (rounds_steps steps body (suc left) (i + 1) next) [] (heard ls others.marks)
      (again_step i (suc left) m end held refl
      (omega (arith, held_length t hs cs next.blocks held1, few)) refl refl soon)
      (rounds_run left (i + 1) next held1 levels.1 fits)))
