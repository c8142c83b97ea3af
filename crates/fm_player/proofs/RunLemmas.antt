-- Runs that come to their end, step by step.
use Rattle.std.proofs.Common.{◌≡◌, refl, sym, ◌∙◌, ap, subst, arith, ℕ, zero, suc, ◌-◌, ◌≤◌, List, [], ◌∷◌, ◌++◌, Bool, true, false, Some, if◌then◌else◌, append_assoc, append-nil}
use Rattle.fm_line.specs.Marks.{Mark}
use Rattle.fm_program.specs.Action.{Action, note, rest, send, assign, choose, jump, loop, again, begin, close, enter, leave}
use Rattle.fm_program.specs.State.{Standing}
use Rattle.fm_program.specs.Needs.{is_open, holds}
use Rattle.fm_program.specs.Run.{Stepped, over, stuck, silent, sounding, done, step, step_at, within_limits, Run, run_done, run_from, program_run}
use Rattle.fm_program.specs.Cut.{cut_from, cut_run}
use Rattle.fm_player.specs.Player.{left_by}
use Rattle.fm_player.proofs.FrameLemmas.{false_true}

-- the marks of a step
abbrev pub marks_by : Stepped → List Mark
marks_by over = []
marks_by stuck = []
marks_by (silent s) = []
marks_by (sounding m s) = m ∷ []

-- ---- one step more

-- a cut after one step more
pub cut-next : (code : List Action) (n : ℕ) (s : Standing)
    → (cut_run code (suc n) s).now ≡ left_by (step code (cut_run code n s).now) (cut_run code n s).now
cut-next code zero s = at (step code s)
  where
    at : (x : Stepped) → (cut_from x s (cut_run code zero)).now ≡ left_by x s
    at over = refl
    at stuck = refl
    at (silent t) = refl
    at (sounding m t) = refl
cut-next code (suc n) s = at (cut-next code n) (step code s) refl
  where
    at : ((t : Standing) → (cut_run code (suc n) t).now ≡ left_by (step code (cut_run code n t).now) (cut_run code n t).now)
        → (x : Stepped) → step code s ≡ x
        → (cut_from x s (cut_run code (suc n))).now
        ≡ left_by (step code (cut_from x s (cut_run code n)).now) (cut_from x s (cut_run code n)).now
    at later over is = sym (ap (λ (y : Stepped). left_by y s) is)
    at later stuck is = sym (ap (λ (y : Stepped). left_by y s) is)
    at later (silent t) is = later t
    at later (sounding m t) is = later t

-- and its marks
pub cut-marks : (code : List Action) (n : ℕ) (s : Standing)
    → (cut_run code (suc n) s).marks ≡ (cut_run code n s).marks ++ marks_by (step code (cut_run code n s).now)
cut-marks code zero s = at (step code s)
  where
    at : (x : Stepped) → (cut_from x s (cut_run code zero)).marks ≡ marks_by x
    at over = refl
    at stuck = refl
    at (silent t) = refl
    at (sounding m t) = refl
cut-marks code (suc n) s = at (cut-marks code n) (step code s) refl
  where
    at : ((t : Standing) → (cut_run code (suc n) t).marks ≡ (cut_run code n t).marks ++ marks_by (step code (cut_run code n t).now))
        → (x : Stepped) → step code s ≡ x
        → (cut_from x s (cut_run code (suc n))).marks
        ≡ (cut_from x s (cut_run code n)).marks ++ marks_by (step code (cut_from x s (cut_run code n)).now)
    at later over is = sym (ap marks_by is)
    at later stuck is = sym (ap marks_by is)
    at later (silent t) is = later t
    at later (sounding m t) is = ap (λ (ms : List Mark). m ∷ ms) (later t)

-- ---- runs that end

-- a run that comes to its end in so many steps
pub record Ends (code : List Action) (k steps : ℕ) (s : Standing) : Type 0 where
  pub ended : (program_run code k s).ended ≡ true
  pub count : (program_run code k s).steps ≡ steps

-- the step of a run that has some left
pub data Goes (code : List Action) (k steps : ℕ) (s : Standing) : Type 0 where
  quiet : (k' n : ℕ) (t : Standing) → k ≡ suc k' → steps ≡ suc n → step code s ≡ silent t → Ends code k' n t
      → (program_run code k s).marks ≡ (program_run code k' t).marks
      → (program_run code k s).last ≡ (program_run code k' t).last → Goes code k steps s
  sounds : (k' n : ℕ) (m : Mark) (t : Standing) → k ≡ suc k' → steps ≡ suc n → step code s ≡ sounding m t → Ends code k' n t
      → (program_run code k s).marks ≡ m ∷ (program_run code k' t).marks
      → (program_run code k s).last ≡ (program_run code k' t).last → Goes code k steps s
  stops : steps ≡ 0 → step code s ≡ over → (program_run code k s).marks ≡ [] → (program_run code k s).last ≡ s → Goes code k steps s

pub goes : (code : List Action) (k steps : ℕ) (s : Standing) → Ends code k steps s → Goes code k steps s
goes code zero steps s ends = at (step code s) refl ends.ended ends.count
  where
    at : (x : Stepped) → step code s ≡ x → (run_from x s (run_done false)).ended ≡ true → (run_from x s (run_done false)).steps ≡ steps
        → Goes code zero steps s
    at over is ended count =
        stops (sym count) is (ap (λ (y : Stepped). (run_from y s (run_done false)).marks) is)
        (ap (λ (y : Stepped). (run_from y s (run_done false)).last) is)
    at stuck is ended count = absurd (false_true ended)
    at (silent t) is ended count = absurd (false_true ended)
    at (sounding m t) is ended count = absurd (false_true ended)
goes code (suc k) steps s ends = at (step code s) refl ends.ended ends.count
  where
    at : (x : Stepped) → step code s ≡ x → (run_from x s (program_run code k)).ended ≡ true
        → (run_from x s (program_run code k)).steps ≡ steps → Goes code (suc k) steps s
    at over is ended count =
        stops (sym count) is (ap (λ (y : Stepped). (run_from y s (program_run code k)).marks) is)
        (ap (λ (y : Stepped). (run_from y s (program_run code k)).last) is)
    at stuck is ended count = absurd (false_true ended)
    at (silent t) is ended count =
        quiet k (program_run code k t).steps t refl (let one : steps ≡ suc (program_run code k t).steps = omega (arith, count) in one) is
        (record { ended = ended; count = refl })
        (ap (λ (y : Stepped). (run_from y s (program_run code k)).marks) is)
        (ap (λ (y : Stepped). (run_from y s (program_run code k)).last) is)
    at (sounding m t) is ended count =
        sounds k (program_run code k t).steps m t refl (let one : steps ≡ suc (program_run code k t).steps = omega (arith, count) in one) is
        (record { ended = ended; count = refl })
        (ap (λ (y : Stepped). (run_from y s (program_run code k)).marks) is)
        (ap (λ (y : Stepped). (run_from y s (program_run code k)).last) is)

-- ---- what follows the first n steps

-- the run from where the first n steps lead comes to its end in the steps that are left, to the same last state
pub record Follows (code : List Action) (k steps n : ℕ) (s : Standing) : Type 0 where
  pub ends : Ends code (k - n) (steps - n) (cut_run code n s).now
  pub last : (program_run code (k - n) (cut_run code n s).now).last ≡ (program_run code k s).last
  pub marks : (program_run code k s).marks ≡ (cut_run code n s).marks ++ (program_run code (k - n) (cut_run code n s).now).marks

pub same_run : (code : List Action) (k l : ℕ) (s t : Standing) → k ≡ l → s ≡ t → program_run code k s ≡ program_run code l t
same_run code k l s t kl st = ap (λ (j : ℕ). program_run code j s) kl ∙ ap (program_run code l) st

same_ends : (code : List Action) (k l m n : ℕ) (s t : Standing) → k ≡ l → m ≡ n → s ≡ t → Ends code l n t → Ends code k m s
same_ends code k l m n s t kl mn st ends = record {
  ended = ap (λ (r : Run). r.ended) (same_run code k l s t kl st) ∙ ends.ended;
  count = ap (λ (r : Run). r.steps) (same_run code k l s t kl st) ∙ ends.count ∙ sym mn;
}

follows-one : (code : List Action) (k steps n : ℕ) (s : Standing) → suc n ≤ steps → Follows code k steps n s
    → Goes code (k - n) (steps - n) (cut_run code n s).now → Follows code k steps (suc n) s
follows-one code k steps n s within before (quiet k' n' t kk ss is ends marks last) =
    let now : (cut_run code (suc n) s).now ≡ t = cut-next code n s ∙ ap (λ (y : Stepped). left_by y (cut_run code n s).now) is in
    let fuel : k - suc n ≡ k' = omega arith in
    let left : steps - suc n ≡ n' = omega arith in
    let run = same_run code (k - suc n) k' (cut_run code (suc n) s).now t fuel now in
    record {
      ends = same_ends code (k - suc n) k' (steps - suc n) n' (cut_run code (suc n) s).now t fuel left now ends;
      last = ap (λ (r : Run). r.last) run ∙ sym last ∙ before.last;
      marks = before.marks ∙ ap (λ (ms : List Mark). (cut_run code n s).marks ++ ms) (marks ∙ sym (ap (λ (r : Run). r.marks) run))
          ∙ ap (λ (ms : List Mark). ms ++ (program_run code (k - suc n) (cut_run code (suc n) s).now).marks)
          (sym (cut-marks code n s ∙ ap (λ (y : Stepped). (cut_run code n s).marks ++ marks_by y) is
          ∙ append-nil (cut_run code n s).marks));
    }
follows-one code k steps n s within before (sounds k' n' m t kk ss is ends marks last) =
    let now : (cut_run code (suc n) s).now ≡ t = cut-next code n s ∙ ap (λ (y : Stepped). left_by y (cut_run code n s).now) is in
    let fuel : k - suc n ≡ k' = omega arith in
    let left : steps - suc n ≡ n' = omega arith in
    let run = same_run code (k - suc n) k' (cut_run code (suc n) s).now t fuel now in
    record {
      ends = same_ends code (k - suc n) k' (steps - suc n) n' (cut_run code (suc n) s).now t fuel left now ends;
      last = ap (λ (r : Run). r.last) run ∙ sym last ∙ before.last;
      marks = before.marks
          ∙ ap (λ (ms : List Mark). (cut_run code n s).marks ++ ms) (marks ∙ sym (ap (λ (r : Run). m ∷ r.marks) run))
          ∙ sym (append_assoc (cut_run code n s).marks (m ∷ []) _)
          ∙ ap (λ (ms : List Mark). ms ++ (program_run code (k - suc n) (cut_run code (suc n) s).now).marks)
          (sym (cut-marks code n s ∙ ap (λ (y : Stepped). (cut_run code n s).marks ++ marks_by y) is));
    }
follows-one code k steps n s within before (stops none is marks last) = absurd (omega arith)

pub follows : (code : List Action) (k steps n : ℕ) (s : Standing) → Ends code k steps s → n ≤ steps → Follows code k steps n s
follows code k steps zero s ends within =
    let whole : k - 0 ≡ k = omega arith in
    let steps_whole : steps - 0 ≡ steps = omega arith in
    record {
      ends = same_ends code (k - 0) k (steps - 0) steps s s whole steps_whole refl ends;
      last = ap (λ (j : ℕ). (program_run code j s).last) whole;
      marks = ap (λ (j : ℕ). (program_run code j s).marks) (sym whole);
    }
follows code k steps (suc n) s ends within =
    let before = follows code k steps n s ends (omega arith) in
    follows-one code k steps n s within before (goes code (k - n) (steps - n) (cut_run code n s).now before.ends)

-- ---- a step of an operation

-- where a step can be made and nothing is due, its operation is open and leaves the limits kept
pub record OpGoes (a : Action) (w : Standing) (x : Stepped) : Type 0 where
  pub opened : is_open a w ≡ true
  pub within : holds (left_by (done a w) w) ≡ true
  pub is : x ≡ done a w

-- whether a step leaves a state
abbrev tells : Stepped → Bool
tells over = false
tells stuck = false
tells (silent s) = true
tells (sounding m s) = true

done-tells : (a : Action) (w : Standing) → tells (done a w) ≡ true
done-tells (note pitches span ch gate loud scope) w = refl
done-tells (rest span scope) w = refl
done-tells (send pt ch amount scope) w = refl
done-tells (assign r e scope) w = refl
done-tells (choose e scope past) w = refl
done-tells (jump to) w = refl
done-tells (loop count scope past) w = refl
done-tells (again back) w = refl
done-tells (begin entries) w = refl
done-tells close w = refl
done-tells (enter v parts) w = refl
done-tells leave w = refl

within-limits : (a : Action) (w : Standing) (x : Stepped) → done a w ≡ x → (within_limits x ≡ stuck → ⊥)
    → is_open a w ≡ true → OpGoes a w (within_limits x)
within-limits a w over is stays opened = absurd (false_true (sym (ap tells is) ∙ done-tells a w))
within-limits a w stuck is stays opened = absurd (stays refl)
within-limits a w (silent t) is stays opened = at (holds t) refl
  where
    at : (b : Bool) → holds t ≡ b → OpGoes a w (if holds t then silent t else stuck)
    at true kept = record {
      opened = opened;
      within = ap (λ (y : Stepped). holds (left_by y w)) is ∙ kept;
      is = ap (λ (c : Bool). if c then silent t else stuck) kept ∙ sym is;
    }
    at false kept = absurd (stays (ap (λ (c : Bool). if c then silent t else stuck) kept))
within-limits a w (sounding m t) is stays opened = at (holds t) refl
  where
    at : (b : Bool) → holds t ≡ b → OpGoes a w (if holds t then sounding m t else stuck)
    at true kept = record {
      opened = opened;
      within = ap (λ (y : Stepped). holds (left_by y w)) is ∙ kept;
      is = ap (λ (c : Bool). if c then sounding m t else stuck) kept ∙ sym is;
    }
    at false kept = absurd (stays (ap (λ (c : Bool). if c then sounding m t else stuck) kept))

pub op-goes : (a : Action) (w : Standing) → (step_at (Some a) w ≡ stuck → ⊥) → OpGoes a w (step_at (Some a) w)
op-goes a w stays = at (is_open a w) refl
  where
    at : (b : Bool) → is_open a w ≡ b → OpGoes a w (if is_open a w then within_limits (done a w) else stuck)
    at true is =
        let P : Stepped → Type 0 = OpGoes a w in
        subst P (sym (ap (λ (c : Bool). if c then within_limits (done a w) else stuck) is))
        (within-limits a w (done a w) refl
        (λ stops. stays (ap (λ (c : Bool). if c then within_limits (done a w) else stuck) is ∙ stops)) is)
    at false is = absurd (stays (ap (λ (c : Bool). if c then within_limits (done a w) else stuck) is))

silent_over : (t : Standing) → silent t ≡ over → ⊥
silent_over t is = cc

pub sounding_over : (m : Mark) (t : Standing) → sounding m t ≡ over → ⊥
sounding_over m t is = cc

stuck_over : stuck ≡ over → ⊥
stuck_over is = cc

within_over : (x : Stepped) → tells x ≡ true → within_limits x ≡ over → ⊥
within_over over told is = false_true told
within_over stuck told is = false_true told
within_over (silent t) told is = at (holds t) is
  where
    at : (b : Bool) → (if b then silent t else stuck) ≡ over → ⊥
    at true same = silent_over t same
    at false same = stuck_over same
within_over (sounding m t) told is = at (holds t) is
  where
    at : (b : Bool) → (if b then sounding m t else stuck) ≡ over → ⊥
    at true same = sounding_over m t same
    at false same = stuck_over same

-- an operation is never the end
pub step_at_over : (a : Action) (w : Standing) → step_at (Some a) w ≡ over → ⊥
step_at_over a w is = at (is_open a w) is
  where
    at : (b : Bool) → (if b then within_limits (done a w) else stuck) ≡ over → ⊥
    at true same = within_over (done a w) (done-tells a w) same
    at false same = stuck_over same
