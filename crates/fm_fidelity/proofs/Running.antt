-- Steps of a program, one list of them behind the other, with their exact number.
use Rattle.std.proofs.Common.{◌≡◌, ℕ, suc, ◌+◌, ◌<◌, Bool, true, List, [], ◌∷◌, ◌++◌, map, length, refl, sym, ap, ◌∙◌, subst, arith, append_assoc, length-append, get_or}
use Rattle.std.specs.Prelude.{Some, slice_get, if◌then◌else◌}
use Rattle.std.proofs.Math.Seq.{get_or-append_seam}
use Rattle.std.proofs.lemmas.List.{map-append, length-map}
use Rattle.std.proofs.lemmas.Option.{slice_get-get_or}
use Rattle.fm_line.specs.Marks.{Mark}
use Rattle.fm_program.specs.declared.op.Op.{Op}
use Rattle.fm_program.specs.Parts.{StockParts}
use Rattle.fm_program.specs.Action.{Action, action_of}
use Rattle.fm_program.specs.Needs.{is_open, holds}
use Rattle.fm_program.specs.State.{Standing}
use Rattle.fm_program.specs.Run.{stuck, silent, sounding, done, put_out, within_limits, step_at, step_from, step, Run, run_from, program_run}
use Rattle.fm_fidelity.proofs.Plain.{plain, heard_mark, heard}

-- ---- operations that stand in a program

-- these operations stand in it from an index on
abbrev pub HasAt : StockParts → List Action → ℕ → List Op → Type 0
HasAt t code operation [] = Unit {0}
HasAt t code operation (o ∷ os) = (slice_get code operation ≡ Some (action_of t o)) × HasAt t code (operation + 1) os

-- the first of two lists
pub has_front : (t : StockParts) (code : List Action) (operation : ℕ) (a b : List Op)
    → HasAt t code operation (a ++ b) → HasAt t code operation a
has_front t code operation [] b h = tt
has_front t code operation (o ∷ a) b h = (h.0, has_front t code (operation + 1) a b h.1)

-- the second, behind as many operations as the first has
pub has_back : (t : StockParts) (code : List Action) (operation n : ℕ) (a b : List Op) → length a ≡ n
    → HasAt t code operation (a ++ b)
    → HasAt t code (operation + n) b
has_back t code operation n [] b long h = subst (λ p. HasAt t code p b) (omega (arith, long)) h
has_back t code operation n (o ∷ a) b long h =
    let e : operation + 1 + length a ≡ operation + n = omega (arith, long) in
    subst (λ p. HasAt t code p b) e (has_back t code (operation + 1) (length a) a b refl h.1)

-- a list behind another
pub has_all : (t : StockParts) (os pre : List Op) → HasAt t (map (action_of t) (pre ++ os)) (length pre) os
has_all t [] pre = tt
has_all t (o ∷ os) pre =
    let code = map (action_of t) (pre ++ o ∷ os) in
    let behind = map (action_of t) os in
    let split : code ≡ map (action_of t) pre ++ action_of t o ∷ behind = map-append (action_of t) pre
    (o ∷ os) in
    let long : length (map (action_of t) pre) ≡ length pre = length-map pre (action_of t) in
    let within : length pre < length (map (action_of t) pre ++ action_of t o ∷ behind) =
    omega (arith, length-append (map (action_of t) pre) (action_of t o ∷ behind), long) in
    let here : slice_get code (length pre) ≡ Some (action_of t o) =
    ap (λ c. slice_get c (length pre)) split
    ∙ slice_get-get_or (map (action_of t) pre ++ action_of t o ∷ behind) (length pre) (action_of t o) within
    ∙ ap Some (ap (λ n. get_or (map (action_of t) pre ++ action_of t o ∷ behind) n (action_of t o)) (sym long)
    ∙ get_or-append_seam (map (action_of t) pre) (action_of t o) behind (action_of t o)) in
    let n : length (pre ++ o ∷ []) ≡ length pre + 1 = omega (arith, length-append pre (o ∷ [])) in
    let more = subst (λ l. HasAt t (map (action_of t) l) (length (pre ++ o ∷ [])) os)
    (append_assoc pre (o ∷ []) os)
    (has_all t os (pre ++ o ∷ [])) in
    (here, subst (λ m. HasAt t code m os) n more)

-- ---- runs

-- a run with its marks as they are heard
abbrev pub plain_run : Run → Run
plain_run r = record r { marks = map plain r.marks }

-- a run behind so many steps and their marks
abbrev pub run_behind : ℕ → List Mark → Run → Run
run_behind n es r = record { ended = r.ended; steps = n + r.steps; marks = es ++ r.marks; last = r.last }

-- after so many steps with these marks, as they are heard, a program leads from one state to another
pub record Runs (code : List Action) (s : Standing) (n : ℕ) (es : List Mark) (t : Standing) : Type 0 where
  pub by : (k : ℕ) → plain_run (program_run code (n + k) s) ≡ run_behind n es
      (plain_run (program_run code k t))

-- a run with another number of steps
abbrev run_counted : Bool → ℕ → List Mark → Standing → Run
run_counted ended steps marks last = record { ended = ended; steps = steps; marks = marks; last = last }

-- no step
pub nothing : (code : List Action) (s : Standing) → Runs code s 0 [] s
nothing code s = record {
  by = λ k. (
      let r = program_run code k s in
      let e : 0 + k ≡ k = omega arith in
      let z : r.steps ≡ 0 + r.steps = omega arith in
      ap (λ n. plain_run (program_run code n s)) e
      ∙ ap (λ n. run_counted r.ended n (map plain r.marks) r.last) z
      );
}

-- one silent step
pub one_silent : (code : List Action) (s t : Standing) → step code s ≡ silent t → Runs code s 1 [] t
one_silent code s t is = record {
  by = λ k. (
      let r = program_run code k t in
      let e : 1 + k ≡ suc k = omega arith in
      let z : r.steps + 1 ≡ 1 + r.steps = omega arith in
      ap (λ n. plain_run (program_run code n s)) e
      ∙ ap (λ x. plain_run (run_from x s (program_run code k))) is
      ∙ ap (λ n. run_counted r.ended n (map plain r.marks) r.last) z
      );
}

-- one step with a mark
pub one_sounding : (code : List Action) (s t : Standing) (m : Mark) → step code s ≡ sounding m t
    → Runs code s 1 (plain m ∷ []) t
one_sounding code s t m is = record {
  by = λ k. (
      let r = program_run code k t in
      let e : 1 + k ≡ suc k = omega arith in
      let z : r.steps + 1 ≡ 1 + r.steps = omega arith in
      ap (λ n. plain_run (program_run code n s)) e
      ∙ ap (λ x. plain_run (run_from x s (program_run code k))) is
      ∙ ap (λ n. run_counted r.ended n (plain m ∷ map plain r.marks) r.last) z
      );
}

-- steps behind steps
pub after : (code : List Action) (s t u : Standing) (n m : ℕ) (es fs : List Mark) → Runs code s n es t
    → Runs code t m fs u
    → Runs code s (n + m) (es ++ fs) u
after code s t u n m es fs a b = record {
  by = λ k. (
      let r = plain_run (program_run code k u) in
      let e : n + m + k ≡ n + (m + k) = omega arith in
      let z : n + (m + r.steps) ≡ n + m + r.steps = omega arith in
      ap (λ i. plain_run (program_run code i s)) e ∙ a.by (m + k) ∙ ap (run_behind n es) (b.by k)
      ∙ ap (λ i. run_counted r.ended i (es ++ (fs ++ r.marks)) r.last) z
      ∙ ap (λ l. run_counted r.ended (n + m + r.steps) l r.last) (sym (append_assoc es fs r.marks))
      );
}

-- the same steps, said otherwise
pub become : (code : List Action) (s t u : Standing) (n m : ℕ) (es fs : List Mark) → n ≡ m → es ≡ fs
    → t ≡ u → Runs code s n es t
    → Runs code s m fs u
become code s t u n m es fs a b c r =
    subst (λ x. Runs code s m fs x) c (subst (λ x. Runs code s m x t) b (subst (λ x. Runs code s x es t) a r))

-- the same from a state said otherwise
pub begin_at : (code : List Action) (s r t : Standing) (n : ℕ) (es : List Mark) → s ≡ r
    → Runs code r n es t → Runs code s n es t
begin_at code s r t n es is run = subst (λ x. Runs code x n es t) (sym is) run

-- ---- steps

-- an operation that gives no mark
pub step_silent : (code : List Action) (s t : Standing) (a : Action) → s.due ≡ []
    → slice_get code s.operation ≡ Some a
    → is_open a s ≡ true → done a s ≡ silent t → holds t ≡ true → step code s ≡ silent t
step_silent code s t a none here opened gives held =
    ap (step_from code s) none ∙ ap (λ o. step_at o s) here
    ∙ ap (λ b. if b then within_limits (done a s) else stuck) opened
    ∙ ap within_limits gives ∙ ap (λ b. if b then silent t else stuck) held

-- an operation that gives a mark
pub step_sounding : (code : List Action) (s t : Standing) (a : Action) (m : Mark) → s.due ≡ []
    → slice_get code s.operation ≡ Some a
    → is_open a s ≡ true → done a s ≡ sounding m t → holds t ≡ true → step code s ≡ sounding m t
step_sounding code s t a m none here opened gives held =
    ap (step_from code s) none ∙ ap (λ o. step_at o s) here
    ∙ ap (λ b. if b then within_limits (done a s) else stuck) opened
    ∙ ap within_limits gives ∙ ap (λ b. if b then sounding m t else stuck) held

-- the marks of a note that are due, one a step
pub due_runs : (code : List Action) (s : Standing) (ms : List Mark)
    → Runs code (record s { due = ms }) (length ms) (heard s.levels ms) (record s { due = [] })
due_runs code s [] = nothing code (record s { due = [] })
due_runs code s (m ∷ ms) =
    let n : 1 + length ms ≡ length (m ∷ ms) = omega arith in
    become code (record s { due = m ∷ ms }) (record s { due = [] }) (record s { due = [] }) _ _ _ _ n
    refl refl
    (after code _ (record s { due = ms }) _ 1 (length ms) (heard_mark s.levels m ∷ []) (heard s.levels ms)
    (one_sounding code (record s { due = m ∷ ms }) (record s { due = ms }) (put_out s.levels m) refl)
    (due_runs code s ms))
