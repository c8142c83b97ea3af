-- What a process of a plan that fits does, step by step.
use Rattle.std.proofs.Common.{◌≡◌, refl, sym, ◌∙◌, ap, subst, arith, ℕ, zero, suc, ◌+◌, ◌-◌, ◌<◌, ◌≤◌, List, [], ◌∷◌, ◌++◌, length, map, Bool, true, ◌&&◌, nat_lt, Option, Some, None, slice_get, slice_index_or, length-append, append-nil}
use Rattle.std.specs.List.{list_all}
use Rattle.std.specs.Option.{option_map, option_to_list}
use Rattle.std.proofs.Math.ListN.{get_or-append}
use Rattle.std.proofs.Math.Seq.{get_or-append_seam}
use Rattle.fm_msg.specs.Event.{TimedMessage}
use Rattle.fm_line.specs.Marks.{Mark, mark_event}
use Rattle.fm_program.specs.declared.op.Op.{Op}
use Rattle.fm_program.specs.declared.plan.TheConstants.{MAX_STEPS}
use Rattle.fm_program.specs.Parts.{StockParts, ProgramParts, PlanParts, no_program, process_program}
use Rattle.fm_program.specs.Action.{Action, action_of}
use Rattle.fm_program.specs.State.{Standing}
use Rattle.fm_program.specs.Run.{Stepped, over, stuck, silent, sounding, step, step_from, step_at, Run, program_run}
use Rattle.fm_program.specs.Process.{Played, no_played, start_spot, end_spot, later_spot, spot_reached, at_start, process_played, played_from, plan_played, process_run}
use Rattle.fm_program.specs.Fit.{PartsFit, all_steps, op_fits, ops_fit, program_fits}
use Rattle.fm_player.specs.Course.{begun, code_of, mark_events, standing, steps_of, to_come}
use Rattle.fm_player.specs.Player.{left_by}
use Rattle.fm_player.proofs.StockLemmas.{below_of, both, list_all-at}
use Rattle.fm_player.proofs.RunLemmas.{Ends, Goes, cut-next, follows, goes, marks_by, op-goes, quiet, same_run, sounds, stops}
use Rattle.fm_player.proofs.TickLemmas.{IsCalm, Ticks, ticks-done, ticks-due}

-- ---- the runs of all processes

-- what was played stays
played-kept : (t : StockParts) (seed j : ℕ) (acc : List Played) (ps : List ProgramParts) (k : ℕ) → k < length acc
    → slice_index_or (played_from t seed j acc ps) k no_played ≡ slice_index_or acc k no_played
played-kept t seed j acc [] k below = refl
played-kept t seed j acc (p ∷ ps) k below =
    let x = process_played t seed j p acc in
    played-kept t seed (j + 1) (acc ++ x ∷ []) ps k (omega (arith, length-append acc (x ∷ [])))
    ∙ get_or-append acc (x ∷ []) no_played k below

played-length : (t : StockParts) (seed j : ℕ) (acc : List Played) (ps : List ProgramParts)
    → length (played_from t seed j acc ps) ≡ length acc + length ps
played-length t seed j acc [] = let is : length acc ≡ length acc + 0 = omega arith in is
played-length t seed j acc (p ∷ ps) =
    let x = process_played t seed j p acc in
    played-length t seed (j + 1) (acc ++ x ∷ []) ps
    ∙ (let is : length (acc ++ x ∷ []) + length ps ≡ length acc + suc (length ps) = omega (arith, length-append acc (x ∷ [])) in is)

-- a start depends on the processes that it waits for
start_spot-same : (a b : List Played) (n : ℕ) (js : List ℕ)
    → ((q : ℕ) → q < n → slice_index_or a q no_played ≡ slice_index_or b q no_played)
    → list_all (λ q. nat_lt q n) js ≡ true → start_spot a js ≡ start_spot b js
start_spot-same a b n [] same below = refl
start_spot-same a b n (j ∷ js) same below =
    let split = both (nat_lt j n) (list_all (λ q. nat_lt q n) js) below in
    ap (λ (x : Played). later_spot (spot_reached x.run.last) (start_spot a js)) (same j (below_of j n split.0))
    ∙ ap (later_spot (end_spot b j)) (start_spot-same a b n js same split.1)

-- what a process plays, once all are known
pub record PlayedAs (t : StockParts) (seed : ℕ) (all : List Played) (j : ℕ) (prog : ProgramParts) (x : Played) : Type 0 where
  pub run : x.run ≡ program_run (map (action_of t) prog.ops) MAX_STEPS (at_start t seed j prog x.start)
  pub start : list_all (λ q. nat_lt q j) prog.predecessors ≡ true → x.start ≡ start_spot all prog.predecessors

played-at : (t : StockParts) (seed j : ℕ) (acc : List Played) (ps : List ProgramParts) (k : ℕ) → j ≡ length acc → k < length ps
    → PlayedAs t seed (played_from t seed j acc ps) (j + k) (slice_index_or ps k no_program)
    (slice_index_or (played_from t seed j acc ps) (j + k) no_played)
played-at t seed j acc [] k is below = absurd (omega arith)
played-at t seed j acc (p ∷ ps) (suc k) is below =
    let x = process_played t seed j p acc in
    let moved : j + 1 + k ≡ j + suc k = omega arith in
    subst (λ (i : ℕ). PlayedAs t seed (played_from t seed (j + 1) (acc ++ x ∷ []) ps) i (slice_index_or ps k no_program)
    (slice_index_or (played_from t seed (j + 1) (acc ++ x ∷ []) ps) i no_played)) moved
    (played-at t seed (j + 1) (acc ++ x ∷ []) ps k (omega (arith, length-append acc (x ∷ []))) (omega arith))
played-at t seed j acc (p ∷ ps) zero is below =
    let x = process_played t seed j p acc in
    let all = played_from t seed (j + 1) (acc ++ x ∷ []) ps in
    let here : j + 0 ≡ length acc = omega arith in
    let back : j ≡ j + 0 = omega arith in
    let entry : slice_index_or all (j + 0) no_played ≡ x =
    ap (λ (i : ℕ). slice_index_or all i no_played) here
    ∙ played-kept t seed (j + 1) (acc ++ x ∷ []) ps (length acc) (omega (arith, length-append acc (x ∷ [])))
    ∙ get_or-append_seam acc x [] no_played in
    subst (λ (y : Played). PlayedAs t seed all (j + 0) p y) (sym entry)
    (subst (λ (i : ℕ). PlayedAs t seed all i p x) back
    (record {
      run = refl;
      start = λ below. start_spot-same acc all j p.predecessors
          (λ q less. sym (played-kept t seed (j + 1) (acc ++ x ∷ []) ps q (omega (arith, length-append acc (x ∷ []), is))
          ∙ get_or-append acc (x ∷ []) no_played q (omega (arith, is)))) below;
    }))

-- what the process j plays
pub process-as : (p : PlanParts) (j : ℕ) → j < length p.programs
    → PlayedAs p.stock p.seed (plan_played p) j (process_program p j) (process_run p j)
process-as p j below =
    let none : 0 + j ≡ j = omega arith in
    subst (λ (i : ℕ). PlayedAs p.stock p.seed (plan_played p) i (process_program p j) (slice_index_or (plan_played p) i no_played)) none
    (played-at p.stock p.seed 0 [] p.programs j refl below)

pub plan_played-length : (p : PlanParts) → length (plan_played p) ≡ length p.programs
plan_played-length p =
    played-length p.stock p.seed 0 [] p.programs ∙ (let is : 0 + length p.programs ≡ length p.programs = omega arith in is)

-- it comes to its end
pub process-ends : (p : PlanParts) (j : ℕ) → PartsFit p → j < length p.programs → Ends (code_of p j) MAX_STEPS (steps_of p j) (begun p j)
process-ends p j fits below =
    let here = process-as p j below in
    record {
      ended = ap (λ (r : Run). r.ended) (sym here.run)
          ∙ list_all-at (λ q. q.run.ended) (plan_played p) j no_played fits.runs (omega (arith, plan_played-length p));
      count = ap (λ (r : Run). r.steps) (sym here.run);
    }

-- in not too many steps
steps-all : (ps : List Played) (j : ℕ) → j < length ps → (slice_index_or ps j no_played).run.steps ≤ all_steps ps
steps-all [] j below = absurd (omega arith)
steps-all (p ∷ ps) zero below = omega arith
steps-all (p ∷ ps) (suc j) below = omega (arith, steps-all ps j (omega arith))

pub steps-most : (p : PlanParts) (j : ℕ) → PartsFit p → j < length p.programs → steps_of p j ≤ MAX_STEPS
steps-most p j fits below = omega (arith, fits.steps, steps-all (plan_played p) j (omega (arith, plan_played-length p)))

-- ---- operations

-- each operation fits
pub op-at : (t : StockParts) (size first : ℕ) (os : List Op) (k : ℕ) (o : Op) → ops_fit t size first os ≡ true → slice_get os k ≡ Some o
    → op_fits t size (first + k) o ≡ true
op-at t size first [] k o fits is = absurd (none_some o is)
  where
    none_some : (x : Op) → None ≡ Some x → ⊥
    none_some x bad = cc
op-at t size first (x ∷ xs) zero o fits is =
    let same : x ≡ o = some_is x o is in
    let here : first ≡ first + 0 = omega arith in
    subst (λ (i : ℕ). op_fits t size i o ≡ true) here
    (subst (λ (y : Op). op_fits t size first y ≡ true) same (both (op_fits t size first x) (ops_fit t size (first + 1) xs) fits).0)
  where
    some_is : (a b : Op) → Some a ≡ Some b → a ≡ b
    some_is a b same = cc
op-at t size first (x ∷ xs) (suc k) o fits is =
    let moved : first + 1 + k ≡ first + suc k = omega arith in
    subst (λ (i : ℕ). op_fits t size i o ≡ true) moved
    (op-at t size (first + 1) xs k o (both (op_fits t size first x) (ops_fit t size (first + 1) xs) fits).1 is)

-- an operation of the process j fits
pub process-op : (p : PlanParts) (j k : ℕ) (o : Op) → PartsFit p → j < length p.programs → slice_get (process_program p j).ops k ≡ Some o
    → op_fits p.stock (length (process_program p j).ops) k o ≡ true
process-op p j k o fits below is =
    let g = process_program p j in
    let all = list_all-at (program_fits p.stock) p.programs j no_program fits.programs below in
    let ops : ops_fit p.stock (length g.ops) 0 g.ops ≡ true = first_of _ _ _ _ _ all in
    let none : 0 + k ≡ k = omega arith in
    subst (λ (i : ℕ). op_fits p.stock (length g.ops) i o ≡ true) none (op-at p.stock (length g.ops) 0 g.ops k o ops is)
  where
    first_of : (a b c d e : Bool) → (a && b && c && d && e) ≡ true → a ≡ true
    first_of a b c d e is = (both a b (both (a && b) c (both (a && b && c) d (both (a && b && c && d) e is).0).0).0).0

-- an operation that is looked up
pub get-action : (t : StockParts) (os : List Op) (k : ℕ) → slice_get (map (action_of t) os) k ≡ option_map (action_of t) (slice_get os k)
get-action t [] k = refl
get-action t (o ∷ os) zero = refl
get-action t (o ∷ os) (suc k) = get-action t os k

-- ---- steps

-- a step that can be made leaves a calm state
step-ticks : (p : PlanParts) (j : ℕ) (w : Standing) → PartsFit p → j < length p.programs → IsCalm w
    → (step (code_of p j) w ≡ over → ⊥) → (step (code_of p j) w ≡ stuck → ⊥) → Ticks w (step (code_of p j) w)
step-ticks p j w fits below calm lives goes-on = at w.due refl
  where
    at : (ms : List Mark) → w.due ≡ ms → Ticks w (step (code_of p j) w)
    at (m ∷ ms) due = subst (Ticks w) (sym (ap (step_from (code_of p j) w) due)) (ticks-due w m ms calm due)
    at [] due = found (slice_get (process_program p j).ops w.operation) refl
      where
        found : (o : Option Op) → slice_get (process_program p j).ops w.operation ≡ o → Ticks w (step (code_of p j) w)
        found None none =
            absurd (lives (ap (step_from (code_of p j) w) due
            ∙ ap (λ (a : Option Action). step_at a w) (get-action p.stock (process_program p j).ops w.operation
            ∙ ap (option_map (action_of p.stock)) none)))
        found (Some o) is =
            let made : step (code_of p j) w ≡ step_at (Some (action_of p.stock o)) w =
            ap (step_from (code_of p j) w) due
            ∙ ap (λ (a : Option Action). step_at a w)
            (get-action p.stock (process_program p j).ops w.operation ∙ ap (option_map (action_of p.stock)) is) in
            let can = op-goes (action_of p.stock o) w (λ stops. goes-on (made ∙ stops)) in
            subst (Ticks w) (sym (made ∙ can.is))
            (ticks-done (action_of p.stock o) w due)

-- the step n of a process
pub record Advances (p : PlanParts) (j n : ℕ) (x : Stepped) : Type 0 where
  pub left : n < steps_of p j
  pub next : standing p j (n + 1) ≡ left_by x (standing p j n)
  pub events : to_come p j n ≡ mark_events (marks_by x) ++ to_come p j (n + 1)
  pub stays : x ≡ stuck → ⊥
  pub ticks : IsCalm (standing p j n) → Ticks (standing p j n) x

after-one : (p : PlanParts) (j n : ℕ) → standing p j (n + 1) ≡ left_by (step (code_of p j) (standing p j n)) (standing p j n)
after-one p j n =
    ap (λ (k : ℕ). standing p j k) (let is : n + 1 ≡ suc n = omega arith in is) ∙ cut-next (code_of p j) n (begun p j)

over_silent : (t : Standing) → silent t ≡ over → ⊥
over_silent t is = cc

stuck_silent : (t : Standing) → silent t ≡ stuck → ⊥
stuck_silent t is = cc

over_sounding : (m : Mark) (t : Standing) → sounding m t ≡ over → ⊥
over_sounding m t is = cc

stuck_sounding : (m : Mark) (t : Standing) → sounding m t ≡ stuck → ⊥
stuck_sounding m t is = cc

-- a step that is not the end advances
pub advances : (p : PlanParts) (j n : ℕ) → PartsFit p → j < length p.programs → n ≤ steps_of p j
    → (step (code_of p j) (standing p j n) ≡ over → ⊥) → Advances p j n (step (code_of p j) (standing p j n))
unfolding to_come
advances p j n fits below within lives =
    at (goes (code_of p j) (MAX_STEPS - n) (steps_of p j - n) (standing p j n)
    (follows (code_of p j) MAX_STEPS (steps_of p j) n (begun p j) (process-ends p j fits below) within).ends)
  where
    at : Goes (code_of p j) (MAX_STEPS - n) (steps_of p j - n) (standing p j n) → Advances p j n (step (code_of p j) (standing p j n))
    at (stops none is marks last) = absurd (lives is)
    at (quiet k n' t kk ss is ends marks last) =
        let next : standing p j (n + 1) ≡ t = after-one p j n ∙ ap (λ (y : Stepped). left_by y (standing p j n)) is in
        let fuel : MAX_STEPS - (n + 1) ≡ k = omega arith in
        let stays : step (code_of p j) (standing p j n) ≡ stuck → ⊥ = λ bad. stuck_silent t (sym is ∙ bad) in
        record {
          left = omega arith;
          next = after-one p j n;
          events = ap mark_events (marks
              ∙ sym (ap (λ (r : Run). r.marks) (same_run (code_of p j) (MAX_STEPS - (n + 1)) k (standing p j (n + 1)) t fuel next)))
              ∙ ap (λ (y : Stepped). mark_events (marks_by y)
              ++ mark_events (program_run (code_of p j) (MAX_STEPS - (n + 1)) (standing p j (n + 1))).marks) (sym is);
          stays = stays;
          ticks = λ calm. step-ticks p j (standing p j n) fits below calm lives stays;
        }
    at (sounds k n' m t kk ss is ends marks last) =
        let next : standing p j (n + 1) ≡ t = after-one p j n ∙ ap (λ (y : Stepped). left_by y (standing p j n)) is in
        let fuel : MAX_STEPS - (n + 1) ≡ k = omega arith in
        let stays : step (code_of p j) (standing p j n) ≡ stuck → ⊥ = λ bad. stuck_sounding m t (sym is ∙ bad) in
        record {
          left = omega arith;
          next = after-one p j n;
          events = ap mark_events (marks
              ∙ sym (ap (λ (r : Run). m ∷ r.marks) (same_run (code_of p j) (MAX_STEPS - (n + 1)) k (standing p j (n + 1)) t fuel next)))
              ∙ ap (λ (ms : List TimedMessage). ms
              ++ mark_events (program_run (code_of p j) (MAX_STEPS - (n + 1)) (standing p j (n + 1))).marks)
              (sym (append-nil (option_to_list (mark_event m))))
              ∙ ap (λ (y : Stepped). mark_events (marks_by y)
              ++ mark_events (program_run (code_of p j) (MAX_STEPS - (n + 1)) (standing p j (n + 1))).marks) (sym is);
          stays = stays;
          ticks = λ calm. step-ticks p j (standing p j n) fits below calm lives stays;
        }

-- the end comes where no step is left
pub over-left : (p : PlanParts) (j n : ℕ) → PartsFit p → j < length p.programs → n ≤ steps_of p j
    → step (code_of p j) (standing p j n) ≡ over → (n ≡ steps_of p j) × (to_come p j n ≡ [])
unfolding to_come
over-left p j n fits below within ended =
    at (goes (code_of p j) (MAX_STEPS - n) (steps_of p j - n) (standing p j n)
    (follows (code_of p j) MAX_STEPS (steps_of p j) n (begun p j) (process-ends p j fits below) within).ends)
  where
    at : Goes (code_of p j) (MAX_STEPS - n) (steps_of p j - n) (standing p j n)
        → (n ≡ steps_of p j) × (mark_events (program_run (code_of p j) (MAX_STEPS - n) (standing p j n)).marks ≡ [])
    at (stops none is marks last) = (omega arith, ap mark_events marks)
    at (quiet k n' t kk ss is ends marks last) = absurd (over_silent t (sym is ∙ ended))
    at (sounds k n' m t kk ss is ends marks last) = absurd (over_sounding m t (sym is ∙ ended))

pub left-over : (p : PlanParts) (j n : ℕ) → PartsFit p → j < length p.programs → n ≤ steps_of p j → steps_of p j - n ≡ 0
    → step (code_of p j) (standing p j n) ≡ over
left-over p j n fits below within none =
    at (goes (code_of p j) (MAX_STEPS - n) (steps_of p j - n) (standing p j n)
    (follows (code_of p j) MAX_STEPS (steps_of p j) n (begun p j) (process-ends p j fits below) within).ends)
  where
    at : Goes (code_of p j) (MAX_STEPS - n) (steps_of p j - n) (standing p j n) → step (code_of p j) (standing p j n) ≡ over
    at (stops none' is marks last) = is
    at (quiet k n' t kk ss is ends marks last) = absurd (omega arith)
    at (sounds k n' m t kk ss is ends marks last) = absurd (omega arith)

-- every state of a process is calm
pub calm-standing : (p : PlanParts) (j n : ℕ) → PartsFit p → j < length p.programs → n ≤ steps_of p j → IsCalm (standing p j n)
calm-standing p j zero fits below within = tt
calm-standing p j (suc n) fits below within =
    let before = calm-standing p j n fits below (omega arith) in
    let lives : step (code_of p j) (standing p j n) ≡ over → ⊥ = λ ended.
    (let gone : n ≡ steps_of p j = (over-left p j n fits below (omega arith) ended).0 in omega arith) in
    let goes-on = advances p j n fits below (omega arith) lives in
    subst IsCalm (sym (cut-next (code_of p j) n (begun p j))) (goes-on.ticks before).calm
