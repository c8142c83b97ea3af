-- What is done and what the rest adds are the whole.
use Rattle.std.proofs.Common.{◌≡◌, ℕ, ◌+◌, ◌*◌, ◌<◌, ◌≤◌, min, nat_lt, Bool, true, false, cond, List, ◌∷◌, length, drop, get_or, refl, sym, ap, subst, ◌∙◌, arith}
use Rattle.std.proofs.lemmas.List.{drop_more, drop_all}
use Rattle.fm_program.specs.declared.op.Op.{Op}
use Rattle.fm_program.specs.declared.op.Op.TheVariants as op
use Rattle.fm_program.specs.declared.op.Count.TheVariants as count
use Rattle.fm_program.specs.Parts.{ProgramParts, no_program}
use Rattle.fm_effort.specs.declared.load.Load.{Load}
use Rattle.fm_effort.specs.declared.load.TheConstants.{MOST_OPERATIONS}
use Rattle.fm_effort.specs.declared.enclosing.Enclosing.{Enclosing}
use Rattle.fm_effort.specs.Effort.{largest, counted, Surroundings, behind, Effort, no_effort, effort_sum, rounds_in, op_work, op_events, effort_at, ops_effort, program_effort, all_effort, all_operations}
use Rattle.fm_effort.specs.Kept.{load_for, with_effort, Encloses}
use Rattle.fm_effort.proofs.NumberLemmas.{counted_below, counted_most, counted_twice, added_rounds, added_none}
use Rattle.fm_effort.proofs.TableLemmas.{outer_length}

-- ---- loads

-- so long, and so many
abbrev pub load_pair : (work events : ℕ) → Load
load_pair work events = record { work = work; events = events }

-- one effort more, and then another
with_sum : (l : Load) (a b : Effort) → with_effort (with_effort l a) b ≡ with_effort l (effort_sum a b)
with_sum l a b = rw (counted_twice l.work a.work b.work, counted_twice l.events a.events b.events) refl

-- nothing more
with_none : (l : Load) → l.work ≤ largest → l.events ≤ largest → with_effort l no_effort ≡ l
with_none l work events =
    let same_work : counted (l.work + 0) ≡ l.work = ap counted (plus_none l.work) ∙ counted_below l.work work in
    let same_events : counted (l.events + 0) ≡ l.events = ap counted (plus_none l.events) ∙ counted_below l.events events in
    rw (same_work, same_events) refl
  where
    plus_none : (n : ℕ) → n + 0 ≡ n
    plus_none n = omega arith

-- before anything
from_none : (e : Effort) → with_effort (record { work = 0; events = 0 }) e ≡ load_for e
from_none e = rw (none_plus e.work, none_plus e.events) refl
  where
    none_plus : (n : ℕ) → 0 + n ≡ n
    none_plus n = omega arith

-- ---- an operation

-- a load with an operation, of which the load run once and the rounds are known
pub operation_added : (load one : Load) (left_out : Bool) (levels : ℕ) (a : Surroundings) (o : Op) (rounds events work all : ℕ)
    → one ≡ load_for (record { work = op_work levels o; events = op_events o }) → levels ≡ a.levels
    → rounds ≡ counted (rounds_in a.counts) → events ≡ cond left_out 0 (min (one.events * rounds) largest)
    → work ≡ min (load.work + min (one.work * rounds) largest) largest → all ≡ min (load.events + events) largest
    → load_pair work all ≡ with_effort load (effort_at left_out a o)
operation_added load one true levels a o rounds events work all is same run sure work_is all_is =
    let first = added_rounds load.work (op_work a.levels o) (rounds_in a.counts) one.work rounds work
    (ap Load.work is ∙ ap (λ (l : ℕ). counted (op_work l o)) same) run work_is in
    let second = added_none load.events all (all_is ∙ ap (λ (n : ℕ). min (load.events + n) largest) sure) in
    rw (first, second) refl
operation_added load one false levels a o rounds events work all is same run sure work_is all_is =
    let first = added_rounds load.work (op_work a.levels o) (rounds_in a.counts) one.work rounds work
    (ap Load.work is ∙ ap (λ (l : ℕ). counted (op_work l o)) same) run work_is in
    let second = added_rounds load.events (op_events o) (rounds_in a.counts) one.events rounds all (ap Load.events is) run
    (all_is ∙ ap (λ (n : ℕ). min (load.events + n) largest) sure) in
    rw (first, second) refl

-- ---- the operations of a program

-- an operation opens one loop or one level at most
opens_one : (o : Op) (a : Surroundings) → length (behind o a).counts + (behind o a).levels ≤ length a.counts + a.levels + 1
opens_one (op.Note c d ch gate loud k) a = omega arith
opens_one (op.Rest d k) a = omega arith
opens_one (op.Send p ch d k) a = omega arith
opens_one (op.Set r e k) a = omega arith
opens_one (op.Test e k past) a = omega arith
opens_one (op.Jump to) a = omega arith
opens_one (op.Loop (count.Fixed n) k past) a = omega arith
opens_one (op.Loop (count.Drawn e most) k past) a = omega arith
opens_one (op.Again back) a = (let shorter = outer_length a.counts in omega arith)
opens_one (op.Begin l) a = omega arith
opens_one op.Close a = omega arith
opens_one (op.Enter w) a = omega arith
opens_one op.Leave a = omega arith

-- so many operations of a program are in the load
pub record Walked (start : Load) (p : ProgramParts) (at : ℕ) (whole : Load) (e : Enclosing) : Type 0 where
  pub around : Surroundings
  pub keeps : Encloses e around
  pub few : length around.counts + around.levels ≤ length p.levels + at
  pub work : whole.work ≤ largest
  pub events : whole.events ≤ largest
  pub rest : with_effort whole (ops_effort at around (drop at p.ops)) ≡ with_effort start (program_effort p)

-- one more
pub walked_more : (start whole after : Load) (p : ProgramParts) (ops : List Op) (at : ℕ) (e next : Enclosing) (o : Op)
    → ops ≡ p.ops → drop at ops ≡ o ∷ drop (at + 1) ops → (w : Walked start p at whole e)
    → after ≡ with_effort whole (effort_at (nat_lt at e.sure) w.around o)
    → Encloses next (behind o w.around) → Walked start p (at + 1) after next
walked_more start whole after p ops at e next o same here w is keeps = record {
  around = behind o w.around;
  keeps = keeps;
  few = (let opened = opens_one o w.around in let few = w.few in omega arith);
  work = subst (λ (n : ℕ). n ≤ largest) (sym (ap Load.work is)) (counted_most _);
  events = subst (λ (n : ℕ). n ≤ largest) (sym (ap Load.events is)) (counted_most _);
  rest =
      ap (λ (l : Load). with_effort l rest) is
      ∙ with_sum whole (effort_at (nat_lt at e.sure) w.around o) rest
      ∙ ap (λ (i : ℕ). with_effort whole (effort_sum (effort_at (nat_lt at i) w.around o) rest)) w.keeps.sure
      ∙ ap (λ (os : List Op). with_effort whole (ops_effort at w.around os)) (sym found)
      ∙ w.rest;
}
  where
    rest : Effort
    rest = ops_effort (at + 1) (behind o w.around) (drop (at + 1) p.ops)

    found : drop at p.ops ≡ o ∷ drop (at + 1) p.ops
    found = subst (λ (os : List Op). drop at os ≡ o ∷ drop (at + 1) os) same here

-- all
pub walked_all : (start whole : Load) (p : ProgramParts) (at : ℕ) (e : Enclosing) → length p.ops ≤ at
    → Walked start p at whole e
    → whole ≡ with_effort start (program_effort p)
walked_all start whole p at e all w =
    sym (with_none whole w.work w.events)
    ∙ ap (λ (os : List Op). with_effort whole (ops_effort at w.around os)) (sym (drop_all at p.ops all))
    ∙ w.rest

-- ---- the programs of a plan

-- so many programs are in the load
pub record Summed (ps : List ProgramParts) (process operations : ℕ) (load : Load) : Type 0 where
  pub few : operations ≤ MOST_OPERATIONS
  pub work : load.work ≤ largest
  pub events : load.events ≤ largest
  pub longer : operations + all_operations (drop process ps) ≡ all_operations ps
  pub rest : with_effort load (all_effort (drop process ps)) ≡ load_for (all_effort ps)

-- none
pub summed_none : (ps : List ProgramParts) → Summed ps 0 0 (record { work = 0; events = 0 })
summed_none ps = record {
  few = omega arith;
  work = omega arith;
  events = omega arith;
  longer = omega arith;
  rest = from_none (all_effort ps);
}

-- one more, of so many operations
pub summed_next : (ps : List ProgramParts) (process operations size all : ℕ) (load after : Load) → process < length ps
    → size ≡ length (get_or ps process no_program).ops → all ≡ min (operations + size) largest → all ≤ MOST_OPERATIONS
    → after ≡ with_effort load (program_effort (get_or ps process no_program))
    → Summed ps process operations load → Summed ps (process + 1) all after
summed_next ps process operations size all load after below long sum few is g =
    let here = drop_more ps process no_program below in
    let longer = rw here at g.longer in
    record {
      few = few;
      work = subst (λ (n : ℕ). n ≤ largest) (sym (ap Load.work is)) (counted_most _);
      events = subst (λ (n : ℕ). n ≤ largest) (sym (ap Load.events is)) (counted_most _);
      longer = omega arith;
      rest =
          ap (λ (l : Load). with_effort l (all_effort (drop (process + 1) ps))) is
          ∙ with_sum load (program_effort (get_or ps process no_program)) (all_effort (drop (process + 1) ps))
          ∙ ap (λ (qs : List ProgramParts). with_effort load (all_effort qs)) (sym here)
          ∙ g.rest;
    }

-- one more would be too many operations
pub summed_long : (ps : List ProgramParts) (process operations size all : ℕ) (load : Load) → process < length ps
    → size ≡ length (get_or ps process no_program).ops → all ≡ min (operations + size) largest → MOST_OPERATIONS < all
    → Summed ps process operations load → MOST_OPERATIONS < all_operations ps
summed_long ps process operations size all load below long sum many g =
    let longer = rw (drop_more ps process no_program below) at g.longer in omega arith

-- all
pub summed_all : (ps : List ProgramParts) (process operations : ℕ) (load : Load) → length ps ≤ process
    → Summed ps process operations load
    → load ≡ load_for (all_effort ps)
summed_all ps process operations load all g =
    sym (with_none load g.work g.events)
    ∙ ap (λ (qs : List ProgramParts). with_effort load (all_effort qs)) (sym (drop_all process ps all))
    ∙ g.rest

-- and they are not too many operations
pub summed_few : (ps : List ProgramParts) (process operations : ℕ) (load : Load) → length ps ≤ process
    → Summed ps process operations load → all_operations ps ≤ MOST_OPERATIONS
summed_few ps process operations load all g =
    let longer = rw (drop_all process ps all) at g.longer in let few = g.few in omega arith
