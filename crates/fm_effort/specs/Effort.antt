-- How many workers are worth their cost for a plan, told from its operations alone. It is a policy with rough figures.
-- Times are in nanoseconds. Sums are exact, and a sum above the greatest number of 64 bits counts as that at the end.
use Rattle.std.specs.Prelude.{◌≡◌, ℕ, ◌+◌, ◌-◌, ◌*◌, ◌/◌, ◌^◌, ◌<◌, ◌≤◌, min, max, List, [], ◌∷◌, length, Bool, true, ◌&&◌, nat_le, nat_lt, if◌then◌else◌}
use Rattle.fm_program.specs.declared.op.Span.{Span}
use Rattle.fm_program.specs.declared.op.Span.TheVariants as span
use Rattle.fm_program.specs.declared.op.Count.{Count}
use Rattle.fm_program.specs.declared.op.Count.TheVariants as count
use Rattle.fm_program.specs.declared.op.Op.{Op}
use Rattle.fm_program.specs.declared.op.Op.TheVariants as op
use Rattle.fm_program.specs.declared.op.TheConstants.{MAX_LOOPS}
use Rattle.fm_program.specs.Parts.{ProgramParts, PlanParts}
use Rattle.fm_effort.specs.declared.load.TheConstants.{OPERATION, SOUND, LEVEL, EXPRESSION, MOST_OPERATIONS}
use Rattle.fm_effort.specs.declared.useful.TheConstants.{MANY_EVENTS, FEW_EVENTS, LITTLE_WORK, MOST_FOR_AN_EVENT, LEAST_FOR_AN_EVENT, SHARE_OF_A_WORKER}

-- ---- numbers

-- the greatest number of 64 bits
abbrev pub largest : ℕ
largest = 2 ^ 64 - 1

-- what a sum counts as
unfoldable pub counted : ℕ → ℕ
counted n = min n largest

-- the product of numbers
abbrev pub product : List ℕ → ℕ
product [] = 1
product (n ∷ ns) = n * product ns

-- ---- one operation

-- what a duration adds: nothing, or the time that its expression takes
abbrev pub span_work : Span → ℕ
span_work (span.Ticks d) = 0
span_work (span.Drawn e most) = EXPRESSION
span_work (span.Cycle f) = 0

-- how long an operation takes that is run once, in so many levels of deformation: each level maps the onset of what it
-- plays, and of a note the note-off too
abbrev pub op_work : (levels : ℕ) → Op → ℕ
op_work levels (op.Note c d ch gate loud k) = OPERATION + SOUND + span_work d + 2 * (levels * LEVEL)
op_work levels (op.Rest d k) = OPERATION + span_work d + levels * LEVEL
op_work levels (op.Send p ch d k) = OPERATION + SOUND + EXPRESSION + levels * LEVEL
op_work levels (op.Set r e k) = OPERATION + EXPRESSION
op_work levels (op.Test e k past) = OPERATION + EXPRESSION
op_work levels _ = OPERATION

-- how many events it makes at least: a note one note-on and one note-off
abbrev pub op_events : Op → ℕ
op_events (op.Note c d ch gate loud k) = 2
op_events (op.Send p ch d k) = 1
op_events _ = 0

-- ---- what an operation lies in

-- the counts of the open loops, the innermost first; how many levels are open; and the index of the first operation
-- that is sure to be run
pub record Surroundings : Type 0 where
  pub counts : List ℕ
  pub levels : ℕ
  pub sure : ℕ

-- where a program begins that starts in so many levels
abbrev pub at_first : (levels : ℕ) → Surroundings
at_first levels = record { counts = []; levels = levels; sure = 0 }

-- all operations before an index may be left out
abbrev pub unsure_to : ℕ → Surroundings → Surroundings
unsure_to index a = record a { sure = max a.sure index }

-- in one loop more, of so many rounds
abbrev pub in_rounds : ℕ → Surroundings → Surroundings
in_rounds n a = record a { counts = n ∷ a.counts }

-- in one loop more: where the count is computed, of as many rounds as there may be, and it may be left out
abbrev pub loop_entered : Count → (past : ℕ) → Surroundings → Surroundings
loop_entered (count.Fixed n) past a = in_rounds n a
loop_entered (count.Drawn e most) past a = in_rounds most (unsure_to past a)

-- all loops but the innermost
abbrev pub outer : List ℕ → List ℕ
outer [] = []
outer (n ∷ ns) = ns

-- what the next operation lies in, behind this one
abbrev pub behind : Op → Surroundings → Surroundings
behind (op.Loop n k past) a = loop_entered n past a
behind (op.Again back) a = record a { counts = outer a.counts }
behind (op.Test e k past) a = unsure_to past a
behind (op.Jump to) a = unsure_to to a
behind (op.Enter w) a = record a { levels = a.levels + 1 }
behind op.Leave a = record a { levels = a.levels - 1 }
behind _ a = a

-- how often an operation is run in all that lies in loops of these counts. No score opens more than `MAX_LOOPS`: with
-- more it counts as run as often as can be
abbrev pub rounds_in : (counts : List ℕ) → ℕ
rounds_in counts = if nat_lt MAX_LOOPS (length counts) then largest else product counts

-- ---- operations, programs, plans

-- how long something takes, and how many events it makes at least
pub record Effort : Type 0 where
  pub work : ℕ
  pub events : ℕ

-- the effort of nothing
abbrev pub no_effort : Effort
no_effort = record { work = 0; events = 0 }

-- the effort of both
abbrev pub effort_sum : Effort → Effort → Effort
effort_sum a b = record { work = a.work + b.work; events = a.events + b.events }

-- the effort of an operation in all its rounds: one that may be left out is sure of no events
abbrev pub effort_at : (left_out : Bool) → Surroundings → Op → Effort
effort_at left_out a o = record {
  work = rounds_in a.counts * op_work a.levels o;
  events = if left_out then 0 else rounds_in a.counts * op_events o;
}

-- the effort of the operations of a program, from the one at an index on
abbrev pub ops_effort : (index : ℕ) → Surroundings → List Op → Effort
ops_effort i a [] = no_effort
ops_effort i a (o ∷ os) = effort_sum (effort_at (nat_lt i a.sure) a o) (ops_effort (i + 1) (behind o a) os)

-- the effort of a program: its operations in turn
abbrev pub program_effort : ProgramParts → Effort
program_effort p = ops_effort 0 (at_first (length p.levels)) p.ops

-- the effort of all programs
abbrev pub all_effort : List ProgramParts → Effort
all_effort [] = no_effort
all_effort (p ∷ ps) = effort_sum (program_effort p) (all_effort ps)

-- how many operations all programs have
abbrev pub all_operations : List ProgramParts → ℕ
all_operations [] = 0
all_operations (p ∷ ps) = length p.ops + all_operations ps

-- ---- workers

-- whether free threads have too little room for so many processes, with outboxes of this room in events
abbrev pub is_too_many : (processes room : ℕ) → Bool
is_too_many processes room = nat_lt (MOST_FOR_AN_EVENT * room) processes

-- whether programs are looked at: those that are not too long
abbrev pub are_looked_at : List ProgramParts → Bool
are_looked_at ps = nat_le (all_operations ps) MOST_OPERATIONS

-- whether an effort is over before a worker has begun: it is sure of few events only, and takes little time
abbrev pub is_small : Effort → Bool
is_small e = nat_lt e.events FEW_EVENTS && nat_lt e.work LITTLE_WORK

-- whether programs that are looked at have so small an effort
unfoldable pub are_few : List ProgramParts → Bool
are_few ps = are_looked_at ps && is_small (all_effort ps)

-- whether an estimate is made: for programs that are looked at, and that are sure to make many events
unfoldable pub is_estimated : List ProgramParts → Bool
is_estimated ps = are_looked_at ps && nat_le MANY_EVENTS (all_effort ps).events

-- how long an event takes to compute
abbrev pub event_work : Effort → ℕ
event_work e = counted e.work / counted e.events

-- programs that are not too long are sure of few events only, and take little time
pub record IsFew (ps : List ProgramParts) : Type 0 where
  pub short : all_operations ps ≤ MOST_OPERATIONS
  pub few : (all_effort ps).events < FEW_EVENTS
  pub little : (all_effort ps).work < LITTLE_WORK

-- an estimate is made, and an event takes too little to compute for one worker
pub record IsCheap (ps : List ProgramParts) : Type 0 where
  pub estimated : is_estimated ps ≡ true
  pub little : event_work (all_effort ps) < LEAST_FOR_AN_EVENT

-- how many of at most so many workers are kept busy by events that take so long
abbrev pub busy : (share most : ℕ) → ℕ
busy share most = if nat_lt share LEAST_FOR_AN_EVENT then 0 else min most (share / SHARE_OF_A_WORKER + 1)

-- how many of at most so many workers are worth their cost: none for too many processes, none for few events, all
-- where no estimate is made, and else those that the events keep busy
unfoldable pub workers_of : PlanParts → (room most : ℕ) → ℕ
workers_of p room most =
    if is_too_many (length p.programs) room then 0
    else if are_few p.programs then 0
    else if is_estimated p.programs then busy (event_work (all_effort p.programs)) most
    else most
