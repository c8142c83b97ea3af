-- How a run over files ends: what was read of IN, what is in OUT by our writes, what was written to standard output.
-- Before it nothing was read or written, and neither file was opened.
use Rattle.std.specs.Prelude.{◌≡◌, ◌⊎◌, ℕ, ◌+◌, ◌<◌, ◌≤◌, List, [], length, true, Option, Some, None}
use Rattle.fm_edge.specs.Content.{AppendsFront}
use Rattle.fm_edge.specs.Host.{FileRead, FileWritten, Terminal, unread, unwritten}
use Rattle.fm_gen.specs.LargeScore.{large_score}
use Rattle.fm_smf.specs.File.{file}
use Rattle.fm_smf.specs.Writing.{Remains}
use Rattle.fm_tell.specs.Telling.{fault_status, fault_text}
use Rattle.fm_tell.specs.declared.run_fault.RunFault.{RunFault}
use Rattle.fm_tell.specs.declared.run_fault.RunFault.TheVariants as run
use Rattle.fm_tell.specs.declared.status.TheConstants.{CONSOLE_FAULT, DONE, OUT_OF_MEMORY, READ_FAULT, SCORE_REFUSED, WORDS_REFUSED, WRITE_FAULT}
use Rattle.fm_top.specs.Products.{Makes, Product, Refuses, Work, leaves, puts, writes}
use Rattle.fm_top.specs.Tasks.{most_of, number_of}
use Rattle.fm_top.specs.declared.task.Task.{Task}

-- ---- IN

module _ (source : FileRead) where
  -- the input of a task: all that the reads gave; or the large score of a number, for which IN was not opened
  abbrev pub IsInput : Option ℕ → List ℕ → Type 0
  IsInput None input = input ≡ source.bytes
  IsInput (Some number) input = (input ≡ large_score number) × (source ≡ unread)

  -- it has no more bytes: a read showed the end
  abbrev pub HasEnded : Option ℕ → Type 0
  HasEnded None = source.ended ≡ true
  HasEnded (Some number) = Unit {0}

  -- a task makes this of the whole input
  pub record MakesOf (t : Task) (made : Product) : Type 0 where
    pub input : List ℕ
    pub is : IsInput (number_of t) input
    pub ended : HasEnded (number_of t)
    pub makes : Makes t input made

  -- a task refuses the input with this fault, the whole of it or more than the most that there may be
  pub record RefusesOf (t : Task) (fault : RunFault) : Type 0 where
    pub input : List ℕ
    pub is : IsInput (number_of t) input
    pub whole : (most_of t < length input) ⊎ HasEnded (number_of t)
    pub refuses : Refuses t input fault

  -- what is read for it: at most one byte past the limit; for a large score, and for refused words, IN is not opened
  abbrev pub ReadsFor : Option Task → Type 0
  ReadsFor None = source ≡ unread
  ReadsFor (Some t) =
      ((number : ℕ) → number_of t ≡ Some number → source ≡ unread) × (length source.bytes ≤ most_of t + 1)

-- ---- OUT

-- the work is done: these are all bytes of OUT, and no call on it failed; where there is none, it was not opened
abbrev pub IsWritten : Work → FileWritten → Type 0
IsWritten (writes profile events end) sink = (sink.bytes ≡ file profile events end) × (sink.faults ≡ 0)
IsWritten (puts bytes) sink = (sink.bytes ≡ bytes) × (sink.faults ≡ 0)
IsWritten leaves sink = sink ≡ unwritten

-- a call failed: of a file OUT has a beginning with length 0, or lacks a part of the length; else a beginning
abbrev pub IsPartOf : Work → FileWritten → Type 0
IsPartOf (writes profile events end) sink = Remains (Some []) (Some sink.bytes) profile events end × (0 < sink.faults)
IsPartOf (puts whole) sink = AppendsFront (Some []) (Some sink.bytes) whole × (0 < sink.faults)
IsPartOf leaves sink = ⊥

-- ---- the end

-- the line of a task that is done, where it has one
abbrev pub line_of : Option (List ℕ) → List ℕ
line_of None = []
line_of (Some line) = line

-- what a run comes to: an exit status, and a line for standard output
pub data ComesTo (asked : Option Task) (source : FileRead) (sink : FileWritten) (status : ℕ) (line : List ℕ)
    : Type 0 where
  done : (t : Task) (made : Product) → status ≡ DONE → line ≡ line_of made.told
      → asked ≡ Some t → MakesOf source t made → source.faults ≡ 0 → IsWritten made.work sink
      → ComesTo asked source sink status line
  words : status ≡ WORDS_REFUSED → line ≡ fault_text run.Words
      → asked ≡ None → source ≡ unread → sink ≡ unwritten → ComesTo asked source sink status line
  read : (t : Task) → status ≡ READ_FAULT → line ≡ fault_text run.Read
      → asked ≡ Some t → number_of t ≡ None → 0 < source.faults → sink ≡ unwritten
      → ComesTo asked source sink status line
  refused : (t : Task) (fault : RunFault) → status ≡ fault_status fault → line ≡ fault_text fault
      → asked ≡ Some t → RefusesOf source t fault → source.faults ≡ 0 → sink ≡ unwritten
      → ComesTo asked source sink status line
  write : (t : Task) (made : Product) → status ≡ WRITE_FAULT → line ≡ fault_text run.Write
      → asked ≡ Some t → MakesOf source t made → source.faults ≡ 0 → IsPartOf made.work sink
      → ComesTo asked source sink status line
  memory : status ≡ OUT_OF_MEMORY → line ≡ fault_text run.Memory → source.faults ≡ 0 → sink ≡ unwritten
      → ComesTo asked source sink status line

-- how it ends: its line was written, which is all of standard output; or a call on that failed, and a beginning was
pub data Ends (asked : Option Task) (source : FileRead) (sink : FileWritten) (console : Terminal) (status : ℕ)
    : Type 0 where
  said : ComesTo asked source sink status console.bytes → console.faults ≡ 0 → Ends asked source sink console status
  unsaid : (meant : ℕ) (line : List ℕ) → ComesTo asked source sink meant line → status ≡ CONSOLE_FAULT
      → AppendsFront (Some []) (Some console.bytes) line → 0 < console.faults → Ends asked source sink console status

-- what that says of a status
pub record ByStatus (asked : Option Task) (source : FileRead) (sink : FileWritten) (console : Terminal) (status : ℕ)
    : Type 0 where
  pub made : status ≡ DONE → (t : Task) × (made : Product) × (asked ≡ Some t) × MakesOf source t made
      × IsWritten made.work sink × (console.bytes ≡ line_of made.told)
  pub cut : status ≡ WRITE_FAULT → (t : Task) × (made : Product) × (asked ≡ Some t) × MakesOf source t made
      × IsPartOf made.work sink
  pub refused : status ≡ SCORE_REFUSED → (t : Task) × (fault : RunFault) × (asked ≡ Some t)
      × (fault_status fault ≡ status) × RefusesOf source t fault
  pub untouched : (status ≡ DONE → ⊥) → (status ≡ WRITE_FAULT → ⊥) → (status ≡ CONSOLE_FAULT → ⊥) → sink ≡ unwritten

-- which end comes, where no call failed: of refused words; and of an input of a task, the verdict on it
pub record ByInput (asked : Option Task) (source : FileRead) (sink : FileWritten) (console : Terminal) (status : ℕ)
    : Type 0 where
  pub words : asked ≡ None → console.faults ≡ 0 → (status ≡ WORDS_REFUSED) ⊎ (status ≡ OUT_OF_MEMORY)
  pub made : (t : Task) (input : List ℕ) (m : Product) → asked ≡ Some t → IsInput source (number_of t) input
      → Makes t input m → source.faults ≡ 0 → sink.faults ≡ 0 → console.faults ≡ 0
      → (status ≡ DONE) ⊎ (status ≡ OUT_OF_MEMORY)
  pub refused : (t : Task) (input : List ℕ) (fault : RunFault) → asked ≡ Some t → IsInput source (number_of t) input
      → Refuses t input fault → source.faults ≡ 0 → console.faults ≡ 0
      → ((status ≡ fault_status fault) × (console.bytes ≡ fault_text fault)) ⊎ (status ≡ OUT_OF_MEMORY)
