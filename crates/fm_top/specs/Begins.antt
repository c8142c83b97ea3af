-- What a run has come to before another thread runs: what is asked for is done, or a score was read that several
-- threads play. And what these leave in the sink then.
use Rattle.std.specs.Prelude.{◌≡◌, ℕ, ◌+◌, ◌<◌, List, ◌++◌, length, Option, option_map}
use Rattle.fm_edge.specs.Runs.{Puts, Breaks}
use Rattle.fm_gen.specs.SummaryLine.{summary_line}
use Rattle.fm_judge.specs.Judging.{IsPlanned}
use Rattle.fm_lex.specs.declared.lexer.TheConstants.{MAX_TEXT}
use Rattle.fm_play.specs.Performance.{played_of}
use Rattle.fm_program.specs.Parts.{PlanParts}
use Rattle.fm_record.specs.Head.{head_bytes}
use Rattle.fm_record.specs.StepBytes.{AreSteps}
use Rattle.fm_tell.specs.declared.run_fault.RunFault.{RunFault}
use Rattle.fm_tell.specs.declared.run_fault.RunFault.TheVariants as run
use Rattle.fm_way.specs.Ways.{CanPlay, CanRecord}
use Rattle.fm_way.specs.declared.taped.Setup.{Setup}
use Rattle.fm_words.specs.Settings.{Settings}
use Rattle.fm_top.specs.Outcome.{Does}
use Rattle.fm_top.specs.Seen.{SinkChange, SinkSeen, SourceChange}
use Rattle.fm_top.specs.Summing.{told_text, totals}
use Rattle.fm_top.specs.Taking.{TakesAll, TakesPlan, offered, remaining}
use Rattle.fm_top.specs.declared.begun.Begun.{Begun}
use Rattle.fm_top.specs.declared.begun.Begun.TheVariants as begun
use Rattle.fm_top.specs.declared.begun.Playing.{Playing}
use Rattle.fm_top.specs.declared.begun.Recording.{Recording}
use Rattle.fm_top.specs.declared.task.Task.{Task}
use Rattle.fm_top.specs.declared.task.Task.TheVariants as task

module _ {S : Type 0} (from : SourceChange S) where
  -- a score of several processes was taken, where some workers are asked for, and is to be played
  pub record IsToPlay (s : Settings) (t : Task) (p : Playing) : Type 0 where
    pub task : t ≡ task.Play p.number
    pub taken : TakesPlan (offered p.number (from.seen.flow from.old)) (remaining p.number (from.seen.flow from.new))
        p.performance.plan
    pub can : CanPlay p.performance.way p.performance.room p.performance.lead
    pub some : s.workers ≡ 0 → ⊥
    pub many : length p.performance.plan.programs < 2 → ⊥

  -- a text was taken to its end, and this is the plan of what it means
  pub record IsRead (r : Recording) : Type 0 where
    pub all : TakesAll MAX_TEXT (offered r.number (from.seen.flow from.old))
        (remaining r.number (from.seen.flow from.new)) r.text.items
    pub planned : IsPlanned r.text.items r.plan

  -- it is to be played on record
  pub record IsToRecord (t : Task) (r : Recording) : Type 0 where
    pub task : t ≡ task.Record r.number r.setup
    pub read : IsRead r
    pub can : CanRecord r.setup.workers r.setup.room r.setup.lead

  module _ {K : Type 0} (to : SinkChange K) where
    -- what is asked for is done, or it is left to several threads and the sink is as it was
    abbrev pub Begins : Settings → Task → Begun → Type 0
    Begins s t (begun.Done told) = Does from to t (told_text told)
    Begins s t (begun.File playing) = IsToPlay s t playing × (to.new ≡ to.old)
    Begins s t (begun.Record recording) = IsToRecord t recording × (to.new ≡ to.old)

-- ---- what several threads leave

-- the line for the console where a plan was played: its totals, where it is that of a large score
abbrev pub line_of : Option ℕ → PlanParts → Option (List ℕ)
line_of number plan = option_map (λ _. summary_line (totals (length plan.programs) (played_of plan))) number

module _ {K : Type 0} (to : SinkSeen K) (sink sink' : K) (setup : Setup) (text : List ℕ) where
  -- a record was put: a head that tells the seats, the room, the lead and the text, and some steps
  pub record PutsRecord : Type 0 where
    pub head : List ℕ
    pub steps : List ℕ
    pub is : head ≡ head_bytes (setup.workers + 1) setup.room setup.lead text
    pub are_steps : AreSteps steps
    pub puts : Puts to sink sink' (head ++ steps)

  -- the same, but a call failed before it was
  pub record BreaksRecord : Type 0 where
    pub head : List ℕ
    pub steps : List ℕ
    pub is : head ≡ head_bytes (setup.workers + 1) setup.room setup.lead text
    pub are_steps : AreSteps steps
    pub breaks : Breaks to sink sink' (head ++ steps)

  -- what a fault says of the sink
  abbrev pub StopsRecord : RunFault → Type 0
  StopsRecord run.Write = BreaksRecord
  StopsRecord run.Memory = sink' ≡ sink
  StopsRecord fault = ⊥
