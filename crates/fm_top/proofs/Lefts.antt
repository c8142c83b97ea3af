-- What several threads leave of a score that was read for them.
use Rattle.std.proofs.Common.{◌≡◌, ℕ, ◌+◌, List, ◌++◌, length, Option, Some, refl, ap, sym, ◌∙◌, subst, option_map}
use Rattle.fm_edge.specs.Flow.{Flow}
use Rattle.fm_edge.specs.Runs.{Puts, Breaks}
use Rattle.fm_gen.specs.SummaryLine.{summary_line}
use Rattle.fm_line.specs.Piece.{piece}
use Rattle.fm_play.specs.Ends.{piece_end}
use Rattle.fm_play.specs.Performance.{played_of}
use Rattle.fm_play.specs.declared.played.Played.{Played}
use Rattle.fm_program.specs.Parts.{PlanParts}
use Rattle.fm_program.specs.Process.{plan_lines}
use Rattle.fm_record.specs.Head.{head_bytes}
use Rattle.fm_record.specs.StepBytes.{AreSteps}
use Rattle.fm_smf.specs.Writing.{IsFinished}
use Rattle.fm_tell.specs.declared.run_fault.RunFault.{RunFault}
use Rattle.fm_tell.specs.declared.run_fault.RunFault.TheVariants as run
use Rattle.fm_way.specs.Ways.{StopsAt}
use Rattle.fm_way.specs.declared.taped.Setup.{Setup}
use Rattle.fm_words.specs.Settings.{Settings}
use Rattle.fm_top.specs.Begins.{Begins, BreaksRecord, IsToPlay, IsToRecord, PutsRecord, StopsRecord, line_of}
use Rattle.fm_top.specs.Outcome.{Does, Holds, Stops}
use Rattle.fm_top.specs.Seen.{SinkSeen, SourceSeen, of_sink, of_source}
use Rattle.fm_top.specs.Summing.{totals}
use Rattle.fm_top.specs.Taking.{IsTaken, TakesPlan}
use Rattle.fm_top.specs.Tasks.{task_of}
use Rattle.fm_top.specs.declared.begun.Begun.{Begun}
use Rattle.fm_top.specs.declared.begun.Begun.TheVariants as begun
use Rattle.fm_top.specs.declared.begun.Playing.{Playing}
use Rattle.fm_top.specs.declared.begun.Recording.{Recording}
use Rattle.fm_top.specs.declared.task.Task.{Task}
use Rattle.fm_top.specs.declared.task.Task.TheVariants as task
use Rattle.fm_top.proofs.OnRecord.{plan_taken, record_cut, record_done}
use Rattle.fm_top.proofs.Playing.{PlansPlay, LastLinesEnd, performed, play_stopped}

-- the line of what was played
pub line_is : (number : Option ℕ) (plan : PlanParts) (processes : ℕ) (played : Played) (line : Option (List ℕ))
    → processes ≡ length plan.programs → played ≡ played_of plan
    → line ≡ option_map (λ _. summary_line (totals processes played)) number → line ≡ line_of number plan
line_is number plan processes played line count is told =
    told
    ∙ ap (λ n. option_map (λ _. summary_line (totals n played)) number) count
    ∙ ap (λ p. option_map (λ _. summary_line (totals (length plan.programs) p)) number) is

-- the same plan
pub plan_kept : (old new : Flow) (plan other : PlanParts) → other ≡ plan → TakesPlan old new plan → TakesPlan old new other
plan_kept old new plan other same taken = subst (λ p. TakesPlan old new p) (sym same) taken

-- a head and steps that were put are a record
pub puts_record : {K : Type 0} (to : SinkSeen K) (sink sink' : K) (setup : Setup) (text head steps : List ℕ)
    → head ≡ head_bytes (setup.workers + 1) setup.room setup.lead text → AreSteps steps
    → Puts to sink sink' (head ++ steps) → PutsRecord to sink sink' setup text
puts_record to sink sink' setup text head steps is are puts =
    record { head = head; steps = steps; is = is; are_steps = are; puts = puts }

-- a score that is to be put on record was not taken
pub record_not_taken : {S K : Type 0} (from : SourceSeen S) (source source' : S) (to : SinkSeen K) (sink : K) (number : Option ℕ)
    (t : Task) (setup : Setup) (fault : RunFault) → t ≡ task.Record number setup → IsTaken from number source source' fault
    → Stops (of_source from source source') (of_sink to sink sink) t fault
record_not_taken from source source' to sink number t setup fault is taken =
    subst (λ u. Stops (of_source from source source') (of_sink to sink sink) u fault) (sym is) (stopped fault taken)
  where
    stopped : (f : RunFault) → IsTaken from number source source' f
        → Stops (of_source from source source') (of_sink to sink sink) (task.Record number setup) f
    stopped run.Words none = absurd none
    stopped run.Read taken = (taken.0, taken.1, refl)
    stopped (run.Score spot n) taken = (taken, refl)
    stopped (run.File at n) none = absurd none
    stopped (run.Record at n) none = absurd none
    stopped run.NoProcess none = absurd none
    stopped run.Write none = absurd none
    stopped run.Memory taken = refl

module _ {S K : Type 0} (from : SourceSeen S) (source source' : S) (to : SinkSeen K) (sink middle sink' : K)
    (plays : PlansPlay) (last : LastLinesEnd) (asked : Option Task) (t : Task) (is : asked ≡ Some t)
    (same : middle ≡ sink) where
  -- the file of a score that was left is written
  pub left_does : (s : Settings) (p : Playing) → IsToPlay (of_source from source source') s t p → (line : Option (List ℕ))
      → line ≡ line_of p.number p.performance.plan
      → IsFinished to middle sink' p.performance.plan.profile (piece (plan_lines p.performance.plan))
      (piece_end (plan_lines p.performance.plan))
      → (u : Task) × (asked ≡ Some u) × Does (of_source from source source') (of_sink to sink sink') u line
  left_does s p left line told finished = (
    task.Play p.number,
    is ∙ ap Some left.task,
    performed from source source' to sink sink' p.number plays last p.performance.plan left.taken _ _ line refl refl told
        (subst (λ (m : K). IsFinished to m sink' p.performance.plan.profile (piece (plan_lines p.performance.plan))
        (piece_end (plan_lines p.performance.plan))) same finished),
  )

  -- or it was not
  pub left_stops : (s : Settings) (p : Playing) → IsToPlay (of_source from source source') s t p → (fault : RunFault)
      → StopsAt to middle sink' p.performance.plan fault → Holds (of_source from source source') (of_sink to sink sink') asked fault
  left_stops s p left fault stops =
      subst (λ a. Holds (of_source from source source') (of_sink to sink sink') a fault) (sym (is ∙ ap Some left.task))
      (play_stopped from source source' to sink sink' p.number plays last p.performance.plan left.taken fault
      (subst (λ (m : K). StopsAt to m sink' p.performance.plan fault) same stops))

  -- the record of a score that was left is put
  pub record_does : (r : Recording) → IsToRecord (of_source from source source') t r → (line : Option (List ℕ))
      → line ≡ line_of r.number r.plan → PutsRecord to middle sink' r.setup r.text.items
      → (u : Task) × (asked ≡ Some u) × Does (of_source from source source') (of_sink to sink sink') u line
  record_does r left line told put = (
    task.Record r.number r.setup,
    is ∙ ap Some left.task,
    record_done from source source' to sink sink' r.number r.setup plays last r.plan
        (plan_taken _ _ _ _ left.read.all left.read.planned) put.head put.is put.steps put.are_steps _ _ line refl refl told
        (subst (λ (m : K). Puts to m sink' (put.head ++ put.steps)) same put.puts),
  )

  -- or it was not
  pub record_stops : (r : Recording) → IsToRecord (of_source from source source') t r → (fault : RunFault)
      → StopsRecord to middle sink' r.setup r.text.items fault → Holds (of_source from source source') (of_sink to sink sink') asked fault
  record_stops r left fault stops =
      subst (λ a. Holds (of_source from source source') (of_sink to sink sink') a fault) (sym (is ∙ ap Some left.task))
      (stopped fault stops)
    where
      stopped : (f : RunFault) → StopsRecord to middle sink' r.setup r.text.items f
          → Stops (of_source from source source') (of_sink to sink sink') (task.Record r.number r.setup) f
      stopped run.Words none = absurd none
      stopped run.Read none = absurd none
      stopped (run.Score spot n) none = absurd none
      stopped (run.File at n) none = absurd none
      stopped (run.Record at n) none = absurd none
      stopped run.NoProcess none = absurd none
      stopped run.Memory untouched = untouched ∙ same
      stopped run.Write cut =
          record_cut from source source' to sink sink' r.number r.setup plays last r.plan
          (plan_taken _ _ _ _ left.read.all left.read.planned) cut.head cut.is cut.steps cut.are_steps
          (subst (λ (m : K). Breaks to m sink' (cut.head ++ cut.steps)) same cut.breaks)

-- ---- of what a run has come to

module _ {S K : Type 0} (from : SourceSeen S) (source source' : S) (to : SinkSeen K) (sink middle sink' : K)
    (plays : PlansPlay) (last : LastLinesEnd) (settings : Option Settings) where
  -- it has come to this
  abbrev pub HasBegun : Begun → Type 0
  HasBegun b =
      (s : Settings) × (settings ≡ Some s) × Begins (of_source from source source') (of_sink to sink middle) s (task_of s) b

  pub file_does : (b : Begun) (p : Playing) → HasBegun b → b ≡ begun.File p → (line : Option (List ℕ))
      → line ≡ line_of p.number p.performance.plan
      → IsFinished to middle sink' p.performance.plan.profile (piece (plan_lines p.performance.plan))
      (piece_end (plan_lines p.performance.plan))
      → (u : Task) × (option_map task_of settings ≡ Some u) × Does (of_source from source source') (of_sink to sink sink') u line
  file_does b p has is line told finished =
      let h = subst (λ x. HasBegun x) is has in
      left_does from source source' to sink middle sink' plays last (option_map task_of settings) (task_of h.0)
      (ap (option_map task_of) h.1) h.2.1 h.0 p h.2.0 line told finished

  pub file_stops : (b : Begun) (p : Playing) → HasBegun b → b ≡ begun.File p → (fault : RunFault)
      → StopsAt to middle sink' p.performance.plan fault
      → Holds (of_source from source source') (of_sink to sink sink') (option_map task_of settings) fault
  file_stops b p has is fault stops =
      let h = subst (λ x. HasBegun x) is has in
      left_stops from source source' to sink middle sink' plays last (option_map task_of settings) (task_of h.0)
      (ap (option_map task_of) h.1) h.2.1 h.0 p h.2.0 fault stops

  pub recording_does : (b : Begun) (r : Recording) → HasBegun b → b ≡ begun.Record r → (line : Option (List ℕ))
      → line ≡ line_of r.number r.plan → PutsRecord to middle sink' r.setup r.text.items
      → (u : Task) × (option_map task_of settings ≡ Some u) × Does (of_source from source source') (of_sink to sink sink') u line
  recording_does b r has is line told put =
      let h = subst (λ x. HasBegun x) is has in
      record_does from source source' to sink middle sink' plays last (option_map task_of settings) (task_of h.0)
      (ap (option_map task_of) h.1) h.2.1 r h.2.0 line told put

  pub recording_stops : (b : Begun) (r : Recording) → HasBegun b → b ≡ begun.Record r → (fault : RunFault)
      → StopsRecord to middle sink' r.setup r.text.items fault
      → Holds (of_source from source source') (of_sink to sink sink') (option_map task_of settings) fault
  recording_stops b r has is fault stops =
      let h = subst (λ x. HasBegun x) is has in
      record_stops from source source' to sink middle sink' plays last (option_map task_of settings) (task_of h.0)
      (ap (option_map task_of) h.1) h.2.1 r h.2.0 fault stops
