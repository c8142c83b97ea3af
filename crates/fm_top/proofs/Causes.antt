-- The cause of each status.
use Rattle.std.proofs.Common.{◌≡◌, ℕ, List, Option, Some, None, sym, arith}
use Rattle.fm_edge.specs.Causes.{Rose}
use Rattle.fm_tell.specs.declared.status.TheConstants.{DONE, CONSOLE_FAULT, OUT_OF_MEMORY, SCORE_REFUSED, WORDS_REFUSED}
use Rattle.fm_tell.specs.declared.run_fault.RunFault.{RunFault}
use Rattle.fm_tell.specs.declared.run_fault.RunFault.TheVariants as run
use Rattle.fm_top.specs.declared.task.Task.{Task}
use Rattle.fm_top.specs.Seen.{ConsoleSeen, SinkSeen, SourceSeen, of_sink, of_source}
use Rattle.fm_tell.specs.Telling.{Tells, fault_status, fault_text, told, untold}
use Rattle.fm_top.specs.Summing.{TellsEnd}
use Rattle.fm_top.specs.Outcome.{Does, Holds, IsCaused, IsRefused, Stops}

module _ {S K C : Type 0} (from : SourceSeen S) (source source' : S) (to : SinkSeen K) (sink sink' : K)
    (on : ConsoleSeen C) (console console' : C) (asked : Option Task) where
  abbrev Cause : ℕ → Type 0
  Cause status = IsCaused (of_source from source source') (of_sink to sink sink') (of_sink on console console') asked status

  done_cause : (status : ℕ) (t : Task) (line : Option (List ℕ)) → asked ≡ Some t
      → Does (of_source from source source') (of_sink to sink sink') t line → status ≡ DONE → Cause status
  done_cause status t line given d is = record {
    known = omega (arith, is);
    done = λ _. (t, line, given, d);
    words = λ one. absurd (omega (arith, is, one));
    read = λ two. absurd (omega (arith, is, two));
    of_source = λ two. absurd (omega (arith, is, two));
    refused = λ three. absurd (omega (arith, is, three));
    write = λ four. absurd (omega (arith, is, four));
    missing = λ seven. absurd (omega (arith, is, seven));
    untold = λ five. absurd (omega (arith, is, five));
  }

  untold_cause : (status : ℕ) → Rose (on.faults console) (on.faults console') → status ≡ CONSOLE_FAULT → Cause status
  untold_cause status rose is = record {
    known = omega (arith, is);
    done = λ zero. absurd (omega (arith, is, zero));
    words = λ one. absurd (omega (arith, is, one));
    read = λ two. absurd (omega (arith, is, two));
    of_source = λ two. absurd (omega (arith, is, two));
    refused = λ three. absurd (omega (arith, is, three));
    write = λ four. absurd (omega (arith, is, four));
    missing = λ seven. absurd (omega (arith, is, seven));
    untold = λ _. rose;
  }

  -- what is asked for is done, and its line is told, or the console failed
  pub cause_of_done : (status : ℕ) (t : Task) (line : Option (List ℕ)) → asked ≡ Some t
      → Does (of_source from source source') (of_sink to sink sink') t line
      → TellsEnd on console console' line status → Cause status
  cause_of_done status t None given d end = done_cause status t None given d end.0
  cause_of_done status t (Some text) given d (told is all) = done_cause status t (Some text) given d is
  cause_of_done status t (Some text) given d (untold is breaks) = untold_cause status breaks.rose is

  words_cause : (status : ℕ) → asked ≡ None → status ≡ WORDS_REFUSED → Cause status
  words_cause status none is = record {
    known = omega (arith, is);
    done = λ zero. absurd (omega (arith, is, zero));
    words = λ _. none;
    read = λ two. absurd (omega (arith, is, two));
    of_source = λ two. absurd (omega (arith, is, two));
    refused = λ three. absurd (omega (arith, is, three));
    write = λ four. absurd (omega (arith, is, four));
    missing = λ seven. absurd (omega (arith, is, seven));
    untold = λ five. absurd (omega (arith, is, five));
  }

  memory_cause : (status : ℕ) → status ≡ OUT_OF_MEMORY → Cause status
  memory_cause status is = record {
    known = omega (arith, is);
    done = λ zero. absurd (omega (arith, is, zero));
    words = λ one. absurd (omega (arith, is, one));
    read = λ two. absurd (omega (arith, is, two));
    of_source = λ two. absurd (omega (arith, is, two));
    refused = λ three. absurd (omega (arith, is, three));
    write = λ four. absurd (omega (arith, is, four));
    missing = λ seven. absurd (omega (arith, is, seven));
    untold = λ five. absurd (omega (arith, is, five));
  }

  refused_cause : (status : ℕ) (t : Task) (f : RunFault) → asked ≡ Some t
      → IsRefused (of_source from source source') (of_sink to sink sink') t f → fault_status f ≡ status
      → status ≡ SCORE_REFUSED → Cause status
  refused_cause status t f given refused same is = record {
    known = omega (arith, is);
    done = λ zero. absurd (omega (arith, is, zero));
    words = λ one. absurd (omega (arith, is, one));
    read = λ two. absurd (omega (arith, is, two));
    of_source = λ two. absurd (omega (arith, is, two));
    refused = λ _. (t, f, given, same, refused);
    write = λ four. absurd (omega (arith, is, four));
    missing = λ seven. absurd (omega (arith, is, seven));
    untold = λ five. absurd (omega (arith, is, five));
  }

  -- a task stops with a fault, which is told
  stop_cause : (status : ℕ) (t : Task) (f : RunFault) → asked ≡ Some t
      → Stops (of_source from source source') (of_sink to sink sink') t f → status ≡ fault_status f → Cause status
  stop_cause status t run.Words given h is = absurd h
  stop_cause status t (run.Score spot n) given h is = refused_cause status t (run.Score spot n) given h.0 (sym is) is
  stop_cause status t (run.File at n) given h is = refused_cause status t (run.File at n) given h.0 (sym is) is
  stop_cause status t (run.Record at n) given h is = refused_cause status t (run.Record at n) given h.0 (sym is) is
  stop_cause status t run.Memory given h is = memory_cause status is
  stop_cause status t run.Read given h is = record {
    known = omega (arith, is);
    done = λ zero. absurd (omega (arith, is, zero));
    words = λ one. absurd (omega (arith, is, one));
    read = λ _. h.1;
    of_source = λ _. (t, given, h.0);
    refused = λ three. absurd (omega (arith, is, three));
    write = λ four. absurd (omega (arith, is, four));
    missing = λ seven. absurd (omega (arith, is, seven));
    untold = λ five. absurd (omega (arith, is, five));
  }
  stop_cause status t run.NoProcess given h is = record {
    known = omega (arith, is);
    done = λ zero. absurd (omega (arith, is, zero));
    words = λ one. absurd (omega (arith, is, one));
    read = λ two. absurd (omega (arith, is, two));
    of_source = λ two. absurd (omega (arith, is, two));
    refused = λ three. absurd (omega (arith, is, three));
    write = λ four. absurd (omega (arith, is, four));
    missing = λ _. (t, given, h.0);
    untold = λ five. absurd (omega (arith, is, five));
  }
  stop_cause status t run.Write given h is = record {
    known = omega (arith, is);
    done = λ zero. absurd (omega (arith, is, zero));
    words = λ one. absurd (omega (arith, is, one));
    read = λ two. absurd (omega (arith, is, two));
    of_source = λ two. absurd (omega (arith, is, two));
    refused = λ three. absurd (omega (arith, is, three));
    write = λ _. (t, given, h);
    missing = λ seven. absurd (omega (arith, is, seven));
    untold = λ five. absurd (omega (arith, is, five));
  }

  -- a fault holds, and is told, or the console failed
  pub cause_of_stop : (status : ℕ) (a : Option Task) (f : RunFault) → asked ≡ a
      → Holds (of_source from source source') (of_sink to sink sink') a f
      → Tells on console console' (fault_text f) (fault_status f) status → Cause status
  cause_of_stop status a f given h (untold is breaks) = untold_cause status breaks.rose is
  cause_of_stop status (Some t) f given h (told is all) = stop_cause status t f given h is
  cause_of_stop status None run.Words given h (told is all) = words_cause status given is
  cause_of_stop status None run.Memory given h (told is all) = memory_cause status is
  cause_of_stop status None run.Read given h (told is all) = absurd h
  cause_of_stop status None (run.Score spot n) given h (told is all) = absurd h
  cause_of_stop status None (run.File at n) given h (told is all) = absurd h
  cause_of_stop status None (run.Record at n) given h (told is all) = absurd h
  cause_of_stop status None run.NoProcess given h (told is all) = absurd h
  cause_of_stop status None run.Write given h (told is all) = absurd h
