-- Worked records of a score without notes: its whole run, one that breaks off, a step that is refused and one that is none.
use Rattle.std.proofs.Common.{◌≡◌, ℕ, zero, suc, ◌<◌, List, [], ◌∷◌, ◌++◌, true, refl, arith}
use Rattle.fm_core.specs.State.{Setting, State, opening, cell}
use Rattle.fm_core.specs.Effects.{run}
use Rattle.fm_core.specs.declared.reason.Reason.TheVariants.{WrongEnd}
use Rattle.fm_core.specs.declared.step.Step.{Step}
use Rattle.fm_core.specs.declared.step.Step.TheVariants.{Claim, Record, Give}
use Rattle.fm_core.specs.declared.tag.Tag.TheVariants.{Drained, Out}
use Rattle.fm_progress.specs.Progress.{Finished}
use Rattle.fm_record.specs.StepBytes.{HaveFields}
use Rattle.fm_record.proofs.ReadingLemmas.{read_none}
use Rattle.fm_audit.specs.Verdict.{IsBadAt, IsRefusedAt, IsRun, IsUnfinished}

-- the line of a score without notes, with one seat, room 1 and lead 0
abbrev empty : Setting
empty = record { lines = record { events = []; predecessors = []; end = 0 } ∷ []; room = 1; lead = 0 }

abbrev begin : State
begin = opening 1 1

abbrev whole : List Step
whole = Claim 0 0 ∷ Record 0 0 ∷ Give 0 0 0 0 0 true ∷ []

abbrev whole_bytes : List ℕ
whole_bytes = 2 ∷ 0 ∷ 0 ∷ 0 ∷ 4 ∷ 0 ∷ 0 ∷ 0 ∷ 6 ∷ 0 ∷ 0 ∷ 0 ∷ 0 ∷ 0 ∷ 0 ∷ 0 ∷ 0 ∷ 0 ∷ 0 ∷ 0 ∷ 0 ∷ 1 ∷ []

drained : (p : ℕ) → p < 1 → (cell (run empty begin whole) p).tag ≡ Drained
drained zero lt = refl
drained (suc p) lt = absurd (omega arith)

pair_fits : (0 < 256) × (0 < 65536)
pair_fits = (omega arith, omega arith)

whole_fits : HaveFields whole
whole_fits = (pair_fits, (pair_fits, ((omega arith, omega arith, omega arith, omega arith, omega arith), tt)))

-- the whole run is one
passes : IsRun empty begin whole_bytes
passes = record {
  steps = whole;
  leads = record { fits = whole_fits; same = refl; legal = (refl, (refl, (refl, tt))) };
  finished = record { released = refl; drained = drained };
}

-- without its last step the process is still held
still_out : Finished empty (run empty begin (Claim 0 0 ∷ Record 0 0 ∷ [])) → ⊥
still_out done = not_drained (done.drained 0 (omega arith))
  where
    not_drained : Out ≡ Drained → ⊥
    not_drained e = cc

-- so there are two steps, and the run is not at its end
breaks_off : IsUnfinished empty begin (2 ∷ 0 ∷ 0 ∷ 0 ∷ 4 ∷ 0 ∷ 0 ∷ 0 ∷ []) 2
breaks_off = record {
  steps = Claim 0 0 ∷ Record 0 0 ∷ [];
  leads = record { fits = (pair_fits, (pair_fits, tt)); same = refl; legal = (refl, (refl, tt)) };
  here = refl;
  unfinished = still_out;
}

-- no steps at all break off too
nothing_taken : Finished empty begin → ⊥
nothing_taken done = not_drained (done.drained 0 (omega arith))
  where
    not_drained : (cell begin 0).tag ≡ Drained → ⊥
    not_drained e = cc

without_steps : IsUnfinished empty begin [] 0
without_steps = record {
  steps = [];
  leads = record { fits = tt; same = refl; legal = tt };
  here = refl;
  unfinished = nothing_taken;
}

-- without its record the give is refused
unrecorded : IsRefusedAt empty begin (2 ∷ 0 ∷ 0 ∷ 0 ∷ 6 ∷ 0 ∷ 0 ∷ 0 ∷ 0 ∷ 0 ∷ 0 ∷ 0 ∷ 0 ∷ 0 ∷ 0 ∷ 0 ∷ 0 ∷ 1 ∷ []) 1 WrongEnd
unrecorded = record {
  steps = Claim 0 0 ∷ [];
  step = Give 0 0 0 0 0 true;
  rest = [];
  leads = record { fits = (pair_fits, tt); same = refl; legal = (refl, tt) };
  fits = (omega arith, omega arith, omega arith, omega arith, omega arith);
  here = refl;
  refused = refl;
}

-- no step has the kind 10
no_kind : IsBadAt empty begin (whole_bytes ++ 10 ∷ []) 22
no_kind = record {
  steps = whole;
  rest = 10 ∷ [];
  leads = record { fits = whole_fits; same = refl; legal = (refl, (refl, (refl, tt))) };
  here = refl;
  some = omega arith;
  bad = read_none (10 ∷ []) refl;
}
