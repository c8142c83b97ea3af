-- How far a record's steps were taken, and one step more.
use Rattle.std.proofs.Common.{◌≡◌, ℕ, ◌+◌, ◌<◌, ◌≤◌, List, [], ◌∷◌, ◌++◌, drop, length, Option, Some, None, refl, sym, ◌∙◌, ap, subst, arith, append_assoc, length-append, length-drop}
use Rattle.std.proofs.lemmas.List.{drop_all, drop-drop, take-append-drop}
use Rattle.fm_core.specs.Effects.{Legal, after, run}
use Rattle.fm_core.specs.State.{Setting, State}
use Rattle.fm_core.specs.Steps.{Allowed, reason}
use Rattle.fm_core.specs.declared.reason.Reason.{Reason}
use Rattle.fm_core.specs.declared.step.Step.{Step}
use Rattle.fm_progress.specs.Progress.{Finished}
use Rattle.fm_hall.specs.Hall.{answer}
use Rattle.fm_hall.specs.declared.taken.Taken.TheVariants.{Taken, Refused}
use Rattle.fm_record.specs.StepBytes.{Begins, IsFirst, step_bytes, steps_bytes}
use Rattle.fm_audit.specs.Verdict.{IsBadAt, IsRefusedAt, IsRun, IsUnfinished, Leads}
use Rattle.fm_record.proofs.ReadingLemmas.{first_size}
use Rattle.fm_record.proofs.StepLemmas.{bytes_more, fields_more}

-- the bytes before this position are so many legal steps, which lead to this state
pub record Reaches (g : Setting) (begin : State) (bytes : List ℕ) (position count : ℕ) (now : State) : Type 0 where
  pub steps : List Step
  pub rest : List ℕ
  pub leads : Leads g begin bytes steps rest
  pub left : drop position bytes ≡ rest
  pub here : position ≡ length (steps_bytes steps)
  pub counted : count ≡ length steps
  pub ran : run g begin steps ≡ now

-- a step that is allowed behind legal steps is legal with them
legal_more : (g : Setting) (h : State) (ss : List Step) (s : Step) → Legal g h ss → Allowed g (run g h ss) s → Legal g h (ss ++ s ∷ [])
legal_more g h [] s legal allowed = (allowed, tt)
legal_more g h (t ∷ ss) s legal allowed = (legal.0, legal_more g (after g h t) ss s legal.1 allowed)

-- one step more is run last
run_more : (g : Setting) (h : State) (ss : List Step) (s : Step) → run g h (ss ++ s ∷ []) ≡ after g (run g h ss) s
run_more g h [] s = refl
run_more g h (t ∷ ss) s = run_more g (after g h t) ss s

-- what an answer says of the reason
pub answer_taken : (o : Option Reason) → Taken ≡ answer o → o ≡ None
answer_taken None e = refl
answer_taken (Some why) e = absurd cc

pub answer_refused : (o : Option Reason) (why : Reason) → Refused why ≡ answer o → o ≡ Some why
answer_refused None why e = absurd cc
answer_refused (Some other) why e = cc

-- the bytes from the position on are the step that they begin with and the rest
first_split : (bs : List ℕ) (s : Step) (n : ℕ) → IsFirst bs s n → bs ≡ step_bytes s ++ drop n bs
first_split bs s n first = sym (take-append-drop n bs) ∙ ap (λ (front : List ℕ). front ++ drop n bs) first.same

-- no step was taken yet
pub reaches_none : (g : Setting) (h : State) (bytes : List ℕ) → Reaches g h bytes 0 0 h
reaches_none g h bytes = record {
  steps = [];
  rest = bytes;
  leads = record { fits = tt; same = refl; legal = tt };
  left = refl;
  here = refl;
  counted = refl;
  ran = refl;
}

module _ (g : Setting) (h : State) (bytes : List ℕ) (position count : ℕ) (now : State) (r : Reaches g h bytes position count now) where
  -- one step more is taken
  pub reaches_more : (s : Step) (n : ℕ) → IsFirst (drop position bytes) s n → Allowed g now s
      → Reaches g h bytes (position + n) (count + 1) (after g now s)
  reaches_more s n first allowed =
      let ss = r.steps in
      let rest = drop n (drop position bytes) in
      let here = r.here in
      let counted = r.counted in
      let size = (first_size (drop position bytes) s n first).0 in
      let more : steps_bytes (ss ++ s ∷ []) ≡ steps_bytes ss ++ step_bytes s = bytes_more ss s in
      record {
        steps = ss ++ s ∷ [];
        rest = rest;
        leads = record {
          fits = fields_more ss s r.leads.fits first.fits;
          same =
              r.leads.same
              ∙ ap (λ (bs : List ℕ). steps_bytes ss ++ bs) (sym r.left ∙ first_split (drop position bytes) s n first)
              ∙ sym (append_assoc (steps_bytes ss) (step_bytes s) rest)
              ∙ ap (λ (bs : List ℕ). bs ++ rest) (sym more);
          legal = legal_more g h ss s r.leads.legal (subst (λ (k : State). Allowed g k s) (sym r.ran) allowed);
        };
        left = sym (drop-drop n position bytes);
        here = omega (arith, here, size, ap length more, length-append (steps_bytes ss) (step_bytes s));
        counted = omega (arith, counted, length-append ss (s ∷ []));
        ran = run_more g h ss s ∙ ap (λ (k : State). after g k s) r.ran;
      }

  -- no step begins here
  pub reaches_bad : position < length bytes → (Begins (drop position bytes) → ⊥) → IsBadAt g h bytes position
  reaches_bad below bad = record {
    steps = r.steps;
    rest = r.rest;
    leads = r.leads;
    here = r.here;
    some = subst (λ (bs : List ℕ). 0 < length bs) r.left (omega (arith, length-drop position bytes));
    bad = subst (λ (bs : List ℕ). Begins bs → ⊥) r.left bad;
  }

  -- the step that begins here is refused
  pub reaches_refused : (s : Step) (n : ℕ) (why : Reason) → IsFirst (drop position bytes) s n → reason g now s ≡ Some why
      → IsRefusedAt g h bytes count why
  reaches_refused s n why first refused = record {
    steps = r.steps;
    step = s;
    rest = drop n (drop position bytes);
    leads = record {
      fits = r.leads.fits;
      same =
          r.leads.same ∙ ap (λ (bs : List ℕ). steps_bytes r.steps ++ bs) (sym r.left ∙ first_split (drop position bytes) s n first);
      legal = r.leads.legal;
    };
    fits = first.fits;
    here = r.counted;
    refused = subst (λ (k : State). reason g k s ≡ Some why) (sym r.ran) refused;
  }

  at_end : length bytes ≤ position → Leads g h bytes r.steps []
  at_end over =
      subst (λ (bs : List ℕ). Leads g h bytes r.steps bs) (sym r.left ∙ drop_all position bytes over) r.leads

  -- all steps were taken
  pub reaches_end : length bytes ≤ position → Finished g now → IsRun g h bytes
  reaches_end over done = record {
    steps = r.steps;
    leads = at_end over;
    finished = subst (Finished g) (sym r.ran) done;
  }

  pub reaches_short : length bytes ≤ position → (Finished g now → ⊥) → IsUnfinished g h bytes count
  reaches_short over short = record {
    steps = r.steps;
    leads = at_end over;
    here = r.counted;
    unfinished = subst (λ (k : State). Finished g k → ⊥) (sym r.ran) short;
  }
