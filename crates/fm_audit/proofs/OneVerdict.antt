-- A record has one verdict: two walks along the same bytes go the same way and stop at the same position.
use Rattle.std.proofs.Common.{◌≡◌, ℕ, ◌<◌, List, [], ◌∷◌, ◌++◌, length, Option, Some, None, refl, sym, ◌∙◌, ap, subst, arith, append_assoc}
use Rattle.std.proofs.lemmas.List.{append_cancel_left}
use Rattle.fm_core.specs.Effects.{Legal, after, run}
use Rattle.fm_core.specs.State.{Setting, State}
use Rattle.fm_core.specs.Steps.{reason}
use Rattle.fm_core.specs.declared.reason.Reason.{Reason}
use Rattle.fm_core.specs.declared.step.Step.{Step}
use Rattle.fm_progress.specs.Progress.{Finished}
use Rattle.fm_record.specs.StepBytes.{Begins, HasFields, HaveFields, step_bytes, steps_bytes}
use Rattle.fm_audit.specs.Verdict.{Judged, Leads}
use Rattle.fm_audit.specs.declared.fault.AuditFault.{AuditFault}
use Rattle.fm_audit.specs.declared.fault.AuditFault.TheVariants.{BadStep, Refused, Unfinished, Sink, Memory}
use Rattle.fm_record.proofs.ReadingLemmas.{one_step, some_bytes}

-- the bytes at which a walk stops: none are left, or no step begins, or the step s that begins is refused
data Stop (g : Setting) (h : State) (rest : List ℕ) : Type 0 where
  at_end : rest ≡ [] → Stop g h rest
  at_none : 0 < length rest → (Begins rest → ⊥) → Stop g h rest
  at_step : (s : Step) (more : List ℕ) (why : Reason) → HasFields s → rest ≡ step_bytes s ++ more → reason g h s ≡ Some why
      → Stop g h rest

-- a walk does not stop before a step that is allowed
no_stop : (g : Setting) (h : State) (t : Step) (more : List ℕ) → HasFields t → reason g h t ≡ None
    → Stop g h (step_bytes t ++ more) → ⊥
no_stop g h t more fits allowed (at_end none) = some_bytes t more none
no_stop g h t more fits allowed (at_none some bad) = bad (record { step = t; fits = fits; rest = more; same = refl })
no_stop g h t more fits allowed (at_step s other why fs bytes_are refused) =
    let same = one_step t s more other fits fs bytes_are in
    no_reason why (sym allowed ∙ ap (reason g h) same ∙ refused)
  where
    no_reason : (r : Reason) → None ≡ Some r → ⊥
    no_reason r e = cc

-- two walks along the same bytes take the same steps
same_walk : (g : Setting) (h : State) (ss ts : List Step) (xs ys : List ℕ) → HaveFields ss → HaveFields ts
    → Legal g h ss → Legal g h ts → steps_bytes ss ++ xs ≡ steps_bytes ts ++ ys → Stop g (run g h ss) xs → Stop g (run g h ts) ys → ss ≡ ts
same_walk g h [] [] xs ys fs ft ls lt same stop stop_too = refl
same_walk g h [] (t ∷ ts) xs ys fs ft ls lt same stop stop_too =
    absurd (no_stop g h t (steps_bytes ts ++ ys) ft.0 lt.0
    (subst (Stop g h) (same ∙ append_assoc (step_bytes t) (steps_bytes ts) ys) stop))
same_walk g h (s ∷ ss) [] xs ys fs ft ls lt same stop stop_too =
    absurd (no_stop g h s (steps_bytes ss ++ xs) fs.0 ls.0
    (subst (Stop g h) (sym same ∙ append_assoc (step_bytes s) (steps_bytes ss) xs) stop_too))
same_walk g h (s ∷ ss) (t ∷ ts) xs ys fs ft ls lt same stop stop_too =
    let whole : step_bytes s ++ (steps_bytes ss ++ xs) ≡ step_bytes t ++ (steps_bytes ts ++ ys) =
    sym (append_assoc (step_bytes s) (steps_bytes ss) xs) ∙ same ∙ append_assoc (step_bytes t) (steps_bytes ts) ys in
    let first = one_step s t (steps_bytes ss ++ xs) (steps_bytes ts ++ ys) fs.0 ft.0 whole in
    let rest : steps_bytes ss ++ xs ≡ steps_bytes ts ++ ys =
    append_cancel_left (step_bytes t) (steps_bytes ss ++ xs) (steps_bytes ts ++ ys)
    (subst (λ (x : Step). step_bytes x ++ (steps_bytes ss ++ xs) ≡ step_bytes t ++ (steps_bytes ts ++ ys)) first whole) in
    let others = same_walk g (after g h t) ss ts xs ys fs.1 ft.1
    (subst (λ (x : Step). Legal g (after g h x) ss) first ls.1) lt.1 rest
    (subst (λ (x : Step). Stop g (run g (after g h x) ss) xs) first stop) stop_too in
    rw (first, others) refl

-- the step that begins is refused
record IsRefusal (g : Setting) (h : State) (rest : List ℕ) (why : Reason) : Type 0 where
  step : Step
  more : List ℕ
  fits : HasFields step
  same : rest ≡ step_bytes step ++ more
  refused : reason g h step ≡ Some why

-- what a verdict says where a walk of k steps in p bytes stops
abbrev Says : Setting → State → ℕ → ℕ → List ℕ → Option AuditFault → Type 0
Says g h k p rest None = (rest ≡ []) × Finished g h
Says g h k p rest (Some (BadStep n)) = (n ≡ p) × (0 < length rest) × (Begins rest → ⊥)
Says g h k p rest (Some (Refused n why)) = (n ≡ k) × IsRefusal g h rest why
Says g h k p rest (Some (Unfinished n)) = (n ≡ k) × (rest ≡ []) × (Finished g h → ⊥)
Says g h k p rest (Some Sink) = ⊥
Says g h k p rest (Some Memory) = ⊥

stops : (g : Setting) (h : State) (k p : ℕ) (rest : List ℕ) (o : Option AuditFault) → Says g h k p rest o → Stop g h rest
stops g h k p rest None says = at_end says.0
stops g h k p rest (Some (BadStep n)) says = at_none says.1 says.2
stops g h k p rest (Some (Refused n why)) says =
    let r = says.1 in at_step r.step r.more why r.fits r.same r.refused
stops g h k p rest (Some (Unfinished n)) says = at_end says.1
stops g h k p rest (Some Sink) says = absurd says
stops g h k p rest (Some Memory) says = absurd says

no_refusal_at_end : (g : Setting) (h : State) (rest : List ℕ) (why : Reason) → rest ≡ [] → IsRefusal g h rest why → ⊥
no_refusal_at_end g h rest why none r = some_bytes r.step r.more (sym r.same ∙ none)

no_bytes : (rest : List ℕ) → rest ≡ [] → 0 < length rest → ⊥
no_bytes rest none some = absurd (omega (arith, ap length none, some))

refusal_begins : (g : Setting) (h : State) (rest : List ℕ) (why : Reason) → IsRefusal g h rest why → Begins rest
refusal_begins g h rest why r = record { step = r.step; fits = r.fits; rest = r.more; same = r.same }

one_reason : (g : Setting) (h : State) (rest : List ℕ) (why other : Reason) → IsRefusal g h rest why → IsRefusal g h rest other
    → why ≡ other
one_reason g h rest why other r q =
    let same = one_step r.step q.step r.more q.more r.fits q.fits (sym r.same ∙ q.same) in
    same_reason (sym r.refused ∙ ap (reason g h) same ∙ q.refused)
  where
    same_reason : Some why ≡ Some other → why ≡ other
    same_reason e = cc

-- where a walk stops, one verdict is said
says_once : (g : Setting) (h : State) (k p : ℕ) (rest : List ℕ) (o q : Option AuditFault)
    → Says g h k p rest o → Says g h k p rest q → o ≡ q
says_once g h k p rest None None x y = refl
says_once g h k p rest None (Some (BadStep n)) x y = absurd (no_bytes rest x.0 y.1)
says_once g h k p rest None (Some (Refused n why)) x y = absurd (no_refusal_at_end g h rest why x.0 y.1)
says_once g h k p rest None (Some (Unfinished n)) x y = absurd (y.2 x.1)
says_once g h k p rest (Some (BadStep n)) None x y = absurd (no_bytes rest y.0 x.1)
says_once g h k p rest (Some (BadStep n)) (Some (BadStep m)) x y = rw (x.0, y.0) refl
says_once g h k p rest (Some (BadStep n)) (Some (Refused m why)) x y = absurd (x.2 (refusal_begins g h rest why y.1))
says_once g h k p rest (Some (BadStep n)) (Some (Unfinished m)) x y = absurd (no_bytes rest y.1 x.1)
says_once g h k p rest (Some (Refused n why)) None x y = absurd (no_refusal_at_end g h rest why y.0 x.1)
says_once g h k p rest (Some (Refused n why)) (Some (BadStep m)) x y = absurd (y.2 (refusal_begins g h rest why x.1))
says_once g h k p rest (Some (Refused n why)) (Some (Refused m other)) x y =
    rw (x.0, y.0, one_reason g h rest why other x.1 y.1) refl
says_once g h k p rest (Some (Refused n why)) (Some (Unfinished m)) x y = absurd (no_refusal_at_end g h rest why y.1 x.1)
says_once g h k p rest (Some (Unfinished n)) None x y = absurd (x.2 y.1)
says_once g h k p rest (Some (Unfinished n)) (Some (BadStep m)) x y = absurd (no_bytes rest x.1 y.1)
says_once g h k p rest (Some (Unfinished n)) (Some (Refused m why)) x y = absurd (no_refusal_at_end g h rest why x.1 y.1)
says_once g h k p rest (Some (Unfinished n)) (Some (Unfinished m)) x y = rw (x.0, y.0) refl
says_once g h k p rest None (Some Sink) x y = absurd y
says_once g h k p rest None (Some Memory) x y = absurd y
says_once g h k p rest (Some (BadStep n)) (Some Sink) x y = absurd y
says_once g h k p rest (Some (BadStep n)) (Some Memory) x y = absurd y
says_once g h k p rest (Some (Refused n why)) (Some Sink) x y = absurd y
says_once g h k p rest (Some (Refused n why)) (Some Memory) x y = absurd y
says_once g h k p rest (Some (Unfinished n)) (Some Sink) x y = absurd y
says_once g h k p rest (Some (Unfinished n)) (Some Memory) x y = absurd y
says_once g h k p rest (Some Sink) q x y = absurd x
says_once g h k p rest (Some Memory) q x y = absurd x

-- a walk along the bytes to where it stops, and its verdict
record IsWalk (g : Setting) (h : State) (bytes : List ℕ) (o : Option AuditFault) : Type 0 where
  steps : List Step
  rest : List ℕ
  leads : Leads g h bytes steps rest
  says : Says g (run g h steps) (length steps) (length (steps_bytes steps)) rest o

walk : (g : Setting) (h : State) (bytes : List ℕ) (o : Option AuditFault) → Judged g h bytes o → IsWalk g h bytes o
walk g h bytes None j = record { steps = j.steps; rest = []; leads = j.leads; says = (refl, j.finished) }
walk g h bytes (Some (BadStep n)) j = record { steps = j.steps; rest = j.rest; leads = j.leads; says = (j.here, j.some, j.bad) }
walk g h bytes (Some (Refused n why)) j = record {
  steps = j.steps;
  rest = step_bytes j.step ++ j.rest;
  leads = j.leads;
  says = (j.here, record { step = j.step; more = j.rest; fits = j.fits; same = refl; refused = j.refused });
}
walk g h bytes (Some (Unfinished n)) j =
    record { steps = j.steps; rest = []; leads = j.leads; says = (j.here, refl, j.unfinished) }
walk g h bytes (Some Sink) j = absurd j
walk g h bytes (Some Memory) j = absurd j

-- a record has one verdict
pub one_verdict : (g : Setting) (h : State) (bytes : List ℕ) (o q : Option AuditFault) → Judged g h bytes o → Judged g h bytes q → o ≡ q
one_verdict g h bytes o q j k =
    let a = walk g h bytes o j in
    let b = walk g h bytes q k in
    let bytes_are : steps_bytes a.steps ++ a.rest ≡ steps_bytes b.steps ++ b.rest = sym a.leads.same ∙ b.leads.same in
    let same = same_walk g h a.steps b.steps a.rest b.rest a.leads.fits b.leads.fits a.leads.legal b.leads.legal bytes_are
    (stops g (run g h a.steps) (length a.steps) (length (steps_bytes a.steps)) a.rest o a.says)
    (stops g (run g h b.steps) (length b.steps) (length (steps_bytes b.steps)) b.rest q b.says) in
    let rest = append_cancel_left (steps_bytes b.steps) a.rest b.rest
    (subst (λ (ss : List Step). steps_bytes ss ++ a.rest ≡ steps_bytes b.steps ++ b.rest) same bytes_are) in
    let moved = subst (λ (ss : List Step). Says g (run g h ss) (length ss) (length (steps_bytes ss)) a.rest o) same a.says in
    says_once g (run g h b.steps) (length b.steps) (length (steps_bytes b.steps)) b.rest o q
    (subst (λ (bs : List ℕ). Says g (run g h b.steps) (length b.steps) (length (steps_bytes b.steps)) bs o) rest moved) b.says
