-- Entries that are outlined one call after another.
use Rattle.std.proofs.Common.{◌≡◌, true, false, is_some, List, [], ◌∷◌, ◌++◌, ◌∙◌, sym, ap, refl, subst, inl, inr, ⊎_elim, Option, Some, None, Result, Ok, Err}
use Rattle.std.specs.Prelude.{⊤, ◌⊎◌, OnOk}
use Rattle.std.specs.Result.{result_err}
use Rattle.fm_lex.specs.declared.spot.Spot.{Spot}
use Rattle.fm_grammar.specs.Score as text
use Rattle.fm_grammar.specs.Making.{AreMade, AreEntered}
use Rattle.fm_grammar.specs.View.{PlacedStmt}
use Rattle.fm_meaning.specs.Fault.{NumberedFault}
use Rattle.fm_meaning.specs.Faults.{first_found}
use Rattle.fm_meaning.specs.Ranges.{Names, stmt_faults, body_faults, double_faults, entries_faults, second_walk}
use Rattle.fm_rules.specs.View.{rules_view}
use Rattle.fm_rules.specs.Why.{fault_at}
use Rattle.fm_rules.specs.declared.fault.CheckFault.{CheckFault}
use Rattle.fm_rules.specs.declared.fault.CheckFault.TheVariants.{Refused, Memory}
use Rattle.fm_rules.specs.declared.why.Why.{Why}
use Rattle.fm_names.specs.Named.{named}
use Rattle.std.specs.declared.alloc.AllocError.{AllocError}
use Rattle.fm_outline.specs.declared.step.Step.{Step}
use Rattle.fm_outline.specs.declared.sketch.Sketch.{Sketch}
use Rattle.fm_outline.specs.declared.walk.Walk.{Walk}
use Rattle.fm_outline.specs.declared.outliner.Outliner.{Outliner}
use Rattle.fm_outline.specs.Knows.{names_of}
use Rattle.fm_outline.specs.Outlined.{IsBlockOf}
use Rattle.fm_outline.specs.Outlining.{GoesOn, IsFirstOf, with_tables, StepMade, IsOutlined, NameNew, IsNamed, IsFaultOf, OutlinedTo, SoFar, IsEntered}
use Rattle.fm_outline.specs.Refusal.{Refuses, memory_answer}
use Rattle.fm_outline.specs.Sketched.{with_entries, with_entry}
use Rattle.fm_outline.specs.View.{tables_view}
use Rattle.fm_outline.specs.Walked.{Walked, EntryDone, EntryRefused, PhraseDefined, StepAppended}
use Rattle.fm_outline.proofs.RefusalLemmas.{before as earlier}
use Rattle.fm_outline.proofs.WalkLemmas.{first_refused, inside_refused}
use Rattle.fm_outline.proofs.SketchLemmas.{entry_faulty, with_none, with_behind}
use Rattle.fm_outline.proofs.CallLemmas.{none_of, stopped_still, goes_then}
use Rattle.fm_outline.proofs.BlockLemmas.{BlockMade, block_made}

-- ---- entries

-- an entry is done between two sketches
pub record EntryMade (s : Sketch) (e : text.Entry) (u : Sketch) : Type 0 where
  pub done : EntryDone s.walk e u.walk
  pub seed : u.seed ≡ s.seed
  pub rules : u.rules ≡ s.rules

-- a fault of an entry
abbrev pub EntryFaulty : Sketch → text.Entry → CheckFault → Type 0
EntryFaulty s e (Refused why spot) = EntryRefused s.walk e spot why
EntryFaulty s e Memory = ⊤

-- a fault stays the first one, whatever entries follow
faulty_still : (score : text.Score) (e : text.Entry) (fault : CheckFault) → IsFaultOf score fault
    → IsFaultOf (with_entry score e) fault
faulty_still score e (Refused why spot) is = λ rest.
    ap (λ x. first_found (second_walk x)) (with_behind score e rest) ∙ is (e ∷ rest)
faulty_still score e Memory is = tt

-- one entry more
enters : (s u : Sketch) (e : text.Entry) (f g : Option CheckFault) → GoesOn (EntryMade s e u) (EntryFaulty s e) f g
    → (score : text.Score) → OutlinedTo s score f → OutlinedTo u (with_entry score e) g
enters s u e None None made score o = record {
  walked = λ rest.
      subst (λ x. Walked x u.walk rest) (sym (with_behind score e rest))
      (made.done (with_entries score (e ∷ rest)) rest (o.walked (e ∷ rest)));
  seed = made.seed ∙ o.seed;
  rules = ap rules_view made.rules ∙ o.rules;
}
enters s u e None (Some (Refused why spot)) told score o = entry_faulty spot why told o
enters s u e None (Some Memory) told score o = tt
enters s u e (Some fault) g is score o =
    subst (OutlinedTo u (with_entry score e)) (sym is) (faulty_still score e fault o)

-- entries in turn
pub all_entered : (o : Outliner) (es : List text.Entry) (p : Outliner) → AreEntered IsEntered o es p
    → (s : text.Score) → SoFar o s → SoFar p (with_entries s es)
all_entered o [] p is s far = subst (λ q. SoFar q (with_entries s [])) is (subst (SoFar o) (sym (with_none s)) far)
all_entered o (e ∷ es) p (q, first, rest) s far =
    subst (SoFar p) (with_behind s e es) (all_entered q es p rest (with_entry s e) (first s far))

-- ---- a statement that is played

-- the faults of a first entry, whatever follows
faults_first : (s : Sketch) (e : text.Entry) (faults : Names → List NumberedFault)
    → ((ns : Names) (rest : List text.Entry) (f : NumberedFault) → first_found (faults ns) ≡ Some f
    → first_found (entries_faults ns (e ∷ rest)) ≡ Some f)
    → (fault : CheckFault) → IsFirstOf s.walk.known faults fault → EntryFaulty s e fault
faults_first s e faults first (Refused why spot) told = λ score rest r.
    first_refused r (fault_at spot why)
    (λ k look knows. first (names_of k) rest (fault_at spot why) (told k look knows))
faults_first s e faults first Memory told = tt

-- what a call does with a sketch and its walk
pub record Does (P : Walk → Walk → Type 0) (s u : Sketch) : Type 0 where
  pub does : P s.walk u.walk
  pub seed : u.seed ≡ s.seed
  pub rules : u.rules ≡ s.rules

-- a call that only lacks memory
abbrev pub IsDone : (Walk → Walk → Type 0) → Outliner → Outliner → Type 0
IsDone P o p = GoesOn (Does P o.sketch p.sketch) (λ e. e ≡ Memory) o.fault p.fault

-- no entry has such a fault
memory_alone : (s : Sketch) (e : text.Entry) (fault : CheckFault) → fault ≡ Memory → EntryFaulty s e fault
memory_alone s e fault is = subst (EntryFaulty s e) (sym is) tt

-- a statement that was outlined is appended
play_entered : {s o p : Sketch} {stmt : PlacedStmt} {step : Step} → StepMade s stmt step o
    → Does (λ w u. StepAppended w step u) o p → EntryMade s (text.plays stmt.spot stmt.what) p
play_entered {s} {o} {p} {stmt} {step} made put = record {
  done = λ score rest r.
      subst (λ (x : Sketch). StepAppended x.walk step p.walk) made.same put.does score rest stmt
      (tables_view s.walk.tables) r made.made;
  seed = put.seed ∙ ap (λ (x : Sketch). x.seed) made.same;
  rules = put.rules ∙ ap (λ (x : Sketch). x.rules) made.same;
}

pub play_enters : (before o p : Outliner) (stmt : PlacedStmt) (step : Step) → IsOutlined before stmt step o
    → IsDone (λ w u. StepAppended w step u) o p → IsEntered before (text.plays stmt.spot stmt.what) p
play_enters before o p stmt step made put =
    let e = text.plays stmt.spot stmt.what in
    enters before.sketch p.sketch e before.fault p.fault
    (goes_then before.fault o.fault p.fault made put
    play_entered
    (faults_first before.sketch e (λ ns. stmt_faults ns stmt.what)
    (λ ns rest f. earlier (stmt_faults ns stmt.what) (entries_faults ns rest) f))
    (λ fault here is. memory_alone before.sketch e fault is))

-- ---- a phrase

-- a phrase that was outlined behind its name is defined
phrase_entered : {s i o p : Sketch} {name : text.Leaf} {b : text.Body} {steps : List Step} → NameNew s name i
    → BlockMade i b steps o → Does (λ w u. PhraseDefined w name steps u) o p → EntryMade s (text.phrase name b) p
phrase_entered {s} {i} {o} {p} {name} {b} {steps} new made put =
    let same : o ≡ with_tables s o.walk.tables = made.same ∙ ap (λ x. with_tables x o.walk.tables) new.same in
    let here = subst (λ (x : Sketch). IsBlockOf x.walk.known (tables_view x.walk.tables) b steps (tables_view o.walk.tables)) new.same
    made.made in
    record {
      done = λ score rest r.
          subst (λ (x : Sketch). PhraseDefined x.walk name steps p.walk) same put.does score rest b
          (tables_view s.walk.tables) r new.free here;
      seed = put.seed ∙ ap (λ (x : Sketch). x.seed) same;
      rules = put.rules ∙ ap (λ (x : Sketch). x.rules) same;
    }

-- a fault of the block of a phrase
inside_faulty : (s : Sketch) (name : text.Leaf) (b : text.Body) (fault : CheckFault) → named s.walk.known.names name.text ≡ None
    → IsFirstOf s.walk.known (λ ns. body_faults ns b) fault → EntryFaulty s (text.phrase name b) fault
inside_faulty s name b (Refused why spot) free told = λ score rest r.
    inside_refused r name (fault_at spot why) (λ ns. body_faults ns b)
    (λ ns. entries_faults (record ns { phrases = name.text ∷ ns.phrases }) rest) (λ ns. refl) free told
inside_faulty s name b Memory free told = tt

pub phrase_enters : (before inside o p : Outliner) (name : text.Leaf) (b : text.Body) (steps : List Step)
    → IsNamed before name inside → AreMade IsOutlined inside b steps o → IsDone (λ w u. PhraseDefined w name steps u) o p
    → IsEntered before (text.phrase name b) p
phrase_enters before inside o p name b steps new made put =
    let e = text.phrase name b in
    enters before.sketch p.sketch e before.fault p.fault
    (goes_then before.fault inside.fault p.fault new
    (goes_then
    {R = BlockMade inside.sketch b steps o.sketch × Does (λ w u. PhraseDefined w name steps u) o.sketch p.sketch}
    {S = λ fault. IsFirstOf inside.sketch.walk.known (λ ns. body_faults ns b) fault ⊎ (fault ≡ Memory)}
    inside.fault o.fault p.fault (block_made inside b steps o made) put
    (λ block does. (block, does)) (λ fault told. inl told) (λ fault block is. inr is))
    (λ fresh rest. phrase_entered fresh rest.0 rest.1)
    (faults_first before.sketch e (λ ns. double_faults name ns)
    (λ ns rest f is. earlier (double_faults name ns ++ body_faults ns b)
    (entries_faults (record ns { phrases = name.text ∷ ns.phrases }) rest) f
    (earlier (double_faults name ns) (body_faults ns b) f is)))
    (λ fault fresh. ⊎_elim
    (λ told. inside_faulty before.sketch name b fault fresh.free
    (subst (λ (x : Sketch). IsFirstOf x.walk.known (λ ns. body_faults ns b) fault) fresh.same told))
    (λ is. memory_alone before.sketch e fault is)))

-- ---- calls of an outliner

-- a call that answers for an entry
tried : (s u : Sketch) (e : text.Entry) (r : Result ⊤ CheckFault) → u.seed ≡ s.seed → u.rules ≡ s.rules
    → OnOk r (EntryDone s.walk e u.walk) → Refuses r (EntryRefused s.walk e)
    → GoesOn (EntryMade s e u) (EntryFaulty s e) None (result_err r)
tried s u e (Ok x) seed rules ok refused = record { done = ok; seed = seed; rules = rules }
tried s u e (Err (Refused why spot)) seed rules ok refused = refused why spot refl
tried s u e (Err Memory) seed rules ok refused = tt

pub tried_enters : (o p : Outliner) (e : text.Entry) (r : Result ⊤ CheckFault) → is_some o.fault ≡ false
    → p.fault ≡ result_err r → p.sketch.seed ≡ o.sketch.seed → p.sketch.rules ≡ o.sketch.rules
    → OnOk r (EntryDone o.sketch.walk e p.sketch.walk) → Refuses r (EntryRefused o.sketch.walk e) → IsEntered o e p
tried_enters o p e r going is seed rules ok refused =
    let P = EntryMade o.sketch e p.sketch in
    let Q = EntryFaulty o.sketch e in
    enters o.sketch p.sketch e o.fault p.fault
    (subst (λ f. GoesOn P Q f p.fault) (sym (none_of o.fault going))
    (subst (GoesOn P Q None) (sym is) (tried o.sketch p.sketch e r seed rules ok refused)))

-- a call that only lacks memory
lacks : (P : Walk → Walk → Type 0) (s u : Sketch) (r : Result ⊤ AllocError) → u.seed ≡ s.seed → u.rules ≡ s.rules
    → OnOk r (P s.walk u.walk) → GoesOn (Does P s u) (λ e. e ≡ Memory) None (result_err (memory_answer r))
lacks P s u (Ok x) seed rules ok = record { does = ok; seed = seed; rules = rules }
lacks P s u (Err e) seed rules ok = refl

pub done_going : (P : Walk → Walk → Type 0) (o p : Outliner) (r : Result ⊤ AllocError) → is_some o.fault ≡ false
    → p.fault ≡ result_err (memory_answer r) → p.sketch.seed ≡ o.sketch.seed → p.sketch.rules ≡ o.sketch.rules
    → OnOk r (P o.sketch.walk p.sketch.walk) → IsDone P o p
done_going P o p r going is seed rules ok =
    let D = Does P o.sketch p.sketch in
    subst (λ f. GoesOn D (λ e. e ≡ Memory) f p.fault) (sym (none_of o.fault going))
    (subst (GoesOn D (λ e. e ≡ Memory) None) (sym is) (lacks P o.sketch p.sketch r seed rules ok))

-- nothing is done behind a fault
pub done_stopped : (P : Walk → Walk → Type 0) (o : Outliner) → is_some o.fault ≡ true → IsDone P o o
done_stopped P o stopped = stopped_still (Does P o.sketch o.sketch) (λ e. e ≡ Memory) o.fault stopped

-- the fault of what was told
pub close_told : (o : Outliner) (fault : CheckFault) (why : Why) (spot : Spot) → o.fault ≡ Some fault
    → fault ≡ Refused why spot → (s : text.Score) → SoFar o s → first_found (second_walk s) ≡ Some (fault_at spot why)
close_told o fault why spot is same s far =
    ap (λ x. first_found (second_walk x)) (sym (with_none s))
    ∙ subst (IsFaultOf s) same (subst (OutlinedTo o.sketch s) is far) []
