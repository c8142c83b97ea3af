-- A record has one verdict: it is accepted with one score, or has one fault, and not both.
use Rattle.std.proofs.Common.{◌≡◌, ◌<◌, ◌≤◌, ℕ, List, length, Option, Some, None, sym, ap, ap₂, ◌∙◌, subst, arith}
use Rattle.fm_audit.proofs.OneVerdict.{one_verdict}
use Rattle.fm_audit.specs.declared.fault.AuditFault.{AuditFault}
use Rattle.fm_grammar.specs.Score as tree
use Rattle.fm_meaning.specs.Verdict.{HasFault, Means}
use Rattle.fm_record.proofs.HeadLemmas.{head_back, one_head}
use Rattle.fm_record.specs.Head.{bad_field}
use Rattle.fm_record.specs.declared.limits.TheConstants.{MAX_RECORD}
use Rattle.fm_tell.specs.declared.run_fault.RunFault.{RunFault}
use Rattle.fm_tell.specs.declared.run_fault.RunFault.TheVariants as run
use Rattle.fm_top.specs.Products.{MakesAudited, Product, performance}
use Rattle.fm_top.specs.Records.{HasVerdict, IsAccepted, IsFaultOfRecord, IsRecord, Parts, RecordFails, TextFails, begins, passes, step_fault, strays}
use Rattle.fm_top.proofs.TextVerdicts.{TextVerdict, text_fault}

-- ---- the parts of a record

abbrev parts_at : ℕ → ℕ → ℕ → List ℕ → List ℕ → Parts
parts_at seats room lead text steps = record { seats = seats; room = room; lead = lead; text = text; steps = steps }

same_parts : (p q : Parts) → p.seats ≡ q.seats → p.room ≡ q.room → p.lead ≡ q.lead → p.text ≡ q.text → p.steps ≡ q.steps → p ≡ q
same_parts p q seats room lead text steps =
    ap (λ (z : ℕ). parts_at z p.room p.lead p.text p.steps) seats
    ∙ ap (λ (z : ℕ). parts_at q.seats z p.lead p.text p.steps) room
    ∙ ap (λ (z : ℕ). parts_at q.seats q.room z p.text p.steps) lead
    ∙ ap (λ (z : List ℕ). parts_at q.seats q.room q.lead z p.steps) text
    ∙ ap (λ (z : List ℕ). parts_at q.seats q.room q.lead q.text z) steps

-- they are the only ones of its bytes
one_record : (bytes : List ℕ) (p q : Parts) → IsRecord bytes p → IsRecord bytes q → p ≡ q
one_record bytes p q a b =
    let same = one_head p.seats p.room p.lead q.seats q.room q.lead p.text q.text p.steps q.steps a.head b.head (sym a.same ∙ b.same) in
    same_parts p q same.0 same.1 same.2 same.3 same.4

-- and no field of its head is one that cannot stand
record_begins : (bytes : List ℕ) (p : Parts) → IsRecord bytes p → bad_field bytes ≡ None
record_begins bytes p is = ap bad_field is.same ∙ head_back p.seats p.room p.lead p.text p.steps is.head

never_both : (o : Option ℕ) (at : ℕ) → o ≡ None → o ≡ Some at → ⊥
never_both o at none some = cc

begins_badly : (bytes : List ℕ) (p : Parts) (at : ℕ) → IsRecord bytes p → bad_field bytes ≡ Some at → ⊥
begins_badly bytes p at is bad = never_both (bad_field bytes) at (record_begins bytes p is) bad

-- ---- the verdict on its steps

-- over the one score that its text means it is one
one_steps : TextVerdict → (bytes : List ℕ) (p q : Parts) (s t : tree.Score) (v w : Option AuditFault) → IsRecord bytes p
    → IsRecord bytes q → Means p.text s → Means q.text t → HasVerdict p s v → HasVerdict q t w → v ≡ w
one_steps one bytes p q s t v w a b means means' has has' =
    let same : p ≡ q = one_record bytes p q a b in
    let scores : s ≡ t = one.score q.text s t (subst (λ (z : Parts). Means z.text s) same means) means' in
    one_verdict _ _ q.steps v w
    (subst (λ (z : tree.Score). HasVerdict q z v) scores (subst (λ (z : Parts). HasVerdict z s v) same has)) has'

-- ---- one product

pub record_made : TextVerdict → (bytes : List ℕ) (m n : Product) → MakesAudited bytes m → MakesAudited bytes n → m ≡ n
record_made one bytes m n a b =
    let same : a.accepted.parts ≡ b.accepted.parts =
    one_record bytes a.accepted.parts b.accepted.parts a.accepted.is_record b.accepted.is_record in
    let scores : a.score ≡ b.score =
    one.score b.accepted.parts.text a.score b.score (subst (λ (z : Parts). Means z.text a.score) same a.accepted.means) b.accepted.means in
    a.is ∙ ap (performance None) scores ∙ sym b.is

-- ---- or one fault

no_fault_none : (fault : AuditFault) → ◌≡◌ {A = Option AuditFault} None (Some fault) → ⊥
no_fault_none fault same = cc

record_sound : TextVerdict → (bytes : List ℕ) (s : tree.Score) (at number : ℕ) → IsAccepted bytes s → RecordFails bytes at number → ⊥
record_sound one bytes s at number a (passes long none is) = let short = a.is_record.short in absurd (omega (arith, long, short))
record_sound one bytes s at number a (begins short bad is) = begins_badly bytes a.parts at a.is_record bad
record_sound one bytes s at number a (strays p t fault held means has told) =
    no_fault_none fault (one_steps one bytes a.parts p s t None (Some fault) a.is_record held a.means means a.run has)

-- a text has no fault where it means a score
text_sound : TextVerdict → (bytes : List ℕ) (p : Parts) (s : tree.Score) (line column number : ℕ) → IsRecord bytes p → Means p.text s
    → TextFails bytes line column number → ⊥
text_sound one bytes p s line column number is means fails =
    let same : p ≡ fails.parts = one_record bytes p fails.parts is fails.is_record in
    one.apart fails.parts.text line column number
    (record { score = s; means = subst (λ (z : Parts). Means z.text s) same means }) fails.fault

pub record_apart : TextVerdict → (bytes : List ℕ) (m : Product) (f : RunFault) → MakesAudited bytes m → IsFaultOfRecord bytes f → ⊥
record_apart one bytes m (run.Record at n) a fault = record_sound one bytes a.score at n a.accepted fault
record_apart one bytes m (run.Score spot n) a fault =
    text_sound one bytes a.accepted.parts a.score spot.line spot.column n a.accepted.is_record a.accepted.means fault
record_apart one bytes m run.Words a fault = fault
record_apart one bytes m run.Read a fault = fault
record_apart one bytes m (run.File at n) a fault = fault
record_apart one bytes m run.NoProcess a fault = fault
record_apart one bytes m run.Write a fault = fault
record_apart one bytes m run.Memory a fault = fault

-- a fault of the text is none of the record around it
text_or_record : TextVerdict → (bytes : List ℕ) (line column n at number : ℕ) → TextFails bytes line column n
    → RecordFails bytes at number → ⊥
text_or_record one bytes line column n at number a (passes long none is) =
    let short = a.is_record.short in absurd (omega (arith, long, short))
text_or_record one bytes line column n at number a (begins short bad is) = begins_badly bytes a.parts at a.is_record bad
text_or_record one bytes line column n at number a (strays p s fault held means has told) =
    text_sound one bytes p s line column n held means a

same_pair : (o : Option (ℕ × ℕ)) (x y : ℕ × ℕ) → o ≡ Some x → o ≡ Some y → x ≡ y
same_pair o x y a b = cc

same_place : (o : Option ℕ) (x y : ℕ) → o ≡ Some x → o ≡ Some y → x ≡ y
same_place o x y a b = cc

same_fault : (f g : AuditFault) → ◌≡◌ {A = Option AuditFault} (Some f) (Some g) → f ≡ g
same_fault f g same = cc

abbrev pair : ℕ → ℕ → ℕ × ℕ
pair at number = (at, number)

fails_once : TextVerdict → (bytes : List ℕ) (a m b n : ℕ) → RecordFails bytes a m → RecordFails bytes b n → pair a m ≡ pair b n
fails_once one bytes a m b n (passes long p q) (passes long' p' q') = ap₂ pair (p ∙ sym p') (q ∙ sym q')
fails_once one bytes a m b n (passes long p q) (begins short' p' q') = absurd (omega (arith, long, short'))
fails_once one bytes a m b n (passes long p q) (strays x s f held means has told) =
    let short = held.short in absurd (omega (arith, long, short))
fails_once one bytes a m b n (begins short p q) (passes long' p' q') = absurd (omega (arith, long', short))
fails_once one bytes a m b n (begins short p q) (begins short' p' q') =
    ap₂ pair (same_place (bad_field bytes) a b p p') (q ∙ sym q')
fails_once one bytes a m b n (begins short p q) (strays x s f held means has told) = absurd (begins_badly bytes x a held p)
fails_once one bytes a m b n (strays x s f held means has told) (passes long' p' q') =
    let short = held.short in absurd (omega (arith, long', short))
fails_once one bytes a m b n (strays x s f held means has told) (begins short' p' q') = absurd (begins_badly bytes x b held p')
fails_once one bytes a m b n (strays x s f held means has told) (strays y t g held' means' has' told') =
    let same : f ≡ g = same_fault f g (one_steps one bytes x y s t (Some f) (Some g) held held' means means' has has') in
    same_pair (step_fault g) (pair a m) (pair b n) (ap step_fault (sym same) ∙ told) told'

abbrev record_fault : ℕ × ℕ → RunFault
record_fault x = run.Record x.0 x.1

pub record_same : TextVerdict → (bytes : List ℕ) (f g : RunFault) → IsFaultOfRecord bytes f → IsFaultOfRecord bytes g → f ≡ g
record_same one bytes (run.Record a m) (run.Record b n) x y = ap record_fault (fails_once one bytes a m b n x y)
record_same one bytes (run.Record a m) (run.Score s n) x y = absurd (text_or_record one bytes s.line s.column n a m y x)
record_same one bytes (run.Score s n) (run.Record a m) x y = absurd (text_or_record one bytes s.line s.column n a m x y)
record_same one bytes (run.Score s n) (run.Score t k) x y =
    let same : x.parts ≡ y.parts = one_record bytes x.parts y.parts x.is_record y.is_record in
    text_fault one y.parts.text (run.Score s n) (run.Score t k)
    (subst (λ (z : Parts). HasFault z.text s.line s.column n) same x.fault) y.fault
record_same one bytes (run.Record a m) run.Words x y = absurd y
record_same one bytes (run.Record a m) run.Read x y = absurd y
record_same one bytes (run.Record a m) (run.File p k) x y = absurd y
record_same one bytes (run.Record a m) run.NoProcess x y = absurd y
record_same one bytes (run.Record a m) run.Write x y = absurd y
record_same one bytes (run.Record a m) run.Memory x y = absurd y
record_same one bytes (run.Score s n) run.Words x y = absurd y
record_same one bytes (run.Score s n) run.Read x y = absurd y
record_same one bytes (run.Score s n) (run.File p k) x y = absurd y
record_same one bytes (run.Score s n) run.NoProcess x y = absurd y
record_same one bytes (run.Score s n) run.Write x y = absurd y
record_same one bytes (run.Score s n) run.Memory x y = absurd y
record_same one bytes run.Words g x y = absurd x
record_same one bytes run.Read g x y = absurd x
record_same one bytes (run.File p k) g x y = absurd x
record_same one bytes run.NoProcess g x y = absurd x
record_same one bytes run.Write g x y = absurd x
record_same one bytes run.Memory g x y = absurd x

-- ---- which is that of too many bytes, whatever follows

fails_longer : (bytes told : List ℕ) (at number : ℕ) → MAX_RECORD < length bytes → length bytes ≤ length told
    → RecordFails bytes at number → RecordFails told at number
fails_longer bytes told at number long le (passes _ none is) = passes (omega (arith, long, le)) none is
fails_longer bytes told at number long le (begins short bad is) = absurd (omega (arith, long, short))
fails_longer bytes told at number long le (strays p s f held means has told') =
    let short = held.short in absurd (omega (arith, long, short))

pub record_longer : (bytes told : List ℕ) (f : RunFault) → MAX_RECORD < length bytes → length bytes ≤ length told
    → IsFaultOfRecord bytes f → IsFaultOfRecord told f
record_longer bytes told (run.Record at n) long le fault = fails_longer bytes told at n long le fault
record_longer bytes told (run.Score s n) long le fault =
    let short = fault.is_record.short in absurd (omega (arith, long, short))
record_longer bytes told run.Words long le fault = fault
record_longer bytes told run.Read long le fault = fault
record_longer bytes told (run.File p k) long le fault = fault
record_longer bytes told run.NoProcess long le fault = fault
record_longer bytes told run.Write long le fault = fault
record_longer bytes told run.Memory long le fault = fault
