-- An input has one verdict of a task: one product, or one fault, and not both.
use Rattle.std.proofs.Common.{◌≡◌, ◌<◌, ◌≤◌, ℕ, List, length, Some, None, Ok, refl, sym, ap, ap₂, ◌∙◌, subst, arith}
use Rattle.std.proofs.lemmas.Bool.{lt-ltb, le-ltb}
use Rattle.fm_lex.specs.declared.lexer.TheConstants.{MAX_TEXT}
use Rattle.fm_expansion.specs.Numbering.{score_plan}
use Rattle.fm_meaning.specs.Lines.{played_lines}
use Rattle.fm_meaning.specs.Resolve.{resolved}
use Rattle.fm_position.specs.Told.{IsLocated}
use Rattle.fm_program.specs.Parts.{PlanParts}
use Rattle.fm_read.specs.Files.{Contents, contents}
use Rattle.fm_read.specs.Reading.{Read}
use Rattle.fm_read.specs.declared.limits.TheConstants.{MAX_FILE}
use Rattle.fm_tell.specs.declared.run_fault.RunFault.{RunFault}
use Rattle.fm_tell.specs.declared.run_fault.RunFault.TheVariants as run
use Rattle.fm_top.specs.declared.task.Task.{Task}
use Rattle.fm_top.specs.declared.task.Task.TheVariants as task
use Rattle.fm_top.specs.Products.{IsFaultOfFile, IsFaultOfPosition, Makes, MakesPosition, Product, Refuses, file_fault, listed, only_told, part_of, performance, split, too_large}
use Rattle.fm_top.specs.Tasks.{most_of}
use Rattle.fm_top.specs.Verdicts.{HasOneProduct, OneVerdict}
use Rattle.fm_top.proofs.TextVerdicts.{TextVerdict, score_made, text_apart, text_fault, text_longer}
use Rattle.fm_top.proofs.RecordVerdicts.{record_apart, record_longer, record_made, record_same}

-- ---- of files

same_inside : (x y : ℕ × ℕ) → Some x ≡ Some y → x ≡ y
same_inside x y same = cc

file_same : (bytes : List ℕ) (f g : RunFault) → IsFaultOfFile bytes f → IsFaultOfFile bytes g → f ≡ g
file_same bytes (run.File p k) (run.File q n) a b =
    let same : ◌≡◌ {A = ℕ × ℕ} (p, k) (q, n) = same_inside (p, k) (q, n) (sym a ∙ b) in
    ap₂ (λ x y. run.File x y) (ap (λ (z : ℕ × ℕ). z.0) same) (ap (λ (z : ℕ × ℕ). z.1) same)
file_same bytes (run.File p k) run.Words a b = absurd b
file_same bytes (run.File p k) run.Read a b = absurd b
file_same bytes (run.File p k) (run.Score s n) a b = absurd b
file_same bytes (run.File p k) run.NoProcess a b = absurd b
file_same bytes (run.File p k) run.Write a b = absurd b
file_same bytes (run.File p k) (run.Record q i) a b = absurd b
file_same bytes (run.File p k) run.Memory a b = absurd b
file_same bytes run.Words g a b = absurd a
file_same bytes run.Read g a b = absurd a
file_same bytes (run.Score s n) g a b = absurd a
file_same bytes run.NoProcess g a b = absurd a
file_same bytes run.Write g a b = absurd a
file_same bytes (run.Record q i) g a b = absurd a
file_same bytes run.Memory g a b = absurd a

-- a file within the limit that is read has no fault
no_fault : (bytes : List ℕ) (c : Contents) → length bytes ≤ MAX_FILE → contents bytes ≡ Ok c → file_fault bytes ≡ None
unfolding file_fault
no_fault bytes c short is = rw (le-ltb MAX_FILE (length bytes) short, is) refl

file_apart : (bytes : List ℕ) (c : Contents) (f : RunFault) → length bytes ≤ MAX_FILE → contents bytes ≡ Ok c → IsFaultOfFile bytes f
    → ⊥
file_apart bytes c (run.File p k) short is fault = let none = no_fault bytes c short is in cc
file_apart bytes c run.Words short is fault = fault
file_apart bytes c run.Read short is fault = fault
file_apart bytes c (run.Score s n) short is fault = fault
file_apart bytes c run.NoProcess short is fault = fault
file_apart bytes c run.Write short is fault = fault
file_apart bytes c (run.Record q i) short is fault = fault
file_apart bytes c run.Memory short is fault = fault

-- too many bytes have one fault, whatever follows
pub long_fault : (bytes : List ℕ) → MAX_FILE < length bytes → file_fault bytes ≡ Some (0, too_large)
unfolding file_fault
long_fault bytes long = rw (lt-ltb MAX_FILE (length bytes) long) refl

file_longer : (bytes told : List ℕ) (f : RunFault) → MAX_FILE < length bytes → length bytes ≤ length told → IsFaultOfFile bytes f
    → IsFaultOfFile told f
file_longer bytes told (run.File p k) long le fault =
    let more : MAX_FILE < length told = omega (arith, long, le) in
    long_fault told more ∙ sym (long_fault bytes long) ∙ fault
file_longer bytes told run.Words long le fault = fault
file_longer bytes told run.Read long le fault = fault
file_longer bytes told (run.Score s n) long le fault = fault
file_longer bytes told run.NoProcess long le fault = fault
file_longer bytes told run.Write long le fault = fault
file_longer bytes told (run.Record q i) long le fault = fault
file_longer bytes told run.Memory long le fault = fault

-- ---- of positions

-- what is known of the line of a position: it is one
abbrev pub ToldOnce : Type 0
ToldOnce = (plan : PlanParts) (process tick : ℕ) (a b : List ℕ) → IsLocated plan process tick a → IsLocated plan process tick b → a ≡ b

position_made : TextVerdict → ToldOnce → (tick process : ℕ) (text : List ℕ) (m n : Product) → MakesPosition tick process text m
    → MakesPosition tick process text n → m ≡ n
position_made one once tick process text m n a b =
    let same : a.score ≡ b.score = one.score text a.score b.score a.means b.means in
    let there : IsLocated (score_plan b.score) process tick a.line
    = subst (λ s. IsLocated (score_plan s) process tick a.line) same a.located in
    a.is ∙ ap only_told (once (score_plan b.score) process tick a.line b.line there b.located) ∙ sym b.is

position_apart : TextVerdict → (tick process : ℕ) (text : List ℕ) (m : Product) (f : RunFault) → MakesPosition tick process text m
    → IsFaultOfPosition process text f → ⊥
position_apart one tick process text m (run.Score spot n) a fault = text_apart one text a.score (run.Score spot n) a.means fault
position_apart one tick process text m run.NoProcess a fault =
    let same : a.score ≡ fault.score = one.score text a.score fault.score a.means fault.means in
    let within : process < length (played_lines (resolved fault.score)) =
    subst (λ s. process < length (played_lines (resolved s))) same a.within in
    absurd (omega (arith, within, fault.few))
position_apart one tick process text m run.Words a fault = fault
position_apart one tick process text m run.Read a fault = fault
position_apart one tick process text m (run.File p k) a fault = fault
position_apart one tick process text m run.Write a fault = fault
position_apart one tick process text m (run.Record q i) a fault = fault
position_apart one tick process text m run.Memory a fault = fault

position_same : TextVerdict → (process : ℕ) (text : List ℕ) (f g : RunFault) → IsFaultOfPosition process text f
    → IsFaultOfPosition process text g → f ≡ g
position_same one process text run.NoProcess run.NoProcess a b = refl
position_same one process text run.NoProcess (run.Score s n) a b =
    absurd (text_apart one text a.score (run.Score s n) a.means b)
position_same one process text (run.Score s n) run.NoProcess a b =
    absurd (text_apart one text b.score (run.Score s n) b.means a)
position_same one process text (run.Score s n) (run.Score t k) a b = text_fault one text (run.Score s n) (run.Score t k) a b
position_same one process text run.NoProcess run.Words a b = absurd b
position_same one process text run.NoProcess run.Read a b = absurd b
position_same one process text run.NoProcess (run.File p k) a b = absurd b
position_same one process text run.NoProcess run.Write a b = absurd b
position_same one process text run.NoProcess (run.Record q i) a b = absurd b
position_same one process text run.NoProcess run.Memory a b = absurd b
position_same one process text (run.Score s n) run.Words a b = absurd b
position_same one process text (run.Score s n) run.Read a b = absurd b
position_same one process text (run.Score s n) (run.File p k) a b = absurd b
position_same one process text (run.Score s n) run.Write a b = absurd b
position_same one process text (run.Score s n) (run.Record q i) a b = absurd b
position_same one process text (run.Score s n) run.Memory a b = absurd b
position_same one process text run.Words g a b = absurd a
position_same one process text run.Read g a b = absurd a
position_same one process text (run.File p k) g a b = absurd a
position_same one process text run.Write g a b = absurd a
position_same one process text (run.Record q i) g a b = absurd a
position_same one process text run.Memory g a b = absurd a

position_longer : (process : ℕ) (text told : List ℕ) (f : RunFault) → MAX_TEXT < length text → length text ≤ length told
    → IsFaultOfPosition process text f → IsFaultOfPosition process told f
position_longer process text told (run.Score spot n) long le fault = text_longer text told (run.Score spot n) long le fault
position_longer process text told run.NoProcess long le fault =
    let short : length text ≤ MAX_TEXT = fault.means.within in absurd (omega (arith, long, short))
position_longer process text told run.Words long le fault = fault
position_longer process text told run.Read long le fault = fault
position_longer process text told (run.File p k) long le fault = fault
position_longer process text told run.Write long le fault = fault
position_longer process text told (run.Record q i) long le fault = fault
position_longer process text told run.Memory long le fault = fault

-- ---- of tasks

pub one_verdict : TextVerdict → ToldOnce → OneVerdict
one_verdict one once = record { made = made; apart = apart; fault = fault; longer = longer }
  where
    made : (t : Task) (input : List ℕ) (m n : Product) → HasOneProduct t → Makes t input m → Makes t input n → m ≡ n
    made (task.Play number) input m n single a b = score_made one (performance number) input m n a b
    made (task.Split number) input m n single a b = score_made one (split number) input m n a b
    made (task.Excerpt number begin until) input m n single a b = score_made one (part_of number begin until) input m n a b
    made (task.Locate number tick process) input m n single a b = position_made one once tick process input m n a b
    made (task.Record number setup) input m n single a b = absurd single
    made task.Audit input m n single a b = record_made one input m n a b
    made task.List input m n single a b =
        let same : ◌≡◌ {A = Read Contents} (Ok a.found) (Ok b.found) = sym a.is_read ∙ b.is_read in
        let found : a.found ≡ b.found = cc in
        a.is ∙ ap listed found ∙ sym b.is

    apart : (t : Task) (input : List ℕ) (m : Product) (f : RunFault) → Makes t input m → Refuses t input f → ⊥
    apart (task.Play number) input m f a b = text_apart one input a.score f a.means b
    apart (task.Split number) input m f a b = text_apart one input a.score f a.means b
    apart (task.Excerpt number begin until) input m f a b = text_apart one input a.score f a.means b
    apart (task.Locate number tick process) input m f a b = position_apart one tick process input m f a b
    apart (task.Record number setup) input m f a b = text_apart one input a.score f a.means b
    apart task.Audit input m f a b = record_apart one input m f a b
    apart task.List input m f a b = file_apart input a.found f a.short a.is_read b

    fault : (t : Task) (input : List ℕ) (f g : RunFault) → Refuses t input f → Refuses t input g → f ≡ g
    fault (task.Play number) input f g a b = text_fault one input f g a b
    fault (task.Split number) input f g a b = text_fault one input f g a b
    fault (task.Excerpt number begin until) input f g a b = text_fault one input f g a b
    fault (task.Locate number tick process) input f g a b = position_same one process input f g a b
    fault (task.Record number setup) input f g a b = text_fault one input f g a b
    fault task.Audit input f g a b = record_same one input f g a b
    fault task.List input f g a b = file_same input f g a b

    longer : (t : Task) (input told : List ℕ) (f : RunFault) → most_of t < length input → length input ≤ length told
        → Refuses t input f → Refuses t told f
    longer (task.Play number) input told f long le refuses = text_longer input told f long le refuses
    longer (task.Split number) input told f long le refuses = text_longer input told f long le refuses
    longer (task.Excerpt number begin until) input told f long le refuses = text_longer input told f long le refuses
    longer (task.Locate number tick process) input told f long le refuses = position_longer process input told f long le refuses
    longer (task.Record number setup) input told f long le refuses = text_longer input told f long le refuses
    longer task.Audit input told f long le refuses = record_longer input told f long le refuses
    longer task.List input told f long le refuses = file_longer input told f long le refuses
