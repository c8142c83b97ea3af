-- A text has one verdict: one score, or one fault, and not both.
use Rattle.std.proofs.Common.{◌≡◌, ◌<◌, ◌≤◌, ℕ, List, length, refl, sym, ap, ap₂, ◌∙◌, arith}
use Rattle.fm_grammar.specs.Score as tree
use Rattle.fm_lex.specs.declared.lexer.TheConstants.{MAX_TEXT}
use Rattle.fm_lex.specs.declared.spot.Spot.{Spot}
use Rattle.fm_meaning.specs.Fault.{NumberedFault}
use Rattle.fm_meaning.specs.Verdict.{Accepted, Cause, HasFault, Means, finds, too_much, trips}
use Rattle.fm_tell.specs.declared.run_fault.RunFault.{RunFault}
use Rattle.fm_tell.specs.declared.run_fault.RunFault.TheVariants as run
use Rattle.fm_top.specs.Products.{IsFaultOfText, MakesOfScore, Product}

-- what is known of the verdict of a text: it is one
pub record TextVerdict : Type 0 where
  pub fault : (text : List ℕ) (line column number k c n : ℕ) → HasFault text line column number → HasFault text k c n
      → (line ≡ k) × (column ≡ c) × (number ≡ n)
  pub apart : (text : List ℕ) (line column number : ℕ) → Accepted text → HasFault text line column number → ⊥
  pub score : (text : List ℕ) (s t : tree.Score) → Means text s → Means text t → s ≡ t

abbrev spot_at : ℕ → ℕ → Spot
spot_at line column = record { line = line; column = column }

same_spot : (s t : Spot) → s.line ≡ t.line → s.column ≡ t.column → s ≡ t
same_spot s t line column = ap₂ spot_at line column

pub text_fault : TextVerdict → (text : List ℕ) (f g : RunFault) → IsFaultOfText text f → IsFaultOfText text g → f ≡ g
text_fault one text (run.Score s n) (run.Score t k) a b =
    let same = one.fault text s.line s.column n t.line t.column k a b in
    rw (same_spot s t same.0 same.1, same.2) refl
text_fault one text (run.Score s n) run.Words a b = absurd b
text_fault one text (run.Score s n) run.Read a b = absurd b
text_fault one text (run.Score s n) (run.File p k) a b = absurd b
text_fault one text (run.Score s n) run.NoProcess a b = absurd b
text_fault one text (run.Score s n) run.Write a b = absurd b
text_fault one text (run.Score s n) (run.Record q i) a b = absurd b
text_fault one text (run.Score s n) run.Memory a b = absurd b
text_fault one text run.Words g a b = absurd a
text_fault one text run.Read g a b = absurd a
text_fault one text (run.File p k) g a b = absurd a
text_fault one text run.NoProcess g a b = absurd a
text_fault one text run.Write g a b = absurd a
text_fault one text (run.Record q i) g a b = absurd a
text_fault one text run.Memory g a b = absurd a

pub text_apart : TextVerdict → (text : List ℕ) (s : tree.Score) (f : RunFault) → Means text s → IsFaultOfText text f → ⊥
text_apart one text s (run.Score spot n) means fault =
    one.apart text spot.line spot.column n (record { score = s; means = means }) fault
text_apart one text s run.Words means fault = fault
text_apart one text s run.Read means fault = fault
text_apart one text s (run.File p k) means fault = fault
text_apart one text s run.NoProcess means fault = fault
text_apart one text s run.Write means fault = fault
text_apart one text s (run.Record q i) means fault = fault
text_apart one text s run.Memory means fault = fault

-- a text past the limit has one fault, whatever follows
cause_longer : (text told : List ℕ) (f : NumberedFault) → MAX_TEXT < length text → length text ≤ length told → Cause text f → Cause told f
cause_longer text told f long le (too_much _ is) = too_much (omega (arith, long, le)) is
cause_longer text told f long le (trips short why t is) = absurd (omega (arith, long, short))
cause_longer text told f long le (finds short s r is) = absurd (omega (arith, long, short))

pub text_longer : (text told : List ℕ) (f : RunFault) → MAX_TEXT < length text → length text ≤ length told → IsFaultOfText text f
    → IsFaultOfText told f
text_longer text told (run.Score spot n) long le fault = record { cause = cause_longer text told _ long le fault.cause }
text_longer text told run.Words long le fault = fault
text_longer text told run.Read long le fault = fault
text_longer text told (run.File p k) long le fault = fault
text_longer text told run.NoProcess long le fault = fault
text_longer text told run.Write long le fault = fault
text_longer text told (run.Record q i) long le fault = fault
text_longer text told run.Memory long le fault = fault

-- what is made of a score is one product
pub score_made : TextVerdict → (product : tree.Score → Product) (text : List ℕ) (m n : Product) → MakesOfScore product text m
    → MakesOfScore product text n → m ≡ n
score_made one product text m n a b = a.is ∙ ap product (one.score text a.score b.score a.means b.means) ∙ sym b.is
