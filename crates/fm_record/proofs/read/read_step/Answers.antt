-- Whole fields that make a step are its bytes.
use Rattle.std.proofs.Common.{ℕ, sym, ◌∙◌, subst, arith}
use Rattle.fm_record.specs.StepBytes.{IsFirst}
use Rattle.fm_record.proofs.ReadingLemmas.{made_only}
use Rattle.fm_record.proofs.read.read_step.Goals as goal

pub returns-clause-first : goal.returns-clause-first
returns-clause-first c =
    let made = sym c.made.ensures ∙ c.in_ok-step.was in
    let whole = rw c.size_of-size.ensures at c.if-bytes-size.false in
    subst (λ (n : ℕ). IsFirst c.args.bytes.now c.in_ok-step.step n) (sym c.size_of-size.ensures)
    (made_only c.args.bytes.now c.in_ok-step.step (λ i. omega (arith, c.type_inv.bytes i)) whole made)
