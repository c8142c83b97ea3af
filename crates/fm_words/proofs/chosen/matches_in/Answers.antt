use Rattle.std.proofs.Common.{◌≡◌, [], true, map, string_bytes, sym, subst, inl, inr}
use Rattle.clap.specs.Words.{App, found_of, is_simple, matches_of, rows_of}
use Rattle.clap.specs.Faults.{fault_of, is_simple_and_free}
use Rattle.clap.specs.Kinds.{HasKind}
use Rattle.fm_words.specs.Command.{command}
use Rattle.fm_words.proofs.Simple.{among, simple, simple_and_free}
use Rattle.fm_words.proofs.chosen.matches_in.Goals as goal

-- clap speaks of the command that was built, which is the one of the definition
pub returns-in-Ok-clause-ok : goal.returns-in-Ok-clause-ok
returns-in-Ok-clause-ok c =
    let texts = map string_bytes c.args.words.now in
    let built = c.in_ok-command.ensures in (
      subst (λ (a : App). fault_of a texts ≡ []) built
          (c.in-Ok.ensures.kinds (subst (λ (a : App). is_simple_and_free a ≡ true) (sym built) simple_and_free)),
      subst (λ (a : App). rows_of (found_of c.in-Ok.matches) ≡ matches_of a texts) built
          (c.in-Ok.ensures.matches (subst (λ (a : App). is_simple a ≡ true) (sym built) simple)).0,
    )

-- an error is want of memory, or one of the kinds of the words
pub returns-in-Err-clause-err : goal.returns-in-Err-clause-err
returns-in-Err-clause-err c =
    let texts = map string_bytes c.args.words.now in
    let built = c.in_ok-command.ensures in
    let kinds = fault_of command texts in
    let has : HasKind kinds c.in-Err.error =
    subst (λ (a : App). HasKind (fault_of a texts) c.in-Err.error) built
    (c.in-Err.ensures.kinds (subst (λ (a : App). is_simple_and_free a ≡ true) (sym built) simple_and_free)) in
    elim has [
      | inl memory ↦ rw (c.fault_by.ensures.memory (rw c.kind.ensures memory)) tt
      | inr some ↦ among c.fault_by.result _ kinds some
    ]
