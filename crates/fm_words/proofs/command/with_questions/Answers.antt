use Rattle.std.proofs.Common.{rules, ap₂, ◌≡◌, ◌∙◌, refl}
use Rattle.std.proofs.lemmas.Result.{IfOk-weaker}
use Rattle.clap.specs.Words.{app_of, with_rule}
use Rattle.clap.specs.declared.builder.command.Command.{Command}
use Rattle.fm_words.specs.Command.{with_questions}
use Rattle.fm_words.proofs.command.with_questions.Goals as goal

-- each call of `arg` adds one rule
pub returns : goal.returns
returns c =
    let one = c.in_ok-arg.ensures.shape (search rules) ∙ ap₂ with_rule refl c.option.ensures.rule in
    let two = c.in_ok-arg-2.ensures.shape (search rules) ∙ ap₂ with_rule one c.option-2.ensures.rule in
    let three = c.in_ok-arg-3.ensures.shape (search rules) ∙ ap₂ with_rule two c.option-3.ensures.rule in
    let four = c.in_ok-arg-4.ensures.shape (search rules) ∙ ap₂ with_rule three c.option-4.ensures.rule in
    let five = c.in_ok-arg-5.ensures.shape (search rules) ∙ ap₂ with_rule four c.flag.ensures.rule in
    IfOk-weaker c.arg-6.result _ (λ (m : Command). app_of m ≡ with_questions (app_of c.args.command))
    (λ m h. h.shape (search rules) ∙ ap₂ with_rule five c.flag-2.ensures.rule) c.arg-6.ensures
