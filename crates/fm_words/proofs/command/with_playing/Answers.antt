use Rattle.std.proofs.Common.{rules, ap₂, ◌≡◌, ◌∙◌, refl}
use Rattle.std.proofs.lemmas.Result.{IfOk-weaker}
use Rattle.clap.specs.Words.{app_of, with_rule}
use Rattle.clap.specs.declared.builder.command.Command.{Command}
use Rattle.fm_words.specs.Command.{with_playing}
use Rattle.fm_words.proofs.command.with_playing.Goals as goal

-- each call of `arg` adds one rule
pub returns : goal.returns
returns c =
    let one = c.in_ok-arg.ensures.shape (search rules) ∙ ap₂ with_rule refl c.text.ensures.rule in
    let two = c.in_ok-arg-2.ensures.shape (search rules) ∙ ap₂ with_rule one c.text-2.ensures.rule in
    let three = c.in_ok-arg-3.ensures.shape (search rules) ∙ ap₂ with_rule two c.option.ensures.rule in
    let four = c.in_ok-arg-4.ensures.shape (search rules) ∙ ap₂ with_rule three c.option-2.ensures.rule in
    IfOk-weaker c.arg-5.result _ (λ (m : Command). app_of m ≡ with_playing (app_of c.args.command))
    (λ m h. h.shape (search rules) ∙ ap₂ with_rule four c.option-3.ensures.rule) c.arg-5.ensures
