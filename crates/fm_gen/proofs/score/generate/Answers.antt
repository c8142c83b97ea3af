use Rattle.std.proofs.Common.{◌≡◌, [], ◌∷◌, ◌++◌, length, ap, ◌∙◌, arith}
use Rattle.fm_gen.specs.LargeScore.{notes_of, branch, line_text, head, large_score}
use Rattle.fm_gen.proofs.TextLemmas.{next_branch, all_written}
use Rattle.fm_gen.proofs.LengthLemmas.{large_score_short}
use Rattle.fm_gen.proofs.score.generate.Goals as goal

pub loop-channel-preserved : goal.loop-channel-preserved
loop-channel-preserved c =
    let one_more = rw c.notes_per_voice-notes.ensures at c.in_ok-push_branch.ensures in
    one_more
    ∙ ap (λ text. text ++ line_text (branch (notes_of c.args.number) c.loop-channel.channel))
    c.loop-channel.invariant
    ∙ next_branch (head c.args.number) (notes_of c.args.number) c.loop-channel.channel

pub returns-clause-text : goal.returns-clause-text
returns-clause-text c =
    rw c.into_bytes.ensures.value
    (c.in_ok-push_end.ensures
    ∙ ap (λ text. text ++ 125 ∷ 10 ∷ []) c.loop-channel.invariant
    ∙ all_written c.args.number c.loop-channel.channel (omega arith))

pub returns-clause-short : goal.returns-clause-short
returns-clause-short c =
    let text : c.into_bytes.result.items ≡ large_score c.args.number = returns-clause-text c in
    omega (arith, ap length text, large_score_short c.args.number c.requires)
