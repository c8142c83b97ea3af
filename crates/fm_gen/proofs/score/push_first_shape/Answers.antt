use Rattle.std.proofs.Common.{◌++◌, ap, sym, ◌∙◌, string_bytes}
use Rattle.std.proofs.lemmas.Result.{on_ok_weaker}
use Rattle.fm_gen.proofs.TextLemmas.{first_shape_spelt}
use Rattle.fm_gen.proofs.score.push_first_shape.Goals as goal

pub returns : goal.returns
returns c =
    on_ok_weaker c.writeln.result
    (λ written. written
    ∙ ap (λ line. string_bytes c.args.text.now ++ line) (sym (first_shape_spelt c.args.stretch)))
    c.writeln.ensures.bytes
