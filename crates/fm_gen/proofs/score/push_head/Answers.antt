use Rattle.std.proofs.Common.{string_bytes}
use Rattle.fm_gen.proofs.TextLemmas.{head_written}
use Rattle.fm_gen.proofs.score.push_head.Goals as goal

pub returns : goal.returns
returns c =
    head_written (string_bytes c.args.text.now) _ _ _ _ c.args.number c.final_stretch.result
    c.final_stretch.ensures c.in_ok-push_str.ensures.bytes c.in_ok-push_seed.ensures
    c.in_ok-push_first_shape.ensures c.in_ok-push_str-2.ensures.bytes
