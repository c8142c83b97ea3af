use Rattle.std.proofs.Common.{◌≡◌, ◌%◌, string_bytes, arith}
use Rattle.fm_gen.proofs.TextLemmas.{even_written, odd_written}
use Rattle.fm_gen.proofs.score.push_branch.Goals as goal

pub returns-in_ok-push_str-2 : goal.returns-in_ok-push_str-2
returns-in_ok-push_str-2 c =
    let odd : c.args.channel % 2 ≡ 1 = grind arith in
    odd_written (string_bytes c.args.text.now) _ _ _ _ c.args.notes c.args.channel odd
    c.in_ok-write.ensures.bytes c.in_ok-push_str.ensures.bytes c.in_ok-push_voice.ensures
    c.in_ok-push_str-2.ensures.bytes

pub returns-in_ok-push_str-3 : goal.returns-in_ok-push_str-3
returns-in_ok-push_str-3 c =
    let even : c.args.channel % 2 ≡ 0 = grind arith in
    even_written (string_bytes c.args.text.now) _ _ _ c.args.notes c.args.channel even
    c.in_ok-write.ensures.bytes c.in_ok-push_voice-2.ensures c.in_ok-push_str-3.ensures.bytes
