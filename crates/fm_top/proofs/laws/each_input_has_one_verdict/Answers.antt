use Rattle.fm_top.proofs.Verdicts.{one_verdict}
use Rattle.fm_top.proofs.laws.each_input_has_one_verdict.Goals as goal

pub returns : goal.returns
returns c =
    let law = c.each_text_has_one_verdict.ensures in
    one_verdict (record { fault = law.fault; apart = law.apart; score = law.score }) c.ticks_are_told_once.ensures
