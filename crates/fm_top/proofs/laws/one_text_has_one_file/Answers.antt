use Rattle.std.proofs.Common.{ap, sym, ◌∙◌}
use Rattle.fm_top.specs.Products.{score_file}
use Rattle.fm_top.proofs.laws.one_text_has_one_file.Goals as goal

pub returns : goal.returns
returns c text file again score other means is means' is' =
    is ∙ ap score_file (c.each_text_has_one_verdict.ensures.score text score other means means') ∙ sym is'
