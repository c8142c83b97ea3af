-- One line and one end more.
use Rattle.std.proofs.Common.{◌<◌, List, [], ◌∷◌, ◌++◌, take, length, sym, ap, ◌∙◌, arith, add-one}
use Rattle.std.proofs.lemmas.List.{take_all, take_more}
use Rattle.fm_line.specs.Line.{no_line}
use Rattle.fm_line.specs.declared.line.Line.{Line}
use Rattle.fm_nest.specs.declared.place.Place.{Place}
use Rattle.fm_program.specs.Process.{plan_lines}
use Rattle.fm_program.proofs.Lines.{plan-lines-length}
use Rattle.fm_play.specs.Places.{ends_below}
use Rattle.fm_play.proofs.walk.lines.Goals as goal

pub returns : goal.returns
returns c =
    c.loop-process.invariant.lines
    ∙ take_all c.loop-process.process (plan_lines c.args.plan.now)
    (let count = c.processes-process-end.ensures.value in
    omega (arith, plan-lines-length c.args.plan.now, count, c.loop-process-test.false))

pub loop-process-preserved : goal.loop-process-preserved
loop-process-preserved c =
    let p = c.args.plan.now in
    let k = c.loop-process.process in
    let count = c.processes-process-end.ensures.value in
    let inside : k < length (plan_lines p) = omega (arith, plan-lines-length p, count, c.loop-process-test.true) in
    record {
      lines =
          c.in_ok-push.ensures.items
          ∙ ap (λ (ls : List Line). ls ++ c.in_ok-line.line ∷ []) c.loop-process.invariant.lines
          ∙ ap (λ (l : Line). take k (plan_lines p) ++ l ∷ []) c.in_ok-line.ensures.line
          ∙ sym (take_more (plan_lines p) k no_line inside);
      ends =
          c.in_ok-push-2.ensures.items
          ∙ ap (λ (es : List Place). es ++ c.in_ok-line.end ∷ []) c.loop-process.invariant.ends
          ∙ ap (λ (e : Place). ends_below p k ++ e ∷ []) c.in_ok-line.ensures.end
          ∙ ap (ends_below p) (sym (add-one k));
    }
