use Rattle.std.proofs.Common.{[], rules}
use Rattle.std.proofs.lemmas.Result.{on_ok_weaker}
use Rattle.fm_grammar.specs.View.{score_of}
use Rattle.fm_outline.proofs.RefusalLemmas.{ok_more}
use Rattle.fm_outline.proofs.SketchLemmas.{next_told, all_told}
use Rattle.fm_outline.proofs.tree.outline_of.Goals as goal

pub loop-entry-init : goal.loop-entry-init
loop-entry-init c = record {
  part = score_of c.args.score.now.head [];
  so_far = c.open-outliner.ensures;
  whole = search rules;
}

pub loop-entry-preserved : goal.loop-entry-preserved
loop-entry-preserved c =
    next_told c.deref-entry-items.result.now c.loop-entry.entry-index c.entry-item.result _ c.loop-entry-test.true
    c.entry-item.is c.loop-entry.invariant c.in_ok-tell_entry.ensures

pub returns-clause-outline : goal.returns-clause-outline
returns-clause-outline c =
    let far = all_told c.deref-entry-items.result.now c.loop-entry.entry-index c.loop-entry-test.false c.loop-entry.invariant in
    ok_more c.close.result (λ o is. is _ far) c.close.ensures.outline

pub returns-clause-passage : goal.returns-clause-passage
returns-clause-passage c =
    let far = all_told c.deref-entry-items.result.now c.loop-entry.entry-index c.loop-entry-test.false c.loop-entry.invariant in
    ok_more c.close.result (λ o is. is _ far) c.close.ensures.passage

pub returns-clause-phrases : goal.returns-clause-phrases
returns-clause-phrases c =
    let far = all_told c.deref-entry-items.result.now c.loop-entry.entry-index c.loop-entry-test.false c.loop-entry.invariant in
    ok_more c.close.result (λ o is. is _ far) c.close.ensures.phrases

pub returns-clause-faultless : goal.returns-clause-faultless
returns-clause-faultless c =
    let far = all_told c.deref-entry-items.result.now c.loop-entry.entry-index c.loop-entry-test.false c.loop-entry.invariant in
    on_ok_weaker c.close.result (λ is. is _ far) c.close.ensures.faultless

pub returns-clause-refused : goal.returns-clause-refused
returns-clause-refused c =
    let far = all_told c.deref-entry-items.result.now c.loop-entry.entry-index c.loop-entry-test.false c.loop-entry.invariant in
    λ why spot is. c.close.ensures.refused why spot is _ far
