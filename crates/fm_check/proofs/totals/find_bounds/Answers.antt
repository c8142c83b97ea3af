use Rattle.std.proofs.Common.{◌+◌, drop, ap}
use Rattle.fm_meaning.specs.Rules.{VersionRules}
use Rattle.fm_meaning.specs.Resolve.{resolved}
use Rattle.fm_expansion.specs.Outline.{play_in, passage_in}
use Rattle.fm_outline.specs.View.{tables_view, look_of, step_view, block_view}
use Rattle.fm_outline.specs.OfScore.{passage_of_outline}
use Rattle.fm_outline.proofs.RefusalLemmas.{handed}
use Rattle.fm_check.proofs.WalkLemmas.{longest_kept, begun, at_end, at_step}
use Rattle.fm_check.proofs.totals.find_bounds.Goals as goal

pub loop-step-init : goal.loop-step-init
loop-step-init c = λ s sound. begun s (passage_of_outline c.args.outline.now) sound.passage

pub loop-step-preserved : goal.loop-step-preserved
loop-step-preserved c = λ s sound.
    let o = c.args.outline.now in
    let t = tables_view o.tables in
    let look = look_of o in
    let i = c.loop-step.step-index in
    let is = longest_kept s o sound.is.view c.longest_entry-longest.ensures in
    c.in_ok-before.ensures.ok s (play_in t (step_view look c.step-item.result).what)
    (passage_in t (block_view look (drop (i + 1) o.block.items)))
    (ap VersionRules.most_processes sound.is.rules)
    (c.weigh_step-weight.ensures (resolved s).longest look is
    (sound.is.marked.block c.step-item.result i (rw c.deref-step-items.ensures.value at c.loop-step-test.true)
    (rw c.deref-step-items.ensures.value at c.step-item.is)) (rw c.deref-in-loop-step.ensures.value
    (rw c.deref.ensures.value at (c.in_ok-phrases.ensures (resolved s).longest is))))
    (at_step s c.loop-step.before t look o.block.items i c.step-item.result
    (rw c.deref-step-items.ensures.value at c.loop-step-test.true)
    (rw c.deref-step-items.ensures.value at c.step-item.is) (c.loop-step.invariant s sound))

pub returns-in_err-before-clause-refused : goal.returns-in_err-before-clause-refused
returns-in_err-before-clause-refused c = λ s sound why spot failed.
    let o = c.args.outline.now in
    let t = tables_view o.tables in
    let look = look_of o in
    let i = c.loop-step.step-index in
    let is = longest_kept s o sound.is.view c.longest_entry-longest.ensures in
    c.in_err-before.ensures.refused why spot (handed failed c.from_residual-in_err-before.ensures.1) s
    (play_in t (step_view look c.step-item.result).what) (passage_in t (block_view look (drop (i + 1) o.block.items)))
    (ap VersionRules.most_processes sound.is.rules)
    (c.weigh_step-weight.ensures (resolved s).longest look is
    (sound.is.marked.block c.step-item.result i (rw c.deref-step-items.ensures.value at c.loop-step-test.true)
    (rw c.deref-step-items.ensures.value at c.step-item.is)) (rw c.deref-in-loop-step.ensures.value
    (rw c.deref.ensures.value at (c.in_ok-phrases.ensures (resolved s).longest is))))
    (at_step s c.loop-step.before t look o.block.items i c.step-item.result
    (rw c.deref-step-items.ensures.value at c.loop-step-test.true)
    (rw c.deref-step-items.ensures.value at c.step-item.is) (c.loop-step.invariant s sound))

-- ---- the end

pub finish-requires : goal.finish-requires
finish-requires c =
    let s = c.requires.0 in
    let o = c.args.outline.now in (
      s,
      at_end s c.loop-step.before (tables_view o.tables) (look_of o) o.block.items c.loop-step.step-index
          (rw c.deref-step-items.ensures.value at c.loop-step-test.false) (c.loop-step.invariant s c.requires.1),
    )

pub returns-clause-bounds : goal.returns-clause-bounds
returns-clause-bounds c = λ s sound.
    let o = c.args.outline.now in
    c.finish.ensures s (at_end s c.loop-step.before (tables_view o.tables) (look_of o) o.block.items
    c.loop-step.step-index (rw c.deref-step-items.ensures.value at c.loop-step-test.false) (c.loop-step.invariant s sound))

pub returns-clause-faultless : goal.returns-clause-faultless
returns-clause-faultless c = λ s sound.
    let o = c.args.outline.now in
    (at_end s c.loop-step.before (tables_view o.tables) (look_of o) o.block.items
    c.loop-step.step-index (rw c.deref-step-items.ensures.value at c.loop-step-test.false) (c.loop-step.invariant s sound)).faults

-- ---- what is found of phrases

pub weigh_phrases-requires : goal.weigh_phrases-requires
weigh_phrases-requires c = rw c.deref.ensures.value c.requires.1.is.marked.phrases
