use Rattle.std.proofs.Common.{◌≡◌, ◌∙◌, ap, ap₂, map}
use Rattle.std.specs.Prelude.{vec_items}
use Rattle.fm_program.specs.Parts.{program_parts}
use Rattle.fm_expansion.specs.Expansion.{Emitting, whole, expanded}
use Rattle.fm_outline.specs.View.{block_view, look_of}
use Rattle.fm_plan.specs.Seen.{emitting_of, look_at}
use Rattle.fm_plan.proofs.ExpandLemmas.{expanded_made, whole_made}
use Rattle.fm_plan.proofs.expanding.expand.Goals as goal

-- what is made in the end
all_made : (c : goal.After-drop-m-3) → emitting_of c.expand_steps.new.m
    ≡ expanded (block_view (look_of c.args.outline.now) c.args.outline.now.block.items)
all_made c =
    expanded_made c.in_ok-m.m c.expand_steps.new.m c.outermost.result
    (block_view (look_at (map vec_items c.deref.result.now)) c.deref-2.result.now)
    c.in_ok-m.ensures.programs c.in_ok-m.ensures.cycles c.in_ok-m.ensures.levels c.outermost.ensures c.in_ok-expand_steps.ensures
    ∙ ap₂ (λ ps b. expanded (block_view (look_at (map vec_items ps)) b)) c.deref.ensures.value c.deref-2.ensures.value

pub returns-clause-programs : goal.returns-clause-programs
returns-clause-programs c =
    ap (map program_parts) c.in_ok-push.ensures.items
    ∙ whole_made c.expand_steps.new.m.finished.items c.expand_steps.new.m.current ∙ ap whole (all_made c)

pub returns-clause-scopes : goal.returns-clause-scopes
returns-clause-scopes c = ap Emitting.scopes (all_made c)
