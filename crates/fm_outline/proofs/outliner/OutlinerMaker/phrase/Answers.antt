use Rattle.std.proofs.Common.{refl, ap, not, ◌∙◌}
use Rattle.fm_grammar.specs.View.{name_view}
use Rattle.fm_outline.specs.Walked.{PhraseDefined}
use Rattle.fm_outline.proofs.EntryLemmas.{done_going, done_stopped, phrase_enters}
use Rattle.fm_outline.proofs.outliner.OutlinerMaker.phrase.Goals as goal

pub returns-then-is_none : goal.returns-then-is_none
returns-then-is_none c = λ before inside b new made.
    let name = name_view c.args.name in
    phrase_enters before inside c.args.self.now _ name b c.args.body.items new made
    (done_going (λ w u. PhraseDefined w name c.args.body.items u) c.args.self.now _ c.define.result
    (c.is_none.ensures ∙ ap not c.if-is_none.true) c.lacking-self.ensures refl refl c.define.ensures)

pub returns-else-is_none : goal.returns-else-is_none
returns-else-is_none c = λ before inside b new made.
    let name = name_view c.args.name in
    phrase_enters before inside c.args.self.now _ name b c.args.body.items new made
    (done_stopped (λ w u. PhraseDefined w name c.args.body.items u) c.args.self.now
    (c.is_none.ensures ∙ ap not c.if-is_none.false))
