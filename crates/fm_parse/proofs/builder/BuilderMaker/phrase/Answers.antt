use Rattle.std.proofs.Common.{sym, subst, ◌∙◌}
use Rattle.fm_grammar.specs.Score.{Body, phrase}
use Rattle.fm_grammar.specs.View.{name_view}
use Rattle.fm_parse.specs.Building.{IsGrown}
use Rattle.fm_parse.specs.declared.builder.Builder.{Builder}
use Rattle.fm_parse.proofs.Built.{made_same}
use Rattle.fm_parse.proofs.builder.BuilderMaker.phrase.Goals as goal

pub returns : goal.returns
returns c = λ before inside b named made.
    let same = made_same inside c.args.self.now b c.args.body.items made in
    let told = subst (λ (y : Body). IsGrown c.args.self.now (phrase (name_view c.args.name) y) c.push.new.self) same.0 c.push.ensures in
    subst (λ (x : Builder). IsGrown x (phrase (name_view c.args.name) b) c.push.new.self) (sym (named ∙ same.1)) told
