use Rattle.std.proofs.Common.{option_copied, ap, ◌∙◌}
use Rattle.fm_names.specs.Named.{named, first_at, chosen}
use Rattle.fm_names.proofs.names.Names.get.Goals as goal

pub returns : goal.returns
unfolding named
returns g c =
    c.choose.ensures
    ∙ ap (λ f. chosen c.args.name.now f (option_copied c.get.result)) c.first.ensures
    ∙ ap (chosen c.args.name.now (first_at c.args.self.now c.args.name.now)) c.get.ensures.value
