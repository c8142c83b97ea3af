use Rattle.std.proofs.Common.{ap, ◌∙◌}
use Rattle.std.specs.BTreeMap.{get_by}
use Rattle.std.specs.Ordering.{nat_cmp}
use Rattle.fm_names.proofs.names.Names.first.Goals as goal

pub returns : goal.returns
returns g c =
    c.get.ensures.value ∙ ap (λ key. get_by (nat_cmp key) c.args.self.now.firsts) c.key-number.ensures
