use Rattle.std.proofs.Common.{◌++◌, ◌∷◌, [], ap, ◌∙◌}
use Rattle.fm_round.proofs.Listing.{listed_one}
use Rattle.fm_round.proofs.watch.list.Goals as goal

pub returns-in-Ok : goal.returns-in-Ok
returns-in-Ok c =
    listed_one c.args.lists.now.items c.args.before c.args.process c.push.new.self c.index_mut.result.now c.requires
    (c.in-Ok.ensures.items ∙ ap (λ v. v.items ++ c.args.process ∷ []) c.index_mut.ensures.value)
