use Rattle.std.proofs.Common.{ap, ◌∙◌}
use Rattle.fm_names.specs.Named.{is_free}
use Rattle.fm_names.proofs.names.Names.has_room.Goals as goal

pub returns : goal.returns
returns g c = c.admits.ensures ∙ ap (is_free c.args.name.now) c.first.ensures
