use Rattle.fm_names.specs.Named.{named}
use Rattle.fm_names.proofs.NameLemmas.{other_defined}
use Rattle.fm_names.proofs.names.Names.define_other.Goals as goal

pub returns-clause-ok : goal.returns-clause-ok
unfolding named
returns-clause-ok g c = λ other.
    other_defined c.args.self.now.firsts c.args.self.now.others c.insert.new.self c.args.name.now other c.args.value
    c.requires c.in_ok-insert.ensures.updates
