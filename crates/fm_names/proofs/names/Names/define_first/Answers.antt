use Rattle.std.proofs.Common.{refl}
use Rattle.fm_names.specs.Named.{named, other_at}
use Rattle.fm_names.proofs.NameLemmas.{first_defined}
use Rattle.fm_names.proofs.names.Names.define_first.Goals as goal

pub returns-clause-ok : goal.returns-clause-ok
unfolding named
returns-clause-ok g c = λ other.
    first_defined c.args.self.now.firsts c.insert.new.self (other_at c.args.self.now other) c.args.name.now other
    c.key-number.result (record { text = c.args.name; value = c.args.value }) c.key-number.ensures refl c.requires
    c.in_ok-insert.ensures.updates
