use Rattle.std.proofs.Common.{arith, length-append}
use Rattle.fm_read.proofs.KeptLemmas.{rest_read, rest_joined}
use Rattle.fm_read.proofs.file.File.rest.Goals as goal

pub returns-clause-value : goal.returns-clause-value
returns-clause-value c = rw (← c.self.view_is) (rest_joined _ c.self.invariant.there)

pub returns-clause-read : goal.returns-clause-read
returns-clause-read c = rw (← c.self.view_is) (rest_read _ c.self.invariant.there)

pub returns-clause-small : goal.returns-clause-small
returns-clause-small c =
    rw (← c.self.view_is)
    (omega (arith, c.self.invariant.small, length-append c.self.inside.head.now c.self.inside.rest.now))
