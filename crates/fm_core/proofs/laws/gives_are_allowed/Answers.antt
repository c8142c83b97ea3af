use Rattle.fm_core.proofs.GiveTests.{may_give, given_may}
use Rattle.fm_core.proofs.laws.gives_are_allowed.Goals as goal

pub returns : goal.returns
returns c = record { facts = given_may; back = may_give }
