use Rattle.fm_grammar.proofs.OneTrip.{one_trip, one_trip_fault}
use Rattle.fm_grammar.proofs.laws.trips_once.Goals as goal

pub returns-clause-place : goal.returns-clause-place
returns-clause-place c = one_trip

pub returns-clause-fault : goal.returns-clause-fault
returns-clause-fault c = one_trip_fault
