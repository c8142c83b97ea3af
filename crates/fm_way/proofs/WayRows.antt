-- Rows: of so many workers, processes and useful workers, with or without rounds, which way is taken.
use Rattle.std.proofs.Common.{◌≡◌, refl, true, false}
use Rattle.fm_way.specs.Ways.{way_for}
use Rattle.fm_way.specs.declared.way.Way.TheVariants.{Alone, Conductor, Rounds, Crew}

no_worker : way_for 0 8 0 false ≡ Alone
no_worker = refl

no_worker_in_rounds : way_for 0 8 0 true ≡ Alone
no_worker_in_rounds = refl

one_process : way_for 4 1 4 false ≡ Conductor
one_process = refl

one_process_in_rounds : way_for 4 1 4 true ≡ Conductor
one_process_in_rounds = refl

rounds : way_for 4 2 0 true ≡ Rounds 4
rounds = refl

none_useful : way_for 4 2 0 false ≡ Alone
none_useful = refl

some_useful : way_for 16 2 3 false ≡ Crew 3
some_useful = refl
