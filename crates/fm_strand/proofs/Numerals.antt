-- The limit of a quantum in numbers.
use Rattle.std.proofs.Common.{◌≡◌, refl}
use Rattle.fm_strand.specs.declared.answers.TheConstants.{MAX_QUANTUM}

most_steps_of_a_quantum : MAX_QUANTUM ≡ 256
most_steps_of_a_quantum = refl
