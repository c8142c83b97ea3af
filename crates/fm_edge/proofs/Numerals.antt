-- The length of a piece in numbers.
use Rattle.std.proofs.Common.{◌≡◌, refl}
use Rattle.fm_edge.specs.declared.gatherer.TheConstants.{PIECE_LENGTH}

bytes_of_a_piece : PIECE_LENGTH ≡ 4096
bytes_of_a_piece = refl
