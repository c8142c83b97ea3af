-- The length of a chunk's head in numbers.
use Rattle.std.proofs.Common.{◌≡◌, refl}
use Rattle.fm_parts.specs.declared.parts.TheConstants.{HEAD_LENGTH}

bytes_of_the_head_of_a_chunk : HEAD_LENGTH ≡ 8
bytes_of_the_head_of_a_chunk = refl
