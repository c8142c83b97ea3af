use Rattle.std.proofs.Common.{◌≡◌, take}
use Rattle.std.specs.List.{fold}
use Rattle.fm_names.specs.Key.{shifted}
use Rattle.fm_names.proofs.bytes.key.Given as goal

abbrev pub invariant-loop-byte : goal.invariant-loop-byte
invariant-loop-byte l = l.number ≡ fold shifted 0 (take l.byte-index l.name)
