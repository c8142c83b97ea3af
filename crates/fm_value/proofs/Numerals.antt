-- The limits of values in numbers.
use Rattle.std.proofs.Common.{◌≡◌, refl}
use Rattle.fm_value.specs.declared.expr.TheConstants.{MAX_NODES}
use Rattle.fm_value.specs.declared.node.TheConstants.{MAX_VALUE}
use Rattle.fm_value.specs.declared.registers.TheConstants.{REGISTERS}

registers : REGISTERS ≡ 8
registers = refl

most_nodes : MAX_NODES ≡ 64
most_nodes = refl

most_value : MAX_VALUE ≡ 1000000
most_value = refl
