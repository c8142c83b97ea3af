use Rattle.std.proofs.Common.{◌≡◌, ◌+◌, ◌-◌, ◌*◌, ◌<◌, length}
use Rattle.fm_read.specs.declared.fault.ReadKind.TheVariants.{BadQuantity}
use Rattle.fm_read.specs.Reading.{stop, quantity_from, read_quantity}
use Rattle.fm_read.proofs.quantity.quantity_of.Given as goal

abbrev pub invariant-loop-taken : goal.invariant-loop-taken
invariant-loop-taken l = record {
  more : l._taken < 4 → quantity_from (3 - l._taken) l.value l.rest ≡ read_quantity l.bytes;
  bad : l._taken ≡ 4 → read_quantity l.bytes ≡ stop BadQuantity (length l.rest + 1);
  none : l._taken ≡ 0 → l.value ≡ 0;
  one : l._taken ≡ 1 → l.value < 128;
  two : l._taken ≡ 2 → l.value < 128 * 128;
  three : l._taken ≡ 3 → l.value < 128 * 128 * 128;
  shorter : length l.rest + l._taken ≡ length l.bytes;
}
