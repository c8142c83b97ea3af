-- A quantity byte by byte.
use Rattle.std.proofs.Common.{◌≡◌, ℕ, ◌+◌, ◌-◌, ◌*◌, ◌%◌, ◌<◌, ◌≤◌, List, [], ◌∷◌, length, Ok, refl, ap, arith, lt-ltb, le-ltb}
use Rattle.std.proofs.lemmas.Grind.{common_steps}
use Rattle.fm_read.specs.declared.fault.ReadKind.TheVariants.{BadQuantity}
use Rattle.fm_read.specs.Reading.{stop, cut, quantity_from, read_quantity}

pub quantity_begun : (bytes : List ℕ) → quantity_from 3 0 bytes ≡ read_quantity bytes
unfolding read_quantity
quantity_begun bytes = refl

-- the bytes end in it
pub quantity_cut : (more before : ℕ) (bytes : List ℕ) → length bytes ≡ 0 → quantity_from more before bytes ≡ cut
unfolding quantity_from
quantity_cut more before [] e = refl
quantity_cut more before (byte ∷ rest) e = absurd (omega arith)

-- its last byte
pub quantity_last : (more before byte : ℕ) (bytes rest : List ℕ) → bytes ≡ byte ∷ rest → byte < 128 →
    quantity_from more before bytes ≡ Ok (before * 128 + byte % 128, rest)
unfolding quantity_from
quantity_last more before byte bytes rest e small = rw (e, lt-ltb byte 128 small) refl

-- a byte with bit 7, and more to come
pub quantity_more : (more before byte : ℕ) (bytes rest : List ℕ) → bytes ≡ byte ∷ rest → 128 ≤ byte → 0 < more →
    quantity_from more before bytes ≡ quantity_from (more - 1) (before * 128 + byte % 128) rest
unfolding quantity_from
quantity_more more before byte bytes rest e large some = rw (e, le-ltb byte 128 large) (grind (arith, common_steps))

-- a fourth byte with bit 7
pub quantity_bad : (before byte : ℕ) (bytes rest : List ℕ) → bytes ≡ byte ∷ rest → 128 ≤ byte →
    quantity_from 0 before bytes ≡ stop BadQuantity (length rest + 1)
unfolding quantity_from
quantity_bad before byte bytes rest e large = rw (e, le-ltb byte 128 large) (ap (stop BadQuantity) (omega arith))
