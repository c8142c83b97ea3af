-- How many events wait in an outbox.
use Rattle.std.proofs.Common.{ℕ, zero, suc, ◌-◌, ◌≤◌, List, [], ◌∷◌, length, take, drop, arith}
use Rattle.fm_line.specs.declared.line.Line.{Line}
use Rattle.fm_core.specs.Taking.{outbox}
use Rattle.fm_core.specs.declared.cell.Cell.{Cell}

-- so many elements are at most so many
pub length-take_le : {A : Type 0} (n : ℕ) (xs : List A) → length (take n xs) ≤ n
length-take_le zero [] = omega arith
length-take_le zero (x ∷ xs) = omega arith
length-take_le (suc n) [] = omega arith
length-take_le (suc n) (x ∷ xs) = let more = length-take_le n xs in omega arith

-- the first so many are no more than all
pub length-take_all : {A : Type 0} (n : ℕ) (xs : List A) → length (take n xs) ≤ length xs
length-take_all zero [] = omega arith
length-take_all zero (x ∷ xs) = omega arith
length-take_all (suc n) [] = omega arith
length-take_all (suc n) (x ∷ xs) = let more = length-take_all n xs in omega arith

-- no more wait than were computed and not taken
pub length-outbox : (l : Line) (c : Cell) → length (outbox l c) ≤ c.computed - c.taken
length-outbox l c = length-take_le (c.computed - c.taken) (drop c.taken l.events)
