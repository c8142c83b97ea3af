-- The first of a give's tests that holds.
use Rattle.std.proofs.Common.{◌≡◌, ℕ, ◌<◌, List, ◌∷◌, length, Bool, true, Option, refl, ◌∙◌}
use Rattle.std.specs.Prelude.{not, nat_eq, nat_lt}
use Rattle.std.proofs.lemmas.Bool.{lt-ltb, eq-eqb}
use Rattle.fm_line.specs.Line.{line}
use Rattle.fm_core.specs.State.{Setting, State, cell, desk, held_by}
use Rattle.fm_core.specs.Steps.{first, reason}
use Rattle.fm_core.specs.Taking.{must_take}
use Rattle.fm_core.specs.declared.reason.Reason.{Reason}
use Rattle.fm_core.specs.declared.reason.Reason.TheVariants.{NoSeat, NoProcess, NotHeld, WrongTake}
use Rattle.fm_core.specs.declared.step.Step.TheVariants.{Give}
use Rattle.fm_hall.specs.Given.{given_table}

-- none of the first four holds
four : (a b c d : Bool) (xs : List (Bool × Reason)) → a ≡ true → b ≡ true → c ≡ true → d ≡ true
    → first xs ≡ first ((not a, NoSeat) ∷ (not b, NoProcess) ∷ (not c, NotHeld) ∷ (not d, WrongTake) ∷ xs)
four a b c d xs e f g h = rw (e, f, g, h) refl

-- a give of a held process, of which as much is taken as must be, is refused by the later tests
pub give_on : (g : Setting) (h : State) (s p t n now : ℕ) (ends : Bool) → s < length h.desks → p < length h.cells
    → held_by s (cell h p) ≡ true → t ≡ must_take g h s p → (o : Option Reason)
    → o ≡ first (given_table g (line g.lines p) (cell h p) (desk h s).paced t n now ends) → o ≡ reason g h (Give s p t n now ends)
give_on g h s p t n now ends seat process held take o is =
    is ∙ four (nat_lt s (length h.desks)) (nat_lt p (length h.cells)) (held_by s (cell h p)) (nat_eq t (must_take g h s p))
    (given_table g (line g.lines p) (cell h p) (desk h s).paced t n now ends)
    (lt-ltb _ _ seat) (lt-ltb _ _ process) held (eq-eqb _ _ take)
