-- The seat of a new board's only worker.
use Rattle.std.proofs.Common.{◌≡◌, List, [], ◌∷◌, get_or, refl, sym, subst, arith}
use Rattle.fm_board.specs.declared.about.About.{About}
use Rattle.fm_board.specs.Minds.{fresh}
use Rattle.fm_board.specs.Seats.{AreOthers, IsIdle, SeatState}

-- the only one of the other seats is new, and its number is 1
pub is_first_worker : (t : _) (a : About) (seats : List SeatState) (x : SeatState) → AreOthers t a 2 seats
    → seats ≡ x ∷ [] → x ≡ record { table = t; mind = fresh a.plan a.room a.lead a.seats 1 0 }
is_first_worker t a seats x others is =
    subst (λ (xs : List SeatState). get_or xs 0 x ≡ record { table = t; mind = fresh a.plan a.room a.lead a.seats 1 0 }) is
    (others.each 0 x (let many = others.many in omega arith))

-- and so it holds nothing
pub worker_is_idle : (t : _) (a : About) (seats : List SeatState) (x : SeatState) → AreOthers t a 2 seats → seats ≡ x ∷ []
    → IsIdle t a x
worker_is_idle t a seats x others is =
    subst (IsIdle t a) (sym (is_first_worker t a seats x others is))
    (record { ours = record { table = refl; plan = refl; room = refl; lead = refl; seats = refl }; idle = refl })
