-- What the seats' vectors show, and how one of them changes.
use Rattle.std.proofs.Common.{◌≡◌, ℕ, zero, suc, ◌<◌, List, [], ◌∷◌, length, get_or, set, map, sym, ap, ◌∙◌, arith}
use Rattle.std.proofs.lemmas.List.{map-set, length-map}
use Rattle.fm_core.specs.State as core
use Rattle.fm_state.specs.declared.desk.Desk.{Desk}
use Rattle.fm_state.specs.Stored.{Stored, desk_of}

-- what the seat at an index shows
pub desk_at : (desks : List Desk) (s : ℕ) (d : Desk) → s < length desks → d ≡ get_or desks s d
    → get_or (map desk_of desks) s core.no_desk ≡ desk_of d
desk_at [] s d lt e = absurd (omega arith)
desk_at (x ∷ xs) zero d lt e = ap desk_of (sym e)
desk_at (x ∷ xs) (suc s) d lt e = desk_at xs s d (omega arith) e

-- a change of one seat changes what it shows
pub desk_set : (change : core.Desk → core.Desk) (desks : List Desk) (s : ℕ) (old new : Desk) → s < length desks
    → old ≡ get_or desks s old → desk_of new ≡ change (desk_of old)
    → map desk_of (set desks s new) ≡ set (map desk_of desks) s (change (get_or (map desk_of desks) s core.no_desk))
desk_set change desks s old new lt here is =
    map-set desk_of desks s new ∙ ap (set (map desk_of desks) s) (is ∙ ap change (sym (desk_at desks s old lt here)))

-- the same with other seats
abbrev pub with_desks : Stored → List core.Desk → Stored
with_desks m ds = record m { state = record m.state { desks = ds } }

-- a seat that is shown is there
pub seat_there : (desks : List Desk) (s : ℕ) → s < length (map desk_of desks) → s < length desks
seat_there desks s lt = rw length-map at lt
