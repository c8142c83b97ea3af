-- A seat that finds the word of a process, which stays as it is.
use Rattle.std.proofs.Common.{◌≡◌, ℕ, ◌<◌, List, length, get_or, set, Option, refl, ap, arith}
use mathlib.Core.Option.{some}
use lib.ListN.{get_elem?}
use Rattle.atomic_table.specs.Table.{keeps, stepped}
use Rattle.fm_core.specs.State.{State, cell}
use Rattle.fm_board.specs.declared.about.About.{About}
use Rattle.fm_board.specs.declared.deposit.Deposit.{Deposit}
use Rattle.fm_board.specs.declared.view.Log.{Log}
use Rattle.fm_board.specs.declared.view.Mind.{Mind}
use Rattle.fm_board.specs.Minds.{spotted}
use Rattle.fm_board.specs.StandsFor.{IsRun, StandsForSome, Table}
use Rattle.fm_board.specs.Words.{word_at}
use Rattle.fm_board.proofs.Frames.{Leaves}
use Rattle.std.proofs.lemmas.List.{set-get_or}
use Rattle.fm_board.proofs.Goings.{alone_on, goes_on, same_cells, seen_known}
use Rattle.fm_board.proofs.Looks.{looks_on, sees_now}

-- the seat's view, with what it found of a process that is as it was
pub saw : (a : About) (s : Table) (k : StandsForSome a s) (p id : ℕ) (m : Mind) (cs : List (ℕ × Option Deposit)) (xs : Log)
    → get_elem? s.views id ≡ some m
    → p < length k.core.cells
    → IsRun a (set s.views id (spotted m p (cell k.core p).tag (cell k.core p).clock (get_or s.words (word_at p) 0) m.view xs)) k.core
    → StandsForSome a (stepped s (word_at p) (get_or s.words (word_at p) 0) id cs
    (spotted m p (cell k.core p).tag (cell k.core p).clock (get_or s.words (word_at p) 0) m.view xs) keeps)
saw a s k p id m cs xs at inside history =
    let h : State = k.core in
    let seat = k.stands.views.viewed id m at in
    let l : Leaves h h id = record {
      desks = refl;
      cells = refl;
      desk = λ j n. refl;
      held = λ j q n. refl;
      hold = λ j q n e. refl;
      clock = λ q. omega arith;
      over = λ q e. e;
      zero = λ n. record { due = refl; visited = refl; gather = refl; released = refl; floor = refl };
    } in
    let mine = sees_now a h id p m m.view seat.here seat.is seat.room seat.zero seat.wide seat.known seat.over (cell h p).tag
    (cell h p).clock (get_or s.words (word_at p) 0) xs (omega arith) (λ e. e) in
    record {
      core = h;
      sound = k.sound;
      stands = looks_on a s k (word_at p) id m (spotted m p (cell h p).tag (cell h p).clock (get_or s.words (word_at p) 0) m.view xs) cs
          h at refl refl refl l refl refl mine;
      history = history;
      going = goes_on a s h k.going id m (spotted m p (cell h p).tag (cell h p).clock (get_or s.words (word_at p) 0) m.view xs) at
          (set s.words (word_at p) (get_or s.words (word_at p) 0)) h (same_cells a h h refl) (λ x e. (x, e, refl, refl))
          (seen_known a m k.going.left p (cell h p).tag seat.is.plan (k.going.known id m at) (λ b. k.going.born p inside b));
      alone = alone_on a s id m (spotted m p (cell h p).tag (cell h p).clock (get_or s.words (word_at p) 0) m.view xs)
          (set s.words (word_at p) (get_or s.words (word_at p) 0)) s.homes at k.stands.views.made
          (λ _ _ _. ap (λ (ws : List ℕ). get_or ws (word_at p) 0) (set-get_or s.words (word_at p) 0));
    }
