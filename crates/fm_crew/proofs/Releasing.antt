-- A publish, and a release where nothing is due.
use Rattle.std.proofs.Common.{◌≡◌, ◌≤◌, Bool, true, false, List, [], length, take, refl, sym, ap, ◌∙◌, arith, append-nil}
use Rattle.std.proofs.lemmas.Bool.{both_ways}
use Rattle.fm_edge.specs.Seen.{SinkSeen}
use Rattle.fm_msg.specs.Event.{TimedMessage}
use Rattle.fm_line.specs.Piece.{piece}
use Rattle.fm_core.specs.Floors.{floor_of}
use Rattle.fm_core.specs.Sweep.{least}
use Rattle.fm_core.specs.Taking.{due_of, is_due}
use Rattle.fm_core.specs.declared.due.Due.{Due}
use Rattle.fm_core.specs.declared.due.Due.TheVariants.{Nothing, Pair, Everything}
use Rattle.fm_core.specs.declared.floor.Floor.{Floor}
use Rattle.fm_smf.specs.Writing.{Written}
use Rattle.fm_smf.proofs.Writing.{writes_none}
use Rattle.fm_board.specs.declared.view.View.{View}
use Rattle.fm_board.specs.Calls.{Releases}
use Rattle.fm_board.specs.View.{lines_of, published, released}
use Rattle.fm_crew.specs.declared.conductor.Conductor.{Conductor}
use Rattle.fm_crew.specs.Conduct.{LooksAgain, MovesFloor, WritesNext}

-- a publish of the least pair of a new sweep
pub publishes : (old mid new : View) (paced : Floor) (due : Due) → LooksAgain old mid → due ≡ due_of (least mid.sweep)
    → new ≡ record (published mid (floor_of (least mid.sweep)) due) { paced = paced } → MovesFloor old new paced due
publishes old mid new paced due looked due_is is = record {
  pair = least mid.sweep;
  due_is = due_is;
  view = is ∙ ap (λ (v : View). record (published v (floor_of (least mid.sweep)) due) { paced = paced }) looked;
}

-- ---- a release of nothing

abbrev pub is_everything : Due → Bool
is_everything Nothing = false
is_everything (Pair m i) = false
is_everything Everything = true

nothing_due : (d : Due) → is_due d ≡ false → d ≡ Nothing
nothing_due Nothing none = refl
nothing_due (Pair m i) none = absurd (both_ways true none refl)
nothing_due Everything none = absurd (both_ways true none refl)

pub never_all : (d : Due) → is_due d ≡ false → d ≡ Everything → ⊥
never_all d none all = both_ways (is_due d) none (ap is_due all)

-- where nothing is due, none of the next events is released
releases_none : (v : View) → is_due v.due ≡ false → v.released ≤ length (piece (lines_of v)) → Releases v []
releases_none v none within = record {
  next = append-nil _ ∙ ap (λ n. take n (piece (lines_of v))) (omega arith);
  within = omega (arith, within);
  all = λ all. absurd (never_all v.due none all);
}

same_view : (v : View) → is_due v.due ≡ false → v.gathered ≡ [] → v ≡ released v 0
same_view v none empty =
    ap (λ (d : Due). record v { due = d }) (nothing_due v.due none)
    ∙ (ap (λ (xs : List TimedMessage). record v { due = Nothing; gathered = xs }) empty
    ∙ ap (λ n. record v { due = Nothing; gathered = []; released = n }) (omega arith))

-- and nothing is written
pub writes_nothing : {K : Type 0} (seen : SinkSeen K) (c : Conductor) (now : K)
    (w : Written) → is_due c.seat.mind.view.due ≡ false → c.seat.mind.view.gathered ≡ [] → c.gather.events ≡ []
    → c.seat.mind.view.released ≤ length (piece (lines_of c.seat.mind.view)) → WritesNext seen c c now now w w 0
writes_nothing seen c now w none empty cleared within = record {
  events = [];
  next = record { releases = releases_none c.seat.mind.view none within; view = same_view c.seat.mind.view none empty };
  gathered = sym (ap length cleared);
  cleared = ap (λ xs. record c.gather { events = xs }) cleared;
  count = refl;
  writes = writes_none seen now w;
}
