-- What is told of a give.
use Rattle.std.specs.Prelude.{◌≡◌, ℕ, ◌+◌, ◌-◌}
use Rattle.fm_board.specs.View.{is_over, takes_of, waits_of}
use Rattle.fm_board.specs.declared.view.View.{View}
use Rattle.fm_calls.specs.declared.calls.Work.{Work}

-- the work that is told of a give, with so many events in the outbox, is what the seat did with the process that it
-- holds: the events that it took, those that were computed, and whether the process is at its end
pub record IsWorkOf (v : View) (left : ℕ) (w : Work) : Type 0 where
  pub taken : w.taken ≡ takes_of v v.holds
  pub computed : w.computed ≡ left + takes_of v v.holds - waits_of v v.holds
  pub ended : w.ended ≡ is_over v.holds
