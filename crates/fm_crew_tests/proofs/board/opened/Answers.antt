-- The worker's seat is new.
use Rattle.std.proofs.Common.{ap}
use Rattle.fm_board.specs.Seats.{SeatState}
use Rattle.fm_crew_tests.proofs.NewSeats.{is_first_worker, worker_is_idle}
use Rattle.fm_crew_tests.proofs.board.opened.Goals as goal

pub returns-clause-one : goal.returns-clause-one
returns-clause-one c =
    worker_is_idle c.in_ok-board.board.table.shared.table_id c.in_ok-board.board.about c.in_ok-board.others.items c.only_seat.result
    c.in_ok-board.ensures.others c.only_seat.ensures

pub returns-clause-number : goal.returns-clause-number
returns-clause-number c =
    ap (λ (x : SeatState). x.mind.view.number)
    (is_first_worker c.in_ok-board.board.table.shared.table_id c.in_ok-board.board.about c.in_ok-board.others.items c.only_seat.result
    c.in_ok-board.ensures.others c.only_seat.ensures)

pub returns-clause-paced : goal.returns-clause-paced
returns-clause-paced c =
    ap (λ (x : SeatState). x.mind.view.paced)
    (is_first_worker c.in_ok-board.board.table.shared.table_id c.in_ok-board.board.about c.in_ok-board.others.items c.only_seat.result
    c.in_ok-board.ensures.others c.only_seat.ensures)
