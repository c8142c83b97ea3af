use Rattle.std.proofs.Common.{◌∙◌, sym, subst}
use Rattle.fm_board.specs.Answers.{Found}
use Rattle.fm_board.specs.Minds.{recalled}
use Rattle.fm_board.specs.Seats.{SeatState}
use Rattle.fm_board.proofs.board.Board.recall.Goals as goal

pub returns-then-is_ended : goal.returns-then-is_ended
returns-then-is_ended c = (
  record {
    seen = c.peek-found.result;
    found = subst (λ (z : SeatState). Found c.args.seat.now c.args.process c.peek-found.result c.args.seat.now.mind.view
        (recalled c.args.seat.now.mind c.args.process z.mind.log.seen c.peek-found.result.tag) z)
        (sym c.end_of.ensures.seat)
        c.peek-found.ensures.found;
    ended = sym c.is_ended.ensures ∙ c.if-is_ended.true;
  },
  c.end_of.ensures.place,
)

pub returns-else-is_ended : goal.returns-else-is_ended
returns-else-is_ended c = record { found = c.peek-found.ensures.found; live = sym c.is_ended.ensures ∙ c.if-is_ended.false }
