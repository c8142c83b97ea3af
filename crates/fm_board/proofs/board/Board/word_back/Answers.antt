use Rattle.std.proofs.Common.{arith, ap, sym, subst, ◌∙◌, None}
use Rattle.fm_core.specs.Tags.{given_tag}
use Rattle.fm_board.specs.Seats.{SeatState}
use Rattle.fm_board.specs.View.{is_over}
use Rattle.fm_board.specs.Words.{spell}
use Rattle.fm_board.proofs.Returns.{clock_low, some_held}
use Rattle.fm_board.proofs.board.Board.word_back.Goals as goal

pub word_of-requires : goal.word_of-requires
word_of-requires c = (
  clock_low c.args.self.now.about c.args.seat.now.mind.view c.args.berth.now.process _ c.args.berth.now.strand c.args.berth.now.outbox c.requires
      (c.clock-clock.ensures c.args.self.now.about.plan c.requires.strand.course),
  omega arith,
)

pub returns-clause-word : goal.returns-clause-word
returns-clause-word c =
    let held = some_held c.args.self.now.about c.args.seat.now.mind.view c.args.berth.now.process c.args.berth.now.strand c.args.berth.now.outbox
    c.requires in
    let over = c.seat.invariant.0.3 (λ e. held (sym (ap (λ (x : SeatState). x.mind.view.holds) c.seat.view_is) ∙ e))
    ∙ ap (λ (x : SeatState). is_over x.mind.view.holds) c.seat.view_is in
    c.word_of.ensures
    ∙ (λ j. spell ((c.given-tag.ensures ∙ (λ k. given_tag c.args.self.now.about.room (over k) (c.len.ensures.value k))) j)
    (c.clock-clock.ensures c.args.self.now.about.plan c.requires.strand.course j) 0)

pub returns-clause-fits : goal.returns-clause-fits
returns-clause-fits c = let n = c.len.ensures.value in let b = c.len.ensures.bound.within in b
