use Rattle.std.proofs.Common.{ap, subst, sym, ◌∙◌}
use Rattle.fm_board.specs.Seats.{SeatState}
use Rattle.fm_board.specs.View.{InTurn, looked}
use Rattle.fm_board.specs.declared.view.Mind.{Mind}
use Rattle.fm_board.specs.declared.view.View.{View}
use Rattle.fm_board.specs.Minds.{did_look}
use Rattle.fm_program.proofs.Lines.{plan-lines-waits}
use Rattle.fm_board.proofs.FoundLast.{latest_looked}
use Rattle.fm_board.proofs.Steps.{found_as, looks_at}
use Rattle.fm_board.proofs.Sweeping.{looked_tidy}
use Rattle.fm_board.proofs.board.Board.look.Goals as goal

pub load-found-requires-clause-may : goal.load-found-requires-clause-may
load-found-requires-clause-may c =
    looks_at _ c.args.self.now.about c.args.self.now.table.shared.table_id _ _ _ c.args.process _ c.args.seat.now c.args.self.now.same.0
    c.requires.ours
    (ap (λ (x : SeatState). x.mind) c.seat.view_is) c.index_of.ensures c.requires.turn

pub seen_of-seen-requires : goal.seen_of-seen-requires
seen_of-seen-requires c = (c.load-found.ensures.told c.args.process c.index_of.ensures).word

pub invariant_of-seat : goal.invariant_of-seat
invariant_of-seat c =
    let found = c.load-found.ensures.told c.args.process c.index_of.ensures in
    let s = c.seen_of-seen.result in
    let mind = found.mind s.tag s.clock s.seat c.seen_of-seen.ensures.few c.seen_of-seen.ensures.word in
    let turn = subst (λ (m : Mind). InTurn m.view c.args.process) (sym (ap (λ (x : SeatState). x.mind) c.seat.view_is)) c.requires.turn in (
      looked_tidy _ _ _ _ _ _ _ c.args.process s.clock _ s.tag c.seat.inside.token.me c.load-found.new.self.me c.args.seat.now.mind
          c.args.self.now.about.plan _ _ _ c.seat.invariant.0 (ap (λ (x : SeatState). x.mind) c.seat.view_is) c.requires.turn
          c.requires.ours.plan mind found.out c.as_slice.ensures.value
          (c.predecessors-predecessors.ensures ∙ sym (plan-lines-waits c.args.self.now.about.plan c.args.process)) c.of-look.ensures
          c.enter.ensures.items c.enter.ensures.capacity,
      latest_looked _ _ _ c.seat.inside.token.me.0.view _ c.args.process s.clock s.tag c.seat.invariant.1 turn
          c.has_nothing-seat-inside.ensures (ap (λ (m : Mind). m.view) mind),
      c.has_nothing-seat-inside.ensures ∙ sym (ap (λ (m : Mind). m.log.idle) mind),
    )

pub returns : goal.returns
returns c =
    found_as _ _ c.args.process _ c.seat.inside.token.me c.load-found.new.self.me
    (λ (v : View). looked v c.args.process) (λ (m : Mind) t. did_look m c.args.process t c.load-found.new.self.me.0.log.seen)
    c.seen_of-seen.result _
    (c.load-found.ensures.told c.args.process c.index_of.ensures) c.seen_of-seen.ensures.few c.seen_of-seen.ensures.word
    c.load-found.ensures.kept.0
    c.seat.view_is
