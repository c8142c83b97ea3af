use Rattle.std.proofs.Common.{◌∙◌, sym, ap, Some}
use Rattle.fm_board.specs.Seats.{SeatState}
use Rattle.fm_board.specs.Words.{spell}
use Rattle.fm_board.specs.declared.seen.Seen.{Seen}
use Rattle.fm_board.specs.declared.view.Mind.{Mind}
use Rattle.fm_board.specs.declared.view.View.{View}
use Rattle.fm_board.proofs.FoundLast.{latest_now}
use Rattle.fm_board.specs.Plays.{Holder}
use Rattle.fm_board.specs.View.{holding}
use Rattle.fm_board.proofs.Steps.{claims_at, found_as, hands_as, held_tidy, is_out, no_strand, stays_tidy, taken_out}
use Rattle.fm_board.proofs.board.Board.claim.Goals as goal

pub compare_exchange-found-requires-clause-may : goal.compare_exchange-found-requires-clause-may
compare_exchange-found-requires-clause-may c =
    let e : Seen = c.args.expected.now in
    claims_at _ c.args.self.now.about c.args.self.now.table.shared.table_id _ _ _ c.args.process _ _ e.tag c.claimed.result e.clock e.seat
    c.seat.inside.number _ c.args.seat.now
    c.args.self.now.same.0 c.requires.ours (ap (λ (x : SeatState). x.mind) c.seat.view_is) c.index_of.ensures c.requires.there c.requires.idle
    c.requires.tag
    e.fits.few c.word_of-old.ensures c.claimed.ensures c.seat.invariant.0.0 c.word_of-new.ensures

pub seen_of-requires : goal.seen_of-requires
seen_of-requires c = ((c.compare_exchange-found.ensures.told c.args.process c.index_of.ensures).1 c.if-found-old.true).word

pub invariant_of-seat : goal.invariant_of-seat
invariant_of-seat c =
    let found = (c.compare_exchange-found.ensures.told c.args.process c.index_of.ensures).1 c.if-found-old.true in
    let s = c.seen_of.result in
    let mind = found.mind s.tag s.clock s.seat c.seen_of.ensures.few c.seen_of.ensures.word in (
      stays_tidy _ _ _ _ c.seat.inside.token.me c.compare_exchange-found.new.self.me c.seat.invariant.0
          (ap (λ (m : Mind). m.view.number) mind) (ap (λ (m : Mind). m.view.holds) mind) (ap (λ (m : Mind). m.view.sweep) mind)
          (ap (λ (m : Mind). m.view.plan) mind) found.out,
      latest_now _ _ c.seat.inside.token.me.0.view _ c.seat.invariant.1 (ap (λ (m : Mind). m.view) mind),
      c.seat.invariant.2 ∙ sym (ap (λ (m : Mind). m.log.idle) mind),
    )

pub returns-then-found-old : goal.returns-then-found-old
returns-then-found-old c =
    let found = (c.compare_exchange-found.ensures.told c.args.process c.index_of.ensures).1 c.if-found-old.true in (
      found_as _ _ c.args.process _ c.seat.inside.token.me c.compare_exchange-found.new.self.me (λ (v : View) t n. v)
          (λ (m : Mind) t. m.log)
          c.seen_of.result _
          found c.seen_of.ensures.few c.seen_of.ensures.word c.compare_exchange-found.ensures.kept.0 c.seat.view_is,
      (λ same. c.if-found-old.true (c.seen_of.ensures.word
          ∙ (ap (λ (s : Seen). spell s.tag s.clock s.seat) same ∙ sym c.word_of-old.ensures))),
      (λ same. c.if-found-old.true (c.seen_of.ensures.word ∙ (same ∙ sym c.word_of-old.ensures))),
    )

pub exchange-requires-clause-out : goal.exchange-requires-clause-out
exchange-requires-clause-out c =
    let e : Seen = c.args.expected.now in
    let hit = (c.compare_exchange-found.ensures.told c.args.process c.index_of.ensures).0 c.if-found-old.false e.tag e.clock e.seat
    e.fits.few c.word_of-old.ensures in
    (Some (record { strand = Some hit.strand; outbox = hit.box }), is_out _ c.args.process _ _ hit.out)

pub unreachable-requires : goal.unreachable-requires
unreachable-requires c =
    let e : Seen = c.args.expected.now in
    let hit = (c.compare_exchange-found.ensures.told c.args.process c.index_of.ensures).0 c.if-found-old.false e.tag e.clock e.seat
    e.fits.few c.word_of-old.ensures in
    no_strand _ c.in-Some.room hit.strand hit.box c.in-Some.is
    (taken_out _ c.args.process _ _ _ _ c.exchange.ensures.was hit.out) (sym c.runner.ensures ∙ c.in-None-runner.is)

pub unreachable-requires-in-None : goal.unreachable-requires-in-None
unreachable-requires-in-None c =
    let e : Seen = c.args.expected.now in
    let hit = (c.compare_exchange-found.ensures.told c.args.process c.index_of.ensures).0 c.if-found-old.false e.tag e.clock e.seat
    e.fits.few c.word_of-old.ensures in
    let is = sym c.in-None.is ∙ taken_out _ c.args.process _ _ _ _ c.exchange.ensures.was hit.out in absurd (cc)

pub invariant_of-seat-2 : goal.invariant_of-seat-2
invariant_of-seat-2 c =
    let e : Seen = c.args.expected.now in
    let hit = (c.compare_exchange-found.ensures.told c.args.process c.index_of.ensures).0 c.if-found-old.false e.tag e.clock e.seat
    e.fits.few c.word_of-old.ensures in (
      held_tidy _ _ _ _ _ c.seat.inside.token.me _ _ c.args.process _ _ _ c.seat.invariant.0
          (ap (λ (x : SeatState). x.mind.view.holds) c.seat.view_is ∙ c.requires.idle) hit
          c.exchange.ensures.is c.is_ended-seat-inside.ensures,
      latest_now _ _ (holding c.seat.inside.token.me.0.view hit.hold) _ c.seat.invariant.1
          (ap (λ (y : Holder). y.0.view) c.exchange.ensures.is ∙ ap (λ (m : Mind). m.view) hit.mind),
      c.seat.invariant.2
          ∙ sym (ap (λ (y : Holder). y.0.log.idle) c.exchange.ensures.is ∙ ap (λ (m : Mind). m.log.idle) hit.mind),
    )

pub returns : goal.returns
returns c =
    let e : Seen = c.args.expected.now in
    let hit = (c.compare_exchange-found.ensures.told c.args.process c.index_of.ensures).0 c.if-found-old.false e.tag e.clock e.seat
    e.fits.few c.word_of-old.ensures in
    hands_as _ c.args.self.now.table.shared.table_id _ _ _ c.args.process _ e c.seat.inside.token.me _ _ _ c.in-Some.room
    c.in-Some-runner.strand _
    c.requires.ours (c.if-found-old.false ∙ c.word_of-old.ensures) hit c.exchange.ensures.is c.in-Some.is
    (taken_out _ c.args.process _ _ _ _ c.exchange.ensures.was hit.out) (sym c.runner.ensures ∙ c.in-Some-runner.is)
    c.exchange.ensures.kept.0 c.compare_exchange-found.ensures.kept.0 c.seat.view_is
