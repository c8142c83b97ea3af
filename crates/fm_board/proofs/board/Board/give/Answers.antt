use Rattle.std.proofs.Common.{arith, ap, sym, ◌∙◌, ◌∷◌, length, Option, Some, refl}
use Rattle.atomic_table.specs.Table.{rest}
use Rattle.fm_buffer.specs.Outbox.{EventQueue}
use Rattle.fm_strand.specs.declared.strand.Strand.{Strand}
use Rattle.fm_program.specs.Parts.{PlanParts}
use Rattle.fm_board.specs.Plays.{Holder, left_of}
use Rattle.fm_board.specs.Seats.{SeatState}
use Rattle.fm_board.specs.declared.deposit.Deposit.{Deposit}
use Rattle.fm_board.specs.View.{gave, is_over}
use Rattle.fm_board.specs.declared.about.About.{About}
use Rattle.fm_board.specs.declared.berth.Berth.{Berth}
use Rattle.fm_core.specs.Tags.{given_tag}
use Rattle.fm_core.specs.declared.tag.Tag.{Tag}
use Rattle.fm_strand.specs.Strand.{clock_of}
use Rattle.fm_board.specs.declared.view.Mind.{Mind}
use Rattle.fm_board.proofs.FoundLast.{latest_gave}
use Rattle.fm_board.proofs.Returns.{gave_as, gave_extends, gave_knows, gave_tidy, gives_at}
use Rattle.fm_board.proofs.board.Board.give.Goals as goal

-- a slot with this in it
abbrev holding : Option Strand → EventQueue → Deposit
holding strand box = record { strand = strand; outbox = box }

abbrev tag_back : About → SeatState → Berth → Tag
tag_back a x b = given_tag a.room (is_over x.mind.view.holds) (length b.outbox.events)

pub store-requires-clause-may : goal.store-requires-clause-may
store-requires-clause-may c =
    let me = c.seat.inside.token.me in
    let brought = c.exchange.ensures.is
    ∙ ap (λ (o : Option Strand). (me.0, (c.args.berth.process, Some (holding o c.args.berth.outbox)) ∷ rest me.1)) c.of.ensures in
    gives_at _ c.args.self.now.about _ _ _ c.args.berth.process _ c.seat.inside.token.me _ c.args.berth.strand
    c.args.berth.outbox c.args.seat.now
    c.args.self.now.same.0 (ap (λ (x : SeatState). x.mind) c.seat.view_is) c.index_of.ensures c.requires.may c.word_back-new.ensures.fits
    c.word_back-new.ensures.word brought

pub invariant_of-seat : goal.invariant_of-seat
invariant_of-seat c =
    let back = c.store.ensures.told c.args.berth.process (tag_back c.args.self.now.about c.args.seat.now c.args.berth)
    (clock_of c.args.self.now.about.plan c.args.berth.strand) 0 c.index_of.ensures
    (omega arith) c.word_back-new.ensures.word in (
      gave_tidy _ c.args.berth.process _ _ _ _ _ c.seat.inside.token.me c.exchange.new.self.me _ _ c.seat.invariant.0
          c.exchange.ensures.is back,
      latest_gave _ _ c.seat.inside.token.me.0.view _ c.seat.invariant.1
          (ap (λ (m : Mind). m.view) back.mind ∙ ap (λ (y : Holder). gave y.0.view) c.exchange.ensures.is),
      c.seat.invariant.2
          ∙ sym (ap (λ (m : Mind). m.log.idle) back.mind ∙ ap (λ (y : Holder). y.0.log.idle) c.exchange.ensures.is),
    )

pub returns-clause-gave : goal.returns-clause-gave
returns-clause-gave c =
    gave_as c.args.self.now.about _ _ _ c.args.berth.process _ _ c.seat.inside.token.me c.exchange.new.self.me _ _
    c.args.berth.strand c.args.berth.outbox _
    c.exchange.ensures.is refl (λ (q : PlanParts). ap (left_of q) c.of.ensures) c.requires.ours.plan
    (c.store.ensures.told c.args.berth.process (tag_back c.args.self.now.about c.args.seat.now c.args.berth)
    (clock_of c.args.self.now.about.plan c.args.berth.strand) 0 c.index_of.ensures
    (omega arith) c.word_back-new.ensures.word)
    refl refl c.store.ensures.kept.0 c.exchange.ensures.kept.0 c.seat.view_is

pub returns-clause-knows : goal.returns-clause-knows
returns-clause-knows c =
    gave_knows c.args.berth.process (tag_back c.args.self.now.about c.args.seat.now c.args.berth)
    (clock_of c.args.self.now.about.plan c.args.berth.strand) c.seat.inside.token.me c.exchange.new.self.me _ _ _
    c.args.seat.now c.exchange.ensures.is
    (c.store.ensures.told c.args.berth.process (tag_back c.args.self.now.about c.args.seat.now c.args.berth)
    (clock_of c.args.self.now.about.plan c.args.berth.strand) 0 c.index_of.ensures
    (omega arith) c.word_back-new.ensures.word) c.seat.view_is

pub returns-clause-extends : goal.returns-clause-extends
returns-clause-extends c =
    gave_extends c.args.berth.process (tag_back c.args.self.now.about c.args.seat.now c.args.berth)
    (clock_of c.args.self.now.about.plan c.args.berth.strand) c.seat.inside.token.me c.exchange.new.self.me _ _ _
    c.args.seat.now c.exchange.ensures.is
    (c.store.ensures.told c.args.berth.process (tag_back c.args.self.now.about c.args.seat.now c.args.berth)
    (clock_of c.args.self.now.about.plan c.args.berth.strand) 0 c.index_of.ensures
    (omega arith) c.word_back-new.ensures.word) c.seat.view_is
