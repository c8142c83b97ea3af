use Rattle.std.proofs.Common.{refl, sym, ◌∙◌, ap, subst, w64, SFits}
use Rattle.std.proofs.Math.Facts.{to_z-of_z}
use Rattle.fm_program.specs.Run.{point_msg}
use Rattle.fm_program.specs.Parts.{StockParts}
use Rattle.fm_program.specs.Fit.{loops_of}
use Rattle.fm_player.specs.Drawing.{IsNumber}
use Rattle.fm_player.proofs.SoundLemmas.{next_is}
use Rattle.fm_player.proofs.OperationLemmas.{point-number, send-does, send-event}
use Rattle.fm_player.proofs.player.Player.send.Goals as goal

pub number-value-requires-clause-draw : goal.number-value-requires-clause-draw
number-value-requires-clause-draw g c =
    subst (λ (t : StockParts). IsNumber t (loops_of t c.args.scope) c.args.draw) (sym c.stock.ensures.value)
    (point-number c.args.plan.now.stock (loops_of c.args.plan.now.stock c.args.scope) c.args.point c.args.draw c.requires.1.1.1)

pub returns-clause-does : goal.returns-clause-does
returns-clause-does g c =
    send-does c.args.plan.now c.args.self.now g.state c.args.point c.args.channel c.args.draw c.args.scope _ c.number-value.new.self
    c.number-value.result c.requires.0 c.stock.ensures.value c.number-value.ensures.draws c.number-value.ensures.frames

pub returns-clause-event : goal.returns-clause-event
returns-clause-event g c =
    let fits : SFits w64 c.number-value.result = record { sfits = c.number-value.type_inv } in
    send-event c.args.plan.now c.args.self.now g.state c.args.point c.args.channel c.args.draw c.args.scope _ c.number-value.new.self
    c.number-value.result c.point_msg.result c.new.result c.requires.0 c.stock.ensures.value c.number-value.ensures.draws
    (c.point_msg.ensures.value ∙ ap (point_msg c.args.point c.args.channel) (to_z-of_z fits))
    (c.new.ensures ∙ next_is _ _ c.args.self.now.process _ _ c.point_msg.result _ c.tick.ensures refl refl)
