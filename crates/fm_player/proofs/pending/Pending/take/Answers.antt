use Rattle.std.proofs.Common.{refl, sym, ◌∙◌, ◌∷◌, ◌+◌, ap}
use Rattle.fm_msg.specs.Event.{TimedMessage}
use Rattle.fm_player.specs.Sounding.{next_msg, next_time, pending_events}
use Rattle.fm_player.proofs.SoundLemmas.{pending-next, next_is}
use Rattle.fm_player.proofs.pending.Pending.take.Goals as goal

pub returns-clause-event : goal.returns-clause-event
returns-clause-event c =
    pending-next c.args.process c.args.self.now c.requires.left
    ∙ ap (λ (e : TimedMessage). e ∷ pending_events c.args.process (record c.args.self.now { given = c.args.self.now.given + 1 }))
    (next_is (next_time c.args.self.now) _ c.args.process _ _ (next_msg c.args.self.now) _ (sym c.next_time-time.ensures) refl
    (sym c.msg-msg.ensures.value)
    ∙ sym c.new.ensures)
