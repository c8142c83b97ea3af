use Rattle.std.proofs.Common.{◌≡◌, ◌<◌, ◌-◌, ℕ, [], ◌∷◌, ◌++◌, ◌∙◌, All, ap, subst, sym, arith, w64, SFits}
use Rattle.std.proofs.Math.Facts.{to_z-of_z}
use Rattle.std.proofs.lemmas.List.Elements.{All-push}
use Rattle.fm_msg.specs.declared.msg.TheConstants.{DATA_VALUES}
use Rattle.fm_program.specs.Parts.{stock_parts}
use Rattle.fm_program.specs.State.{nearest_to}
use Rattle.fm_player.proofs.DrawLemmas.{keys-more}
use Rattle.fm_player.proofs.draws.Draws.keys.Goals as goal

pub loop-pitch-preserved : goal.loop-pitch-preserved
loop-pitch-preserved c =
    let t = stock_parts c.args.stock.now in
    let fits : SFits w64 c.number-value.result = record { sfits = c.number-value.type_inv } in
    let key : c.nearest_to.result ≡ nearest_to (DATA_VALUES - 1) c.number-value.result =
    c.nearest_to.ensures.value ∙ ap (nearest_to 127) (to_z-of_z fits) in
    let items : c.push.new.self.items ≡ c.loop-pitch.keys.items ++ nearest_to (DATA_VALUES - 1) c.number-value.result ∷ [] =
    c.push.ensures.items ∙ ap (λ (k : ℕ). c.loop-pitch.keys.items ++ k ∷ []) key in
    let small : c.nearest_to.result < DATA_VALUES = omega (arith, c.nearest_to.ensures.most) in (
      c.number-value.ensures.frames ∙ c.loop-pitch.invariant.0,
      omega (arith, c.push.ensures.len, c.loop-pitch.invariant.1),
      subst (All (λ key. key < DATA_VALUES)) (sym c.push.ensures.items)
          (All-push (λ key. key < DATA_VALUES) c.loop-pitch.keys.items c.nearest_to.result c.loop-pitch.invariant.2 small),
      keys-more t c.args.self.now c.loop-pitch.self c.number-value.new.self c.loop-pitch.keys.items c.push.new.self.items
          c.number-value.result
          c.args.pitches.now c.loop-pitch.pitch-index c.args.scope _ c.loop-pitch.invariant.3 c.loop-pitch-test.true
          c.number-value.ensures.draws items,
    )
