use Rattle.std.proofs.Common.{◌<◌, List, ◌∙◌, ap, [], ◌∷◌, ◌++◌, arith, subst, refl, lit<}
use Rattle.fm_program.specs.Parts.{stock_parts}
use Rattle.fm_player.specs.declared.frame.Frame.{Frame}
use Rattle.fm_player.specs.Drawing.{FramesStand}
use Rattle.fm_player.proofs.FrameLemmas.{round-goes, round-ends, no_list-goes_back, IsFrame-round}
use Rattle.fm_player.proofs.draws.Draws.goes_round.Goals as goal

pub push-requires : goal.push-requires
push-requires c = (lit< tt, omega (arith, c.in-Some-Counting.ensures.len, c.requires.few))

pub returns-else-left-eq0-clause-stands : goal.returns-else-left-eq0-clause-stands
returns-else-left-eq0-clause-stands c = λ s back stands goes.
    let more : 0 < c.in-Some-Counting.left = grind (arith, c.if-left-eq0.false) in
    (round-goes (stock_parts c.args.stock.now) _ s s.frames c.pop.new.self.items _ _ _ back stands.registers stands.dice
    c.push.ensures.items
    (subst (λ (xs : List Frame). FramesStand (stock_parts c.args.stock.now) xs s.frames)
    (c.in-Some-Counting.ensures.items ∙ ap (λ (x : Frame). c.pop.new.self.items ++ x ∷ []) c.in-Some-Counting.field-0-is)
    stands.frames)
    goes more).0

pub returns-else-left-eq0-clause-operation : goal.returns-else-left-eq0-clause-operation
returns-else-left-eq0-clause-operation c = λ s back stands goes.
    let more : 0 < c.in-Some-Counting.left = grind (arith, c.if-left-eq0.false) in
    (round-goes (stock_parts c.args.stock.now) (record c.args.self.now { frames = c.push.new.self }) s s.frames c.pop.new.self.items
    _ _ _ back stands.registers stands.dice c.push.ensures.items
    (subst (λ (xs : List Frame). FramesStand (stock_parts c.args.stock.now) xs s.frames)
    (c.in-Some-Counting.ensures.items ∙ ap (λ (x : Frame). c.pop.new.self.items ++ x ∷ []) c.in-Some-Counting.field-0-is)
    stands.frames)
    goes more).1

pub returns-else-left-eq0-clause-frames : goal.returns-else-left-eq0-clause-frames
returns-else-left-eq0-clause-frames c =
    let more : 0 < c.in-Some-Counting.left = grind (arith, c.if-left-eq0.false) in
    IsFrame-round (stock_parts c.args.stock.now) c.args.self.now.frames.items c.push.new.self.items c.pop.new.self.items _ _ _
    c.requires.frames
    (c.in-Some-Counting.ensures.items ∙ ap (λ (x : Frame). c.pop.new.self.items ++ x ∷ []) c.in-Some-Counting.field-0-is)
    c.push.ensures.items more

pub returns-then-left-eq0-clause-stands : goal.returns-then-left-eq0-clause-stands
returns-then-left-eq0-clause-stands c = λ s back stands goes.
    (round-ends (stock_parts c.args.stock.now) _ s s.frames c.pop.new.self.items _ _ _ back stands.registers stands.dice refl
    (subst (λ (xs : List Frame). FramesStand (stock_parts c.args.stock.now) xs s.frames)
    (c.in-Some-Counting.ensures.items ∙ ap (λ (x : Frame). c.pop.new.self.items ++ x ∷ []) c.in-Some-Counting.field-0-is)
    stands.frames)
    goes c.if-left-eq0.true).0

pub returns-then-left-eq0-clause-operation : goal.returns-then-left-eq0-clause-operation
returns-then-left-eq0-clause-operation c = λ s back stands goes.
    (round-ends (stock_parts c.args.stock.now) (record c.args.self.now { frames = c.pop.new.self }) s s.frames c.pop.new.self.items
    _ _ _ back stands.registers stands.dice refl
    (subst (λ (xs : List Frame). FramesStand (stock_parts c.args.stock.now) xs s.frames)
    (c.in-Some-Counting.ensures.items ∙ ap (λ (x : Frame). c.pop.new.self.items ++ x ∷ []) c.in-Some-Counting.field-0-is)
    stands.frames)
    goes c.if-left-eq0.true).1

pub returns-in-Some-Cycling-clause-operation : goal.returns-in-Some-Cycling-clause-operation
returns-in-Some-Cycling-clause-operation c = λ s back stands goes.
    absurd (no_list-goes_back (stock_parts c.args.stock.now) _ _ back c.pop.new.self.items s.frames
    (subst (λ (xs : List Frame). FramesStand (stock_parts c.args.stock.now) xs s.frames)
    (c.in-Some-Cycling.ensures.items ∙ ap (λ (x : Frame). c.pop.new.self.items ++ x ∷ []) c.in-Some-Cycling.field-0-is)
    stands.frames) goes)
