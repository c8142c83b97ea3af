use Rattle.std.proofs.Common.{◌<◌, ◌+◌, ◌%◌, ◌^◌, ℕ, List, All, length, sym, ◌∙◌, ap, subst, arith}
use Rattle.fm_program.specs.Parts.{StockParts, process_program, stock_parts}
use Rattle.fm_player.specs.Player.{clock_of, rest, steps_left}
use Rattle.fm_player.proofs.BeginLemmas.{begin-course, begin-depth, begin-fits, begin-limited, begin-rest, begin-tick, named-all, opens}
use Rattle.fm_player.proofs.player.Player.begin.Goals as goal

pub new-requires-clause-named : goal.new-requires-clause-named
new-requires-clause-named c =
    let cycles = c.as_slice.ensures.value ∙ ap (λ g. g.cycles) c.program-program.ensures.value in
    let P : List ℕ → Type 0 = All (λ l. l < length (stock_parts c.stock.result.now).lists) in
    subst P (sym cycles)
    (subst (λ (t : StockParts). All (λ l. l < length t.lists) (process_program c.args.plan.now c.args.process).cycles)
    (sym c.stock.ensures.value)
    (named-all _ _ (opens c.args.plan.now c.args.process c.stock.ensures.fits c.requires.process).lists))

pub new-requires-clause-few : goal.new-requires-clause-few
new-requires-clause-few c =
    let cycles = c.as_slice.ensures.value ∙ ap (λ g. g.cycles) c.program-program.ensures.value in
    omega (arith, ap length cycles, (opens c.args.plan.now c.args.process c.stock.ensures.fits c.requires.process).cycles)

pub new-requires-2-clause-depth : goal.new-requires-2-clause-depth
new-requires-2-clause-depth c =
    let levels = c.as_slice-2.ensures.value ∙ ap (λ g. g.levels) c.program-program.ensures.value in
    ap length levels ∙ begin-depth c.args.plan.now c.args.process c.args.place.now c.stock.ensures.fits c.requires.process c.requires.place

pub new-requires-2-clause-room : goal.new-requires-2-clause-room
new-requires-2-clause-room c =
    omega (
      arith,
      begin-depth c.args.plan.now c.args.process c.args.place.now c.stock.ensures.fits c.requires.process c.requires.place,
      (opens c.args.plan.now c.args.process c.stock.ensures.fits c.requires.process).levels,
    )

pub new-requires-2-clause-limited : goal.new-requires-2-clause-limited
new-requires-2-clause-limited c =
    begin-limited c.args.plan.now c.args.process c.args.place.now c.stock.ensures.fits c.requires.process c.requires.place

pub new-requires-2-clause-fits : goal.new-requires-2-clause-fits
new-requires-2-clause-fits c =
    let levels = c.as_slice-2.ensures.value ∙ ap (λ g. g.levels) c.program-program.ensures.value in
    rw (c.warps.ensures, levels)
    (begin-fits c.args.plan.now c.args.process c.args.place.now c.stock.ensures.fits c.requires.process c.requires.place)

pub returns-clause-course : goal.returns-clause-course
returns-clause-course c =
    begin-course c.args.plan.now c.args.process c.args.place.now (stock_parts c.stock.result.now) c.warps.result.now _ c.as_slice.result.now
    c.as_slice-2.result.now c.new.result c.new-2.result c.none.result c.stock.ensures.fits c.requires.process c.requires.place
    c.stock.ensures.value c.warps.ensures (c.as_slice.ensures.value ∙ ap (λ g. g.cycles) c.program-program.ensures.value)
    (c.as_slice-2.ensures.value ∙ ap (λ g. g.levels) c.program-program.ensures.value)
    (ap (λ (n : ℕ). (n + c.from.result) % 2 ^ 64) c.seed.ensures ∙ ap (λ (n : ℕ). (c.args.plan.now.seed + n) % 2 ^ 64) c.from.ensures)
    c.new.ensures.frames c.new.ensures.stands
    c.new-2.ensures.timed c.new-2.ensures.frames c.new-2.ensures.position c.none.ensures.pending c.none.ensures.events

pub returns-clause-clock : goal.returns-clause-clock
unfolding clock_of
returns-clause-clock c = begin-tick c.args.plan.now c.args.process c.stock.ensures.fits c.requires.process

pub returns-clause-line : goal.returns-clause-line
unfolding rest
returns-clause-line c = begin-rest c.args.plan.now c.args.process c.stock.ensures.fits c.requires.process

pub returns-clause-steps : goal.returns-clause-steps
unfolding steps_left
returns-clause-steps c = omega arith
