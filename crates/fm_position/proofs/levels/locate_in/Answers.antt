use Rattle.std.proofs.Common.{◌<◌, ℕ, List, All, length, refl, sym, ◌∙◌, ap, subst, arith}
use Rattle.fm_nest.specs.declared.place.Place.{Place}
use Rattle.fm_program.specs.Parts.{process_program}
use Rattle.fm_player.proofs.BeginLemmas.{begin-depth, begin-limited, named-all, opens}
use Rattle.fm_warp.specs.declared.part.Part.{Part}
use Rattle.fm_position.specs.declared.position.Position.{Position}
use Rattle.fm_position.proofs.LevelLemmas.{IsFound-start, length-levels_at}
use Rattle.fm_position.proofs.ToldLemmas.{position_told}
use Rattle.fm_position.proofs.levels.locate_in.Goals as goal

pub locate-requires-clause-depth : goal.locate-requires-clause-depth
locate-requires-clause-depth c =
    let levels = c.as_slice-levels.ensures.value ∙ ap (λ g. g.levels) c.program.ensures.value in
    ap length levels
    ∙ begin-depth c.args.plan.now c.args.process c.in_ok-place.place c.program.ensures.fits c.requires.process c.in_ok-place.ensures

pub locate-requires-clause-room : goal.locate-requires-clause-room
locate-requires-clause-room c =
    omega (
      arith,
      begin-depth c.args.plan.now c.args.process c.in_ok-place.place c.program.ensures.fits c.requires.process c.in_ok-place.ensures,
      (opens c.args.plan.now c.args.process c.program.ensures.fits c.requires.process).levels,
    )

pub locate-requires-clause-limited : goal.locate-requires-clause-limited
locate-requires-clause-limited c =
    begin-limited c.args.plan.now c.args.process c.in_ok-place.place c.program.ensures.fits c.requires.process c.in_ok-place.ensures

pub locate-requires-clause-named : goal.locate-requires-clause-named
locate-requires-clause-named c =
    let levels = c.as_slice-levels.ensures.value ∙ ap (λ g. g.levels) c.program.ensures.value in
    let P : List ℕ → Type 0 = All (λ w. w < length c.warps.result.now) in
    subst P (sym levels)
    (subst (λ (ws : List (List Part)). All (λ w. w < length ws) (process_program c.args.plan.now c.args.process).levels)
    (sym c.warps.ensures)
    (named-all _ _ (opens c.args.plan.now c.args.process c.program.ensures.fits c.requires.process).warps))

pub returns-clause-position : goal.returns-clause-position
returns-clause-position c =
    let levels = c.as_slice-levels.ensures.value ∙ ap (λ g. g.levels) c.program.ensures.value in
    record {
      process = refl;
      depth = ap (λ (x : Place). x.depth) c.in_ok-place.ensures;
      start = c.clock.ensures c.args.plan.now c.begin-strand.ensures.course ∙ c.begin-strand.ensures.clock;
      found = IsFound-start c.args.plan.now c.args.process c.args.tick c.in_ok-place.place c.as_slice-levels.result.now
          c.warps.result.now c.locate.result c.in_ok-place.ensures levels c.warps.ensures c.locate.ensures.there
          c.locate.ensures.never;
    }

pub returns-clause-told : goal.returns-clause-told
returns-clause-told c =
    let position : Position = record {
      process = c.args.process;
      depth = c.in_ok-place.place.depth;
      start = c.clock.result;
      located = c.locate.result;
    } in
    position_told c.args.plan.now c.args.process c.args.tick position
    (length-levels_at c.args.plan.now c.args.process c.program.ensures.fits c.requires.process)
    (returns-clause-position c)
