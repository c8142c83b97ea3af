use Rattle.std.proofs.Common.{◌≡◌, List, All, rules, subst, arith}
use Rattle.std.proofs.lemmas.List.Elements.{All-tail}
use Rattle.fm_nest.specs.declared.level.Level.{Level}
use Rattle.fm_nest.specs.Nesting.{IsPlaced, Names, frames_of}
use Rattle.fm_nest.proofs.ReadinessLemmas.{IsPlaced-tail}
use Rattle.fm_nest.proofs.level.+compose_far.Goals as goal

pub compose_far-inside-requires : goal.compose_far-inside-requires
compose_far-inside-requires t c =
    let split = c.in-Some.ensures.cases.0 in
    let named = subst (λ (levels : List Level). All (Names c.args.warps.now) (frames_of levels)) split c.requires.named in
    let placed = subst (λ (levels : List Level). All IsPlaced (frames_of levels)) split c.requires.placed in (
      search rules,
      (
        All-tail (Names c.args.warps.now) c.in-Some.outer.now.frame (frames_of c.in-Some.inner.now) named,
        (IsPlaced-tail c.in-Some.outer.now c.in-Some.inner.now placed, let limited = c.requires.limited in omega arith),
      ),
    )
