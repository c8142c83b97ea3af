use Rattle.std.proofs.Common.{◌≡◌, ◌∙◌, ℕ, ◌<◌, List, [], ◌++◌, take, drop, get_or, length, refl, subst, arith}
use Rattle.std.proofs.lemmas.List.{get_or_default, length-set, length-take, take_more_set, take-append-drop}
use Rattle.fm_warp.specs.declared.part.Part.{Part}
use Rattle.fm_nest.specs.declared.frame.Frame.{Frame}
use Rattle.fm_nest.specs.Nesting.{framed}
use Rattle.fm_locate.specs.Locating.{AreLocated, IsLeastAt, IsNever, IsNeverAt}
use Rattle.fm_locate.proofs.LocatingLemmas.{AreLocated-meets}
use Rattle.fm_locate.proofs.LevelLemmas.{Walks, Walks-more, Walks-never, AreZero-set, framed-drop, framed-all}
use Rattle.fm_locate.proofs.levels.locate.Goals as goal

pub returns-in-None-clause-never : goal.returns-in-None-clause-never
returns-in-None-clause-never c = λ level same.
    let i = c.loop-index.index in
    let ids = c.args.ids.now in
    let origins = c.args.place.now.origins in
    let warps = c.args.warps.now in
    let done = take i c.loop-index.positions in
    let named = c.requires.named i 0 (omega arith) in
    let parts = c.index-warps-id.is ∙ get_or_default warps (get_or ids i 0) c.index-warps-id.result [] named in
    let never = subst (λ (ps : List Part). IsNever (get_or origins i 0) ps c.loop-index.sought) parts (c.in-None.ensures.never refl) in
    let walks = subst (λ (fs : List Frame). Walks warps (framed ids origins) c.args.t done fs c.loop-index.sought)
    (framed-drop ids origins i (omega arith) (omega arith)) c.loop-index.invariant.walks in (
      i,
      cc,
      subst (λ (n : ℕ). IsNeverAt warps (framed ids origins) c.args.t n)
          (omega (arith, length-take i c.loop-index.positions, c.loop-index.invariant.long))
          (Walks-never warps (framed ids origins) c.args.t done _ _ _ walks never),
    )

pub loop-index-preserved : goal.loop-index-preserved
loop-index-preserved c =
    let i = c.loop-index.index in
    let ids = c.args.ids.now in
    let origins = c.args.place.now.origins in
    let warps = c.args.warps.now in
    let x = c.in-Some.position in
    let positions = c.loop-index.positions in
    let named = c.requires.named i 0 (omega arith) in
    let parts = c.index-warps-id.is ∙ get_or_default warps (get_or ids i 0) c.index-warps-id.result [] named in
    let least = subst (λ (ps : List Part). IsLeastAt (get_or origins i 0) ps c.loop-index.sought x) parts c.in-Some.ensures.there in
    let walks = subst (λ (fs : List Frame). Walks warps (framed ids origins) c.args.t (take i positions) fs c.loop-index.sought)
    (framed-drop ids origins i (omega arith) (omega arith)) c.loop-index.invariant.walks in
    let room : i < length positions = omega (arith, c.loop-index.invariant.long) in
    record {
      walks = rw (take_more_set positions i x room) (Walks-more warps (framed ids origins) c.args.t (take i positions) _ _ _ x walks least);
      limited = c.in-Some.ensures.there.limited;
      long = omega (arith, length-set positions i x, c.loop-index.invariant.long);
      zeros = AreZero-set i x positions room c.loop-index.invariant.zeros;
    }

pub returns-clause-there : goal.returns-clause-there
returns-clause-there c = λ positions same.
    let i = c.loop-index.index in
    let frames = framed c.args.ids.now c.args.place.now.origins in
    let walks = subst (λ (fs : List Frame). Walks c.args.warps.now frames c.args.t (take i c.loop-index.positions) fs c.loop-index.sought)
    (framed-all c.args.ids.now c.args.place.now.origins i (omega arith)) c.loop-index.invariant.walks in
    let whole : take i c.loop-index.positions ++ drop i c.loop-index.positions ≡ positions =
    take-append-drop i c.loop-index.positions ∙ cc in
    subst (λ (ps : List ℕ). AreLocated c.args.warps.now frames c.args.t ps) whole
    (walks.found (drop i c.loop-index.positions) c.loop-index.invariant.zeros)

pub returns-clause-meets : goal.returns-clause-meets
returns-clause-meets c = λ positions same x fits.
    AreLocated-meets _ _ _ x positions (returns-clause-there c positions same) fits
