use Rattle.std.proofs.Common.{◌≡◌, ◌≤◌, take, drop, length}
use Rattle.fm_tick.specs.declared.tick.TheConstants.{MAX_TICK}
use Rattle.fm_nest.specs.Nesting.{framed}
use Rattle.fm_locate.specs.Locating.{AreZero}
use Rattle.fm_locate.proofs.LevelLemmas.{Walks}
use Rattle.fm_locate.proofs.levels.locate.Given as goal

abbrev pub invariant-loop-index : goal.invariant-loop-index
invariant-loop-index l = record {
  walks : Walks l.warps (framed l.ids l.place.origins) l.t (take l.index l.positions)
      (drop l.index (framed l.ids l.place.origins)) l.sought;
  limited : l.sought ≤ MAX_TICK;
  long : length l.positions ≡ 8;
  zeros : AreZero (drop l.index l.positions);
}
