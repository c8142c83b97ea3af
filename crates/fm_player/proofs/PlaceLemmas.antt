-- Places that processes reach are within the limits.
use Rattle.std.proofs.Common.{◌≡◌, sym, ◌∙◌, subst, arith, ℕ, zero, suc, ◌-◌, ◌<◌, ◌≤◌, List, [], ◌∷◌, length, map, reverse, replicate, All, length-append}
use Rattle.std.proofs.lemmas.List.{length-map, length-replicate, length-reverse, reverse-append}
use Rattle.std.proofs.lemmas.List.Elements.{All-append, All-nil, All-push, All-replicate}
use Rattle.fm_tick.specs.declared.tick.TheConstants.{MAX_TICK}
use Rattle.fm_nest.specs.declared.nest.TheConstants.{MAX_LEVELS}
use Rattle.fm_program.specs.Parts.{PlanParts, StockParts}
use Rattle.fm_program.specs.State.{Standing}
use Rattle.fm_program.specs.Process.{Spot, outset, spot_reached}
use Rattle.fm_program.specs.Fit.{PartsFit}
use Rattle.fm_player.specs.declared.player.Player.{Player}
use Rattle.fm_player.specs.Course.{PlaceFits, end_place, place_of, start_place}
use Rattle.fm_player.specs.Player.{InCourse, place_reached}
use Rattle.fm_player.proofs.TimeLemmas.{held-most, origins-most}
use Rattle.fm_player.proofs.StartLemmas.{Sound, first-start, sound-last, sound-standing, sound-start, starts-as}

reverse-most : (xs : List ℕ) → All (λ o. o ≤ MAX_TICK) xs → All (λ o. o ≤ MAX_TICK) (reverse xs)
reverse-most [] all = all
reverse-most (x ∷ xs) all =
    subst (All (λ o. o ≤ MAX_TICK)) (sym (reverse-append (x ∷ []) xs))
    (All-push (λ o. o ≤ MAX_TICK) (reverse xs) x (reverse-most xs (λ k d below. all (suc k) d (omega arith))) (all 0 0 (omega arith)))

-- a position in so many levels, which begin at ticks
spot-fits : (s : Spot) → s.position ≤ MAX_TICK → length s.origins ≤ MAX_LEVELS → All (λ o. o ≤ MAX_TICK) s.origins
    → PlaceFits (place_of s)
spot-fits s position depth ticks = record {
  position = position;
  depth = depth;
  origins = omega (
    arith,
    length-append s.origins (replicate (MAX_LEVELS - length s.origins) 0),
    length-replicate {A = ℕ} (MAX_LEVELS - length s.origins) 0,
  );
  ticks = All-append (λ o. o ≤ MAX_TICK) s.origins (replicate (MAX_LEVELS - length s.origins) 0) ticks
      (All-replicate (λ o. o ≤ MAX_TICK) (MAX_LEVELS - length s.origins) 0 (omega arith));
}

sound-fits : (t : StockParts) (w : Standing) → Sound t w → PlaceFits (place_of (spot_reached w))
sound-fits t w sound =
    let os : List ℕ = map (λ l. l.origin) w.levels in
    let counted : length (reverse os) ≡ length w.levels = length-reverse os ∙ length-map w.levels (λ l. l.origin) in
    spot-fits (spot_reached w) (held-most w.levels w.position sound.hold) (omega (arith, sound.few, counted))
    (reverse-most os (origins-most w.levels w.position sound.hold))

-- the place of a player
pub place-fits : (p : PlanParts) (s : Player) → InCourse p s → PlaceFits (place_reached p s)
unfolding place_reached
place-fits p s course =
    sound-fits p.stock _
    (sound-standing p s.process s.made course.fits course.process course.within (sound-start p s.process course.fits course.process))

-- where a process ends
pub end-fits : (p : PlanParts) (j : ℕ) → PartsFit p → j < length p.programs → PlaceFits (end_place p j)
unfolding end_place
end-fits p j fits below = sound-fits p.stock _ (sound-last p j fits below)

-- where it starts
pub start-fits : (p : PlanParts) (j : ℕ) → PartsFit p → j < length p.programs → PlaceFits (start_place p j)
unfolding start_place
start-fits p zero fits below =
    subst (λ (s : Spot). PlaceFits (place_of s)) (sym (first-start p fits))
    (spot-fits outset (omega arith) (omega arith) (All-nil (λ o. o ≤ MAX_TICK)))
start-fits p (suc j) fits below =
    let s = starts-as p (suc j) fits below (omega arith) in
    subst (λ (x : Spot). PlaceFits (place_of x)) (sym s.start)
    (sound-fits p.stock _ (sound-last p s.before fits (omega (arith, s.less))))
