-- Open levels and positions in them.
use Rattle.std.proofs.Common.{◌≡◌, refl, sym, ◌∙◌, ap, subst, arith, ℕ, suc, ◌+◌, ◌<◌, ◌≤◌, List, [], ◌∷◌, ◌++◌, length, map, All, true, ◌&&◌, nat_le}
use Rattle.std.proofs.lemmas.List.Elements.{All-cons, All-nil}
use Rattle.fm_tick.specs.declared.tick.TheConstants.{MAX_TICK}
use Rattle.fm_warp.specs.declared.part.Part.{Part}
use Rattle.fm_warp.specs.declared.side.Side.TheVariants.{Onset, Ending}
use Rattle.fm_nest.specs.declared.frame.Frame.{Frame}
use Rattle.fm_nest.specs.declared.level.Level.{Level}
use Rattle.fm_nest.specs.Nesting.{FitsLevels, composed, frames_of, lifted}
use Rattle.fm_nest.specs.Readiness.{AskedUpTo, ReadyFrom}
use Rattle.fm_nest.proofs.NestingLemmas.{FitsLevels-outer, composed-innermost}
use Rattle.fm_nest.proofs.ReadinessLemmas.{ReadyFrom-kept}
use Rattle.fm_nest.specs.declared.nest.TheConstants.{MAX_LEVELS}
use Rattle.fm_warp.specs.Deformation.{placed}
use Rattle.fm_program.specs.declared.op.TheConstants.{MAX_FRAMES}
use Rattle.fm_program.specs.State.{OpenLevel, Standing}
use Rattle.fm_program.specs.Needs.{holds, levels_hold}
use Rattle.fm_player.specs.declared.timeline.Timeline.{Timeline}
use Rattle.fm_player.specs.Timing.{IsInTime, IsTimed, level_of, levels_inside}
use Rattle.fm_player.proofs.StockLemmas.{both, most_of}

-- where something is open, something is innermost
pub record Innermost (xs : List Frame) : Type 0 where
  pub outer : List Frame
  pub inner : Frame
  pub is : xs ≡ outer ++ inner ∷ []

pub innermost : (xs : List Frame) → 0 < length xs → Innermost xs
innermost [] some = absurd (omega arith)
innermost (x ∷ []) some = record { outer = []; inner = x; is = refl }
innermost (x ∷ y ∷ ys) some =
    let later = innermost (y ∷ ys) (omega arith) in
    record { outer = x ∷ later.outer; inner = later.inner; is = ap (λ zs. x ∷ zs) later.is }

-- at the end of a call that asked last for the onset at the position
pub IsTimed-asked : (warps : List (List Part)) (levels : List Level) (time : Timeline) → frames_of time.nest ≡ frames_of levels
    → IsInTime warps (frames_of levels) time.position → ReadyFrom Onset warps time.nest time.position
    → ((xs : List ℕ) → AskedUpTo Ending warps levels xs → AskedUpTo Ending warps time.nest xs)
    → ReadyFrom Ending warps levels time.position → time.tick ≡ composed Onset warps (frames_of levels) time.position
    → IsTimed warps time
IsTimed-asked warps levels time frames fits onsets kept endings tick = record {
  fits = subst (λ (fs : List Frame). IsInTime warps fs time.position) (sym frames) fits;
  onsets = onsets;
  endings = ReadyFrom-kept Ending warps levels time.nest time.position frames kept endings;
  tick = tick ∙ ap (λ (fs : List Frame). composed Onset warps fs time.position) (sym frames);
}

-- a position in the level above, once the innermost is closed
pub IsInTime-left : (warps : List (List Part)) (frames outer : List Frame) (inner : Frame) (x : ℕ)
    → frames ≡ outer ++ inner ∷ [] → IsInTime warps frames x → IsInTime warps outer (lifted Onset warps inner x)
IsInTime-left warps frames outer inner x is fits = at outer is
  where
    whole : (os : List Frame) → frames ≡ os ++ inner ∷ [] → composed Onset warps os (lifted Onset warps inner x) ≤ MAX_TICK
    whole os split =
        subst (λ (n : ℕ). n ≤ MAX_TICK)
        (ap (λ (fs : List Frame). composed Onset warps fs x) split ∙ composed-innermost Onset warps os inner x) fits.within

    at : (os : List Frame) → frames ≡ os ++ inner ∷ [] → IsInTime warps os (lifted Onset warps inner x)
    at [] split = record { fits = whole [] split; within = whole [] split }
    at (o ∷ os) split = record {
      fits = FitsLevels-outer Onset warps o os inner x (subst (λ (fs : List Frame). FitsLevels Onset warps fs x) split fits.fits);
      within = whole (o ∷ os) split;
    }

-- ---- levels of a state

-- as many levels as frames
pub levels_inside-length : (warps : List (List Part)) (fs : List Frame) (ls : List OpenLevel)
    → length (levels_inside warps fs ls) ≡ length fs + length ls
levels_inside-length warps [] ls = let is : length ls ≡ 0 + length ls = omega arith in is
levels_inside-length warps (f ∷ fs) ls =
    levels_inside-length warps fs (level_of warps f ∷ ls)
    ∙ (let is : length fs + suc (length ls) ≡ suc (length fs) + length ls = omega arith in is)

-- the innermost level is that of the last frame
pub levels_inside-last : (warps : List (List Part)) (fs : List Frame) (f : Frame) (ls : List OpenLevel)
    → levels_inside warps (fs ++ f ∷ []) ls ≡ level_of warps f ∷ levels_inside warps fs ls
levels_inside-last warps [] f ls = refl
levels_inside-last warps (x ∷ xs) f ls = levels_inside-last warps xs f (level_of warps x ∷ ls)

-- each frame names a deformation
abbrev pub AreNamed : List (List Part) → List Frame → Type 0
AreNamed warps [] = Unit {0}
AreNamed warps (f ∷ fs) = (f.warp < length warps) × AreNamed warps fs

pub AreNamed-fits : (warps : List (List Part)) (fs : List Frame) (x : ℕ) → FitsLevels Onset warps fs x → AreNamed warps fs
AreNamed-fits warps [] x fits = tt
AreNamed-fits warps (f ∷ fs) x fits = (fits.0, AreNamed-fits warps fs x fits.2)

pub AreNamed-last : (warps : List (List Part)) (fs : List Frame) (f : Frame) → AreNamed warps fs → f.warp < length warps
    → AreNamed warps (fs ++ f ∷ [])
AreNamed-last warps [] f named last = (last, tt)
AreNamed-last warps (x ∷ xs) f named last = (named.0, AreNamed-last warps xs f named.1 last)

-- a position that is held is within the limit
pub held-most : (ls : List OpenLevel) (x : ℕ) → levels_hold ls x ≡ true → x ≤ MAX_TICK
held-most [] x held = most_of x MAX_TICK held
held-most (l ∷ ls) x held = most_of x MAX_TICK (both _ (levels_hold ls (placed Onset l.origin l.parts x)) held).0

-- origins of levels that hold a position are within the limit
pub origins-most : (ls : List OpenLevel) (x : ℕ) → levels_hold ls x ≡ true → All (λ o. o ≤ MAX_TICK) (map (λ l. l.origin) ls)
origins-most [] x held = All-nil (λ o. o ≤ MAX_TICK)
origins-most (l ∷ ls) x held =
    let split = both (nat_le x MAX_TICK) (levels_hold ls (placed Onset l.origin l.parts x)) held in
    All-cons (λ o. o ≤ MAX_TICK) l.origin (map (λ k. k.origin) ls) (omega (arith, held-most ls (placed Onset l.origin l.parts x) split.1))
    (origins-most ls (placed Onset l.origin l.parts x) split.1)

held : (warps : List (List Part)) (fs : List Frame) (ls : List OpenLevel) (x : ℕ) → AreNamed warps fs
    → levels_hold (levels_inside warps fs ls) x ≡ true
    → FitsLevels Onset warps fs x × (levels_hold ls (composed Onset warps fs x) ≡ true)
held warps [] ls x named holds = (held-most ls x holds, holds)
held warps (f ∷ fs) ls x named holds =
    let inside = held warps fs (level_of warps f ∷ ls) x named.1 holds in
    let split = both (nat_le (composed Onset warps fs x) MAX_TICK) (levels_hold ls (composed Onset warps (f ∷ fs) x)) inside.1 in
    ((named.0, most_of _ MAX_TICK split.0, inside.0), split.1)

-- a position that is held in the levels of frames lies in time
pub IsInTime-held : (warps : List (List Part)) (fs : List Frame) (x : ℕ) → AreNamed warps fs
    → levels_hold (levels_inside warps fs []) x ≡ true → IsInTime warps fs x
IsInTime-held warps fs x named holds =
    let all = held warps fs [] x named holds in
    record { fits = all.0; within = most_of _ MAX_TICK all.1 }

-- the limits that a state keeps
pub record Held (w : Standing) : Type 0 where
  pub frames : length w.frames ≤ MAX_FRAMES
  pub levels : length w.levels ≤ MAX_LEVELS
  pub position : levels_hold w.levels w.position ≡ true

pub held_of : (w : Standing) → holds w ≡ true → Held w
held_of w is =
    let split = both (nat_le (length w.frames) MAX_FRAMES && nat_le (length w.levels) MAX_LEVELS) (levels_hold w.levels w.position) is in
    let counts = both (nat_le (length w.frames) MAX_FRAMES) (nat_le (length w.levels) MAX_LEVELS) split.0 in
    record { frames = most_of _ MAX_FRAMES counts.0; levels = most_of _ MAX_LEVELS counts.1; position = split.1 }

-- a later position in the same levels
pub IsInTime-state : (warps : List (List Part)) (fs : List Frame) (w : Standing) (x : ℕ) → AreNamed warps fs → holds w ≡ true
    → levels_inside warps fs [] ≡ w.levels → x ≡ w.position → IsInTime warps fs x
IsInTime-state warps fs w x named is levels position =
    IsInTime-held warps fs x named
    (subst (λ (ls : List OpenLevel). levels_hold ls x ≡ true) (sym levels)
    (subst (λ (y : ℕ). levels_hold w.levels y ≡ true) (sym position) (held_of w is).position))
