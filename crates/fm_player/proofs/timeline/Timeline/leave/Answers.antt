use Rattle.std.proofs.Common.{◌≡◌, ℕ, List, [], ◌∷◌, ◌++◌, sym, ap, ◌∙◌, subst}
use Rattle.fm_warp.specs.declared.part.Part.{Part}
use Rattle.fm_warp.specs.declared.side.Side.{Side}
use Rattle.fm_warp.specs.declared.side.Side.TheVariants.{Onset, Ending}
use Rattle.fm_nest.specs.declared.frame.Frame.{Frame}
use Rattle.fm_nest.specs.declared.level.Level.{Level}
use Rattle.fm_nest.specs.Nesting.{frames_of, lifted}
use Rattle.fm_nest.specs.Readiness.{AskedUpTo, ReadyFrom}
use Rattle.fm_nest.proofs.ReadinessLemmas.{ReadyFrom-leave}
use Rattle.fm_player.proofs.TimeLemmas.{innermost, IsInTime-left, IsTimed-asked}
use Rattle.fm_player.proofs.timeline.Timeline.leave.Goals as goal

-- where the innermost level ends, those round it may go on
left_ready : (side : Side) (warps : List (List Part)) (olds news : List Level) (outer : List Frame) (inner : Frame) (x y : ℕ)
    → frames_of olds ≡ outer ++ inner ∷ [] → frames_of news ≡ outer → y ≡ lifted Onset warps inner x
    → ((xs : List ℕ) (z : ℕ) → AskedUpTo side warps olds (xs ++ z ∷ []) → AskedUpTo side warps news xs)
    → ReadyFrom side warps olds x → ReadyFrom side warps news y
left_ready side warps olds news outer inner x y split left is asked from =
    subst (ReadyFrom side warps news) (sym is)
    (ReadyFrom-leave side warps olds news inner x (split ∙ ap (λ (fs : List Frame). fs ++ inner ∷ []) (sym left)) asked from)

pub onset-self-requires-clause-fits : goal.onset-self-requires-clause-fits
onset-self-requires-clause-fits c =
    let split = innermost (frames_of c.args.self.now.nest) c.requires.«open» in
    let left = IsInTime-left c.args.warps.now (frames_of c.args.self.now.nest) split.outer split.inner c.args.self.now.position split.is
    c.requires.timed.fits in
    rw (c.leave-self.ensures.frames split.outer split.inner split.is, c.leave-self.ensures.value split.outer split.inner split.is) left.fits

pub onset-self-requires-clause-ready : goal.onset-self-requires-clause-ready
onset-self-requires-clause-ready c =
    let split = innermost (frames_of c.args.self.now.nest) c.requires.«open» in
    left_ready Onset c.args.warps.now c.args.self.now.nest c.leave-self.new.self split.outer split.inner c.args.self.now.position _
    split.is (c.leave-self.ensures.frames split.outer split.inner split.is)
    (c.leave-self.ensures.value split.outer split.inner split.is)
    (c.leave-self.ensures.asked Onset c.args.warps.now) c.requires.timed.onsets

pub returns-clause-timed : goal.returns-clause-timed
returns-clause-timed c =
    let split = innermost (frames_of c.args.self.now.nest) c.requires.«open» in
    let left = IsInTime-left c.args.warps.now (frames_of c.args.self.now.nest) split.outer split.inner c.args.self.now.position split.is
    c.requires.timed.fits in
    let frames = c.leave-self.ensures.frames split.outer split.inner split.is in
    let value = c.leave-self.ensures.value split.outer split.inner split.is in
    IsTimed-asked c.args.warps.now c.leave-self.new.self _ c.onset-self.ensures.frames
    (rw (frames, value) left)
    c.onset-self.ensures.ready (c.onset-self.ensures.other c.args.warps.now)
    (left_ready Ending c.args.warps.now c.args.self.now.nest c.leave-self.new.self split.outer split.inner c.args.self.now.position _
    split.is frames value (c.leave-self.ensures.asked Ending c.args.warps.now) c.requires.timed.endings)
    c.onset-self.ensures.value
