-- What operations do to a player in a state.
use Rattle.std.proofs.Common.{◌≡◌, refl, sym, ◌∙◌, ap, subst, arith, ℕ, ℤ, pos, zero, suc, ◌+◌, ◌-◌, ◌<◌, ◌≤◌, List, [], ◌∷◌, ◌++◌, map, length, max, All, nat_lt, true, false, Bool, if◌then◌else◌, Some}
use Rattle.fm_warp.specs.declared.part.Part.{Part}
use Rattle.fm_warp.specs.declared.side.Side.TheVariants.{Onset}
use Rattle.fm_msg.specs.declared.msg.Msg.{Msg}
use Rattle.fm_msg.specs.declared.msg.Msg.TheVariants.{Off}
use Rattle.fm_msg.specs.declared.msg.TheConstants.{DATA_VALUES}
use Rattle.fm_msg.specs.Event.{TimedMessage}
use Rattle.fm_line.specs.Marks.{Mark, mapped, mark_event, has_ending}
use Rattle.fm_nest.specs.declared.frame.Frame.{Frame}
use Rattle.fm_nest.specs.declared.nest.TheConstants.{MAX_LEVELS}
use Rattle.fm_nest.specs.Nesting.{far_composed, lifted_end, composed, frames_of, lifted}
use Rattle.fm_program.specs.declared.op.Point.{Point}
use Rattle.fm_program.specs.declared.op.Point.TheVariants as point
use Rattle.fm_program.specs.declared.op.Span.{Span}
use Rattle.fm_program.specs.declared.op.Count.{Count}
use Rattle.fm_program.specs.declared.op.Draw.{Draw}
use Rattle.fm_program.specs.declared.op.Draw.TheVariants as draw
use Rattle.fm_program.specs.declared.op.TheConstants.{MAX_FRAMES}
use Rattle.fm_program.specs.Fit.{draw_fits, expr_fits, point_fits}
use Rattle.fm_program.specs.Parts.{PlanParts, StockParts}
use Rattle.fm_program.specs.Action.{rest, send, loop, enter, leave, amount_of, duration_of, parts_at, repeats_of, scope_at}
use Rattle.fm_program.specs.State.{OpenLevel, Standing, counting, number_drawn, duration_drawn, repeats_drawn}
use Rattle.fm_program.specs.Run.{done, put_out, level_closed, loop_opened, point_msg}
use Rattle.fm_program.specs.Needs.{holds, levels_hold}
use Rattle.fm_player.specs.declared.draws.Draws.{Draws}
use Rattle.fm_player.specs.declared.frame.Frame.{Frame as OpenFrameItem}
use Rattle.fm_player.specs.declared.pending.Pending.{Pending}
use Rattle.fm_player.specs.declared.player.Player.{Player}
use Rattle.fm_player.specs.declared.timeline.Timeline.{Timeline}
use Rattle.fm_player.specs.Drawing.{DrawsStand, DrawsTo, FramesStand, IsFrame, IsNumber}
use Rattle.fm_player.specs.Timing.{IsInTime, IsTimed, level_of, levels_inside}
use Rattle.fm_player.specs.Sounding.{NoteStands, event_of}
use Rattle.fm_player.specs.Player.{CanDo, Does, IsController, IsReady, Stands, left_by}
use Rattle.fm_player.specs.Course.{step_event}
use Rattle.fm_player.proofs.SoundLemmas.{next_is}
use Rattle.fm_player.proofs.StockLemmas.{below_of, both}
use Rattle.fm_player.proofs.DrawLemmas.{Kept, number-kept, duration-kept, repeats-kept}
use Rattle.fm_player.proofs.TimeLemmas.{AreNamed, AreNamed-fits, AreNamed-last, held_of, Innermost, innermost, IsInTime-held, IsInTime-state, levels_inside-last, levels_inside-length}

-- ---- parts of a state

-- where nothing is due, the levels play no part
pub NoteStands-none : (j : ℕ) (n : Pending) (w v : Standing) → NoteStands j n w → w.due ≡ [] → v.due ≡ [] → NoteStands j n v
NoteStands-none j n w v stands old new =
    ap (map (event_of v.levels)) new ∙ sym (ap (map (event_of w.levels)) old) ∙ stands

-- draws read registers, the generator and frames alone
pub DrawsStand-same : (p : PlanParts) (d : Draws) (w v : Standing) → DrawsStand p.stock d w → v.registers ≡ w.registers
    → v.dice ≡ w.dice → v.frames ≡ w.frames → DrawsStand p.stock d v
DrawsStand-same p d w v stands registers dice frames = record {
  registers = stands.registers ∙ sym registers;
  dice = stands.dice ∙ sym dice;
  frames = subst (λ fs. FramesStand p.stock d.frames.items fs) (sym frames) stands.frames;
}

-- ---- levels

-- the levels in which a player is name deformations
pub named-now : (p : PlanParts) (s : Player) → IsReady p s → AreNamed p.stock.warps (frames_of s.time.nest)
named-now p s ready = AreNamed-fits p.stock.warps (frames_of s.time.nest) s.time.position ready.time.fits.fits

-- a later position in the same levels lies in time
pub later-fits : (p : PlanParts) (s : Player) (w v : Standing) (x : ℕ) → IsReady p s → Stands p s w → holds v ≡ true
    → v.levels ≡ w.levels → x ≡ v.position → IsInTime p.stock.warps (frames_of s.time.nest) x
later-fits p s w v x ready stands is levels position =
    IsInTime-state p.stock.warps (frames_of s.time.nest) v x (named-now p s ready) is (stands.time.levels ∙ sym levels) position

-- a level more is within the limit
pub enter-room : (p : PlanParts) (s : Player) (w : Standing) (warp : ℕ) → CanDo p s w (enter warp (parts_at p.stock warp))
    → length (frames_of s.time.nest) < MAX_LEVELS
enter-room p s w warp can =
    let kept = held_of (left_by (done (enter warp (parts_at p.stock warp)) w) w) can.within in
    omega (arith, kept.levels, levels_inside-length p.stock.warps (frames_of s.time.nest) [], ap length can.stands.time.levels)

enter-levels : (p : PlanParts) (s : Player) (w : Standing) (warp : ℕ) → Stands p s w
    → levels_inside p.stock.warps (frames_of s.time.nest ++ record { warp = warp; origin = s.time.position } ∷ []) []
    ≡ record { warp = warp; parts = parts_at p.stock warp; origin = w.position } ∷ w.levels
enter-levels p s w warp stands =
    levels_inside-last p.stock.warps (frames_of s.time.nest) (record { warp = warp; origin = s.time.position }) []
    ∙ ap (λ (o : ℕ). let l : OpenLevel = record { warp = warp; parts = parts_at p.stock warp; origin = o } in
    l ∷ levels_inside p.stock.warps (frames_of s.time.nest) []) stands.time.position
    ∙ ap (λ (ls : List OpenLevel). record { warp = warp; parts = parts_at p.stock warp; origin = w.position } ∷ ls) stands.time.levels

-- its begin lies in time
pub enter-fits : (p : PlanParts) (s : Player) (w : Standing) (warp : ℕ) → CanDo p s w (enter warp (parts_at p.stock warp))
    → warp < length p.stock.warps
    → IsInTime p.stock.warps (frames_of s.time.nest ++ record { warp = warp; origin = s.time.position } ∷ []) 0
enter-fits p s w warp can there =
    IsInTime-held p.stock.warps _ 0
    (AreNamed-last p.stock.warps (frames_of s.time.nest) _ (named-now p s can.ready) there)
    (subst (λ (ls : List OpenLevel). levels_hold ls 0 ≡ true) (sym (enter-levels p s w warp can.stands))
    (held_of (left_by (done (enter warp (parts_at p.stock warp)) w) w) can.within).position)

-- a level is opened
pub enter-does : (p : PlanParts) (s : Player) (w : Standing) (warp : ℕ) (time : Timeline)
    → CanDo p s w (enter warp (parts_at p.stock warp)) → IsTimed p.stock.warps time
    → frames_of time.nest ≡ frames_of s.time.nest ++ record { warp = warp; origin = s.time.position } ∷ [] → time.position ≡ 0
    → Does p s (record s { operation = s.operation + 1; time = time }) w (enter warp (parts_at p.stock warp))
enter-does p s w warp time can timed frames position = record {
  process = refl;
  made = refl;
  ready = record { frames = can.ready.frames; time = timed; note = can.ready.note; few = can.ready.few };
  stands = record {
    process = can.stands.process;
    operation = ap (λ n. n + 1) can.stands.operation;
    index = can.stands.index;
    draws = DrawsStand-same p s.draws w _ can.stands.draws refl refl refl;
    time = record {
      position = position;
      levels = ap (λ (fs : List Frame). levels_inside p.stock.warps fs []) frames ∙ enter-levels p s w warp can.stands;
    };
    note = NoteStands-none s.process s.note w (left_by (done (enter warp (parts_at p.stock warp)) w) w) can.stands.note can.due can.due;
  };
  index = omega arith;
}

-- the innermost level is closed
pub leave-does : (p : PlanParts) (s : Player) (w : Standing) (time : Timeline)
    → CanDo p s w leave → IsTimed p.stock.warps time
    → ((outer : List Frame) (inner : Frame) → frames_of s.time.nest ≡ outer ++ inner ∷ [] → frames_of time.nest ≡ outer)
    → ((outer : List Frame) (inner : Frame) → frames_of s.time.nest ≡ outer ++ inner ∷ []
    → time.position ≡ lifted Onset p.stock.warps inner s.time.position)
    → 0 < length (frames_of s.time.nest)
    → Does p s (record s { operation = s.operation + 1; time = time }) w leave
leave-does p s w time can timed frames position some = record {
  process = refl;
  made = refl;
  ready = record { frames = can.ready.frames; time = timed; note = can.ready.note; few = can.ready.few };
  stands = at (innermost (frames_of s.time.nest) some);
  index = omega arith;
}
  where
    at : Innermost (frames_of s.time.nest) → Stands p (record s { operation = s.operation + 1; time = time }) (level_closed w w.levels)
    at split =
        let warps = p.stock.warps in
        let levels : w.levels ≡ level_of warps split.inner ∷ levels_inside warps split.outer [] =
        sym can.stands.time.levels
        ∙ ap (λ (fs : List Frame). levels_inside warps fs []) split.is
        ∙ levels_inside-last warps split.outer split.inner [] in
        subst (λ (ls : List OpenLevel). Stands p (record s { operation = s.operation + 1; time = time }) (level_closed w ls)) (sym levels)
        (record {
          process = can.stands.process;
          operation = ap (λ n. n + 1) can.stands.operation;
          index = can.stands.index;
          draws = DrawsStand-same p s.draws w (level_closed w (level_of warps split.inner ∷ levels_inside warps split.outer []))
              can.stands.draws refl refl refl;
          time = record {
            position = position split.outer split.inner split.is
                ∙ ap (λ (x : ℕ). lifted Onset warps split.inner x) can.stands.time.position;
            levels = ap (λ (fs : List Frame). levels_inside warps fs []) (frames split.outer split.inner split.is);
          };
          note = NoteStands-none s.process s.note w (level_closed w (level_of warps split.inner ∷ levels_inside warps split.outer []))
              can.stands.note can.due can.due;
        })

-- where a level can be left, one is open
pub leave-some : (p : PlanParts) (s : Player) (w : Standing) → CanDo p s w leave → 0 < length (frames_of s.time.nest)
leave-some p s w can =
    omega (
      arith,
      below_of 0 (length w.levels) can.opened,
      levels_inside-length p.stock.warps (frames_of s.time.nest) [],
      ap length can.stands.time.levels,
    )

-- a rest that is drawn from tables that are the plan's lies in time
pub rest-fits : (p : PlanParts) (s : Player) (w : Standing) (span : Span) (scope : ℕ) (u : StockParts) (new : Draws) (ticks : ℕ)
    → CanDo p s w (rest (duration_of p.stock span) (scope_at p.stock scope)) → u ≡ p.stock
    → DrawsTo u s.draws new ticks (duration_drawn (duration_of u span) (scope_at u scope))
    → IsInTime p.stock.warps (frames_of s.time.nest) (s.time.position + ticks)
rest-fits p s w span scope u new ticks can is draws =
    let d = duration_drawn (duration_of p.stock span) (scope_at p.stock scope) w in
    let drawn = subst (λ (v : StockParts). DrawsTo v s.draws new ticks (duration_drawn (duration_of v span) (scope_at v scope))) is draws in
    later-fits p s w (left_by (done (rest (duration_of p.stock span) (scope_at p.stock scope)) w) w) (s.time.position + ticks) can.ready
    can.stands can.within (duration-kept (duration_of p.stock span) (scope_at p.stock scope) w).levels
    (let is : s.time.position + ticks ≡ w.position + d.value =
    omega (arith, can.stands.time.position, drawn.value w can.stands.draws) in is)

-- ---- marks

mapped-twice : (f g h k : ℕ → ℕ) (m : Mark) → mapped f g (mapped h k m) ≡ mapped (λ x. f (h x)) (λ x. g (k x)) m
mapped-twice f g h k m = at (has_ending m.msg)
  where
    at : (b : Bool)
        → (let a : Mark = record m {
          onset = f (h m.onset);
          ending = (if b then g (if b then k m.ending else h m.ending) else f (if b then k m.ending else h m.ending));
        } in a)
        ≡ record m { onset = f (h m.onset); ending = (if b then g (k m.ending) else f (h m.ending)) }
    at true = refl
    at false = refl

-- frames put a mark where their levels do
pub put_out-frames : (warps : List (List Part)) (fs : List Frame) (ls : List OpenLevel) (m : Mark)
    → put_out (levels_inside warps fs ls) m ≡ put_out ls (mapped (composed Onset warps fs) (far_composed warps fs) m)
put_out-frames warps [] ls m = ap (put_out ls) (sym (at (has_ending m.msg)))
  where
    at : (b : Bool) → (let a : Mark = record m { onset = m.onset; ending = (if b then m.ending else m.ending) } in a) ≡ m
    at true = refl
    at false = refl
put_out-frames warps (f ∷ fs) ls m =
    put_out-frames warps fs (level_of warps f ∷ ls) m
    ∙ ap (put_out ls) (mapped-twice (lifted Onset warps f) (lifted_end warps f) (composed Onset warps fs) (far_composed warps fs) m)

-- ---- frames

-- no more frames are open than the limit allows
pub few-held : (p : PlanParts) (s : Player) (w : Standing) → Stands p s w → holds w ≡ true
    → length s.draws.frames.items ≤ MAX_FRAMES
few-held p s w stands is = omega (arith, (held_of w is).frames, stands.draws.frames.count)

-- frames that are the same can be gone on with
pub frames-same : (p : PlanParts) (s : Player) (d : Draws) (u : StockParts) → IsReady p s → d.frames ≡ s.draws.frames → u ≡ p.stock
    → All (IsFrame u) d.frames.items
frames-same p s d u ready same is =
    subst (λ (t : StockParts). All (IsFrame t) d.frames.items) (sym is)
    (subst (λ (fs : List OpenFrameItem). All (IsFrame p.stock) fs) (sym (ap (λ fs. fs.items) same)) ready.frames)

loop-stands : (p : PlanParts) (s : Player) (w x : Standing) (e : Draws) (rounds k past : ℕ) → Stands p s w → Kept w x → w.due ≡ []
    → rounds ≡ k → (rounds ≡ 0 → ⊥)
    → DrawsStand p.stock e (record x { frames = counting 0 (rounds - 1) (s.operation + 1) ∷ x.frames })
    → Stands p (record s { operation = s.operation + 1; draws = e }) (loop_opened k past x)
loop-stands p s w x e rounds zero past stands kept due is some pushed = absurd (some is)
loop-stands p s w x e rounds (suc m) past stands kept due is some pushed =
    let left : rounds - 1 ≡ m = omega arith in
    let place : s.operation + 1 ≡ x.operation + 1 = omega (arith, stands.operation, kept.operation) in
    record {
      process = kept.process ∙ stands.process;
      operation = place;
      index = stands.index ∙ sym kept.index;
      draws = record {
        registers = pushed.registers;
        dice = pushed.dice;
        frames = subst (λ (n : ℕ). FramesStand p.stock e.frames.items (counting 0 m n ∷ x.frames)) place
            (subst (λ (n : ℕ). FramesStand p.stock e.frames.items (counting 0 n (s.operation + 1) ∷ x.frames)) left pushed.frames);
      };
      time = record {
        position = stands.time.position ∙ sym kept.position;
        levels = stands.time.levels ∙ sym kept.levels;
      };
      note = NoteStands-none s.process s.note w (loop_opened (suc m) past x) stands.note due (kept.due ∙ due);
    }

-- a loop of some rounds is opened
pub loop-does : (p : PlanParts) (s : Player) (w : Standing) (count : Count) (scope past : ℕ) (u v : StockParts) (d e : Draws) (rounds : ℕ)
    → CanDo p s w (loop (repeats_of p.stock count) (scope_at p.stock scope) past) → u ≡ p.stock → v ≡ p.stock
    → DrawsTo u s.draws d rounds (repeats_drawn (repeats_of u count) (scope_at u scope)) → (rounds ≡ 0 → ⊥)
    → ((x : Standing) → DrawsStand v d x → DrawsStand v e (record x { frames = counting 0 (rounds - 1) (s.operation + 1) ∷ x.frames }))
    → All (IsFrame v) e.frames.items
    → Does p s (record s { operation = s.operation + 1; draws = e }) w (loop (repeats_of p.stock count) (scope_at p.stock scope) past)
loop-does p s w count scope past u v d e rounds can ut vt draws some opens frames =
    let n = repeats_drawn (repeats_of p.stock count) (scope_at p.stock scope) w in
    let drawn = subst (λ (x : StockParts). DrawsTo x s.draws d rounds (repeats_drawn (repeats_of x count) (scope_at x scope))) ut draws in
    let kept = repeats-kept (repeats_of p.stock count) (scope_at p.stock scope) w in
    let pushed =
    subst (λ (x : StockParts). DrawsStand x e (record n.after { frames = counting 0 (rounds - 1) (s.operation + 1) ∷ n.after.frames })) vt
    (opens n.after (subst (λ (x : StockParts). DrawsStand x d n.after) (sym vt) (drawn.after w can.stands.draws))) in
    let stands = loop-stands p s w n.after e rounds n.value past can.stands kept can.due (drawn.value w can.stands.draws) some pushed in
    record {
      process = refl;
      made = refl;
      ready = record {
        frames = subst (λ (x : StockParts). All (IsFrame x) e.frames.items) vt frames;
        time = can.ready.time;
        note = can.ready.note;
        few = few-held p (record s { operation = s.operation + 1; draws = e }) (loop_opened n.value past n.after) stands can.within;
      };
      stands = stands;
      index = omega arith;
    }

-- where a loop of no rounds leads
loop-passed : (p : PlanParts) (s : Player) (w x : Standing) (d : Draws) (k past : ℕ) → Stands p s w → Kept w x → w.due ≡ []
    → k ≡ 0 → DrawsStand p.stock d x → Stands p (record s { operation = past; draws = d }) (loop_opened k past x)
loop-passed p s w x d zero past stands kept due none drawn = record {
  process = kept.process ∙ stands.process;
  operation = refl;
  index = stands.index ∙ sym kept.index;
  draws = record { registers = drawn.registers; dice = drawn.dice; frames = drawn.frames };
  time = record {
    position = stands.time.position ∙ sym kept.position;
    levels = stands.time.levels ∙ sym kept.levels;
  };
  note = NoteStands-none s.process s.note w (loop_opened zero past x) stands.note due (kept.due ∙ due);
}
loop-passed p s w x d (suc k) past stands kept due none drawn = absurd (omega arith)

-- a loop of no rounds is passed over
pub loop-skips : (p : PlanParts) (s : Player) (w : Standing) (count : Count) (scope past : ℕ) (u : StockParts) (d : Draws) (rounds : ℕ)
    → CanDo p s w (loop (repeats_of p.stock count) (scope_at p.stock scope) past) → u ≡ p.stock
    → DrawsTo u s.draws d rounds (repeats_drawn (repeats_of u count) (scope_at u scope)) → d.frames ≡ s.draws.frames
    → rounds ≡ 0
    → Does p s (record s { operation = past; draws = d }) w (loop (repeats_of p.stock count) (scope_at p.stock scope) past)
loop-skips p s w count scope past u d rounds can ut draws same none =
    let n = repeats_drawn (repeats_of p.stock count) (scope_at p.stock scope) w in
    let drawn = subst (λ (x : StockParts). DrawsTo x s.draws d rounds (repeats_drawn (repeats_of x count) (scope_at x scope))) ut draws in
    let kept = repeats-kept (repeats_of p.stock count) (scope_at p.stock scope) w in
    let value : n.value ≡ 0 = sym (drawn.value w can.stands.draws) ∙ none in
    let stands = loop-passed p s w n.after d n.value past can.stands kept can.due value (drawn.after w can.stands.draws) in
    record {
      process = refl;
      made = refl;
      ready = record {
        frames = frames-same p s d p.stock can.ready same refl;
        time = can.ready.time;
        note = can.ready.note;
        few = few-held p (record s { operation = past; draws = d }) (loop_opened n.value past n.after) stands can.within;
      };
      stands = stands;
      index = omega arith;
    }

-- ---- messages

pub point-plain : (pt : Point) (ch : ℕ) (v : ℤ) → has_ending (Some (point_msg pt ch v)) ≡ false
point-plain (point.Control c) ch v = refl
point-plain point.Program ch v = refl
point-plain point.Bend ch v = refl

-- the event of a mark that is no note-off
pub plain-event : (warps : List (List Part)) (fs : List Frame) (ls : List OpenLevel) (j i x y : ℕ) (m : Msg)
    → has_ending (Some m) ≡ false → levels_inside warps fs [] ≡ ls
    → event_of ls (record { process = j; index = i; msg = Some m; onset = x; ending = y })
    ≡ Some (record { time = composed Onset warps fs x; process = j; index = i; msg = m })
plain-event warps fs ls j i x y m plain levels =
    ap (λ (l : List OpenLevel). event_of l (record { process = j; index = i; msg = Some m; onset = x; ending = y })) (sym levels)
    ∙ ap mark_event (put_out-frames warps fs [] (record { process = j; index = i; msg = Some m; onset = x; ending = y }))
    ∙ rw plain refl

-- the event of a note-off
pub off-event : (warps : List (List Part)) (fs : List Frame) (ls : List OpenLevel) (j i x y ch key : ℕ)
    → levels_inside warps fs [] ≡ ls
    → event_of ls (record { process = j; index = i; msg = Some (Off ch key); onset = x; ending = y })
    ≡ Some (record { time = max (composed Onset warps fs x) (far_composed warps fs y); process = j; index = i; msg = Off ch key })
off-event warps fs ls j i x y ch key levels =
    ap (λ (l : List OpenLevel). event_of l (record { process = j; index = i; msg = Some (Off ch key); onset = x; ending = y })) (sym levels)
    ∙ ap mark_event (put_out-frames warps fs [] (record { process = j; index = i; msg = Some (Off ch key); onset = x; ending = y }))

-- the number of a point is written out or an expression
pub point-number : (t : StockParts) (loops : ℕ) (pt : Point) (x : Draw) → point_fits t loops pt x ≡ true → IsNumber t loops x
point-number t loops pt (draw.Fixed v) fits = tt
point-number t loops (point.Control c) (draw.Drawn e) fits = (both (nat_lt c DATA_VALUES) (expr_fits t loops e) fits).1
point-number t loops point.Program (draw.Drawn e) fits = fits
point-number t loops point.Bend (draw.Drawn e) fits = fits

pub point-controller : (t : StockParts) (loops : ℕ) (pt : Point) (x : Draw) → point_fits t loops pt x ≡ true → IsController pt
point-controller t loops (point.Control c) x fits =
    below_of c DATA_VALUES (both (nat_lt c DATA_VALUES) (draw_fits t loops (pos 0) (pos (DATA_VALUES - 1)) x) fits).0
point-controller t loops point.Program x fits = tt
point-controller t loops point.Bend x fits = tt

-- a message is sent
pub send-does : (p : PlanParts) (s : Player) (w : Standing) (pt : Point) (ch : ℕ) (x : Draw) (scope : ℕ) (u : StockParts)
    (d : Draws) (value : ℤ)
    → CanDo p s w (send pt ch (amount_of p.stock x) (scope_at p.stock scope)) → u ≡ p.stock
    → DrawsTo u s.draws d value (number_drawn (amount_of u x) (scope_at u scope)) → d.frames ≡ s.draws.frames
    → Does p s (record s { operation = s.operation + 1; index = s.index + 1; draws = d }) w
    (send pt ch (amount_of p.stock x) (scope_at p.stock scope))
send-does p s w pt ch x scope u d value can ut draws frames =
    let v = number_drawn (amount_of p.stock x) (scope_at p.stock scope) w in
    let drawn = subst (λ (t : StockParts). DrawsTo t s.draws d value (number_drawn (amount_of t x) (scope_at t scope))) ut draws in
    let kept = number-kept (amount_of p.stock x) (scope_at p.stock scope) w in
    record {
      process = refl;
      made = refl;
      ready = record {
        frames = frames-same p s d p.stock can.ready frames refl;
        time = can.ready.time;
        note = can.ready.note;
        few = subst (λ (fs : List OpenFrameItem). length fs ≤ MAX_FRAMES) (sym (ap (λ fs. fs.items) frames)) can.ready.few;
      };
      stands = record {
        process = kept.process ∙ can.stands.process;
        operation = ap (λ n. n + 1) can.stands.operation;
        index = ap (λ n. n + 1) can.stands.index;
        draws = DrawsStand-same p d v.after (record v.after { operation = w.operation + 1; index = w.index + 1 })
            (drawn.after w can.stands.draws)
            refl refl refl;
        time = record {
          position = can.stands.time.position ∙ sym kept.position;
          levels = can.stands.time.levels ∙ sym kept.levels;
        };
        note = NoteStands-none s.process s.note w (record v.after { operation = w.operation + 1; index = w.index + 1 }) can.stands.note
            can.due
            (kept.due ∙ can.due);
      };
      index = omega arith;
    }

event_is : (t t' j j' i i' : ℕ) (m m' : Msg) → t ≡ t' → j ≡ j' → i ≡ i' → m ≡ m'
    → (let a : TimedMessage = record { time = t; process = j; index = i; msg = m } in a)
    ≡ record { time = t'; process = j'; index = i'; msg = m' }
event_is t t' j j' i i' m m' et ej ei em =
    next_is t t' j i i' m m' et ei em
    ∙ ap (λ (x : ℕ). let a : TimedMessage = record { time = t'; process = x; index = i'; msg = m' } in a) ej

pub send-event : (p : PlanParts) (s : Player) (w : Standing) (pt : Point) (ch : ℕ) (x : Draw) (scope : ℕ) (u : StockParts)
    (d : Draws) (value : ℤ)
    (m : Msg) (e : TimedMessage)
    → CanDo p s w (send pt ch (amount_of p.stock x) (scope_at p.stock scope)) → u ≡ p.stock
    → DrawsTo u s.draws d value (number_drawn (amount_of u x) (scope_at u scope)) → m ≡ point_msg pt ch value
    → e ≡ record { time = s.time.tick; process = s.process; index = s.index; msg = m }
    → step_event (done (send pt ch (amount_of p.stock x) (scope_at p.stock scope)) w) ≡ Some e
send-event p s w pt ch x scope u d value m e can ut draws is made =
    let v = number_drawn (amount_of p.stock x) (scope_at p.stock scope) w in
    let drawn = subst (λ (t : StockParts). DrawsTo t s.draws d value (number_drawn (amount_of t x) (scope_at t scope))) ut draws in
    let msg : point_msg pt ch v.value ≡ m = sym (is ∙ ap (point_msg pt ch) (drawn.value w can.stands.draws)) in
    let tick : composed Onset p.stock.warps (frames_of s.time.nest) w.position ≡ s.time.tick =
    ap (composed Onset p.stock.warps (frames_of s.time.nest)) (sym can.stands.time.position) ∙ sym can.ready.time.tick in
    plain-event p.stock.warps (frames_of s.time.nest) w.levels w.process w.index w.position w.position (point_msg pt ch v.value)
    (point-plain pt ch v.value) can.stands.time.levels
    ∙ ap (λ (a : TimedMessage). Some a)
    (event_is _ _ _ _ _ _ _ _ tick can.stands.process (sym can.stands.index) msg ∙ sym made)
