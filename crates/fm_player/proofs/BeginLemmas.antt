-- A player at the start of its process.
use Rattle.std.proofs.Common.{◌≡◌, refl, sym, ◌∙◌, ap, subst, arith, ℕ, suc, pos, ◌+◌, ◌%◌, ◌^◌, Some, ◌<◌, ◌≤◌, List, [], ◌∷◌, ◌++◌, length, map, max, reverse, replicate, All, Bool, true, false, ◌&&◌, nat_lt, nat_le, if◌then◌else◌, slice_index_or}
use Rattle.std.specs.List.{list_all}
use Rattle.std.proofs.lemmas.List.Elements.{All-append, All-cons, All-nil, All-replicate}
use Rattle.fm_tick.specs.declared.tick.TheConstants.{MAX_TICK}
use Rattle.fm_warp.specs.declared.part.Part.{Part}
use Rattle.fm_line.specs.Line.{greatest, line, start}
use Rattle.fm_line.specs.Sounds.{come_out, numbered}
use Rattle.fm_nest.specs.declared.frame.Frame.{Frame}
use Rattle.fm_nest.specs.declared.nest.TheConstants.{MAX_LEVELS}
use Rattle.fm_nest.specs.declared.place.Place.{Place}
use Rattle.fm_nest.specs.Nesting.{framed}
use Rattle.fm_program.specs.declared.op.TheConstants.{MAX_FRAMES}
use Rattle.fm_program.specs.Parts.{StockParts, PlanParts, no_program, process_program}
use Rattle.fm_program.specs.State.{OpenLevel, Standing}
use Rattle.fm_program.specs.Needs.{levels_hold}
use Rattle.fm_program.specs.Process.{Spot, end_spot, levels_opened, outset, plan_lines, plan_played, process_run, spot_reached, start_spot}
use Rattle.fm_program.specs.Fit.{PartsFit, ends_in, ops_fit, program_fits, same_numbers}
use Rattle.fm_value.specs.declared.registers.TheConstants.{REGISTERS}
use Rattle.fm_nest.specs.Nesting.{frames_of}
use Rattle.fm_program.specs.Action.{list_at}
use Rattle.fm_program.specs.State.{OpenFrame, cycling}
use Rattle.fm_program.specs.Run.{Run}
use Rattle.fm_program.specs.Process.{cycles_opened}
use Rattle.fm_program.proofs.Lines.{plan-lines-waits}
use Rattle.fm_player.specs.declared.draws.Draws.{Draws}
use Rattle.fm_player.specs.declared.pending.Pending.{Pending}
use Rattle.fm_player.specs.declared.timeline.Timeline.{Timeline}
use Rattle.fm_player.specs.Drawing.{DrawsStand, IsFrame}
use Rattle.fm_player.specs.Sounding.{IsPending, pending_events}
use Rattle.fm_player.specs.Player.{InCourse}
use Rattle.fm_player.specs.Ahead.{event_sound}
use Rattle.fm_player.specs.Course.{begun, mark_events, start_place, tick_of, to_come}
use Rattle.fm_player.specs.Timing.{IsInTime, IsTimed, level_of, levels_inside}
use Rattle.fm_player.proofs.StockLemmas.{below_of, both, list_all-at, most_of, past_of}
use Rattle.fm_player.proofs.TimeLemmas.{AreNamed, IsInTime-held, origins-most}
use Rattle.fm_player.proofs.TickLemmas.{on_tick, on_tick-mono, position-tick}
use Rattle.fm_player.proofs.CourseLemmas.{process-as}
use Rattle.fm_player.proofs.StartLemmas.{reopened, same-of, sound-last, sound-start, start-depth, waits}
use Rattle.fm_player.proofs.LineLemmas.{line-end}
use Rattle.fm_player.proofs.TurnLemmas.{line-events}

-- ---- levels at a start

-- levels that are opened are those of frames
opened-frames : (t : StockParts) (ws os : List ℕ) (ls : List OpenLevel)
    → levels_opened t ws os ls ≡ levels_inside t.warps (framed ws os) ls
opened-frames t [] os ls = refl
opened-frames t (w ∷ ws) [] ls = refl
opened-frames t (w ∷ ws) (o ∷ os) ls = opened-frames t ws os (level_of t.warps (record { warp = w; origin = o }) ∷ ls)

-- more origins than levels play no part
framed-more : (ws os more : List ℕ) → length ws ≡ length os → framed ws (os ++ more) ≡ framed ws os
framed-more [] os more same = refl
framed-more (w ∷ ws) [] more same = absurd (omega arith)
framed-more (w ∷ ws) (o ∷ os) more same =
    ap (λ (fs : List Frame). record { warp = w; origin = o } ∷ fs) (framed-more ws os more (omega arith))

framed-named : (warps : List (List Part)) (ws os : List ℕ) → list_all (λ w. nat_lt w (length warps)) ws ≡ true
    → AreNamed warps (framed ws os)
framed-named warps [] os named = tt
framed-named warps (w ∷ ws) [] named = tt
framed-named warps (w ∷ ws) (o ∷ os) named =
    let split = both (nat_lt w (length warps)) (list_all (λ v. nat_lt v (length warps)) ws) named in
    (below_of w (length warps) split.0, framed-named warps ws os split.1)

-- what is open at a start is within its limits, and named
pub record Opens (p : PlanParts) (j : ℕ) : Type 0 where
  pub cycles : length (process_program p j).cycles ≤ MAX_FRAMES
  pub lists : list_all (λ c. nat_lt c (length p.stock.lists)) (process_program p j).cycles ≡ true
  pub levels : length (process_program p j).levels ≤ MAX_LEVELS
  pub warps : list_all (λ w. nat_lt w (length p.stock.warps)) (process_program p j).levels ≡ true

pub opens : (p : PlanParts) (j : ℕ) → PartsFit p → j < length p.programs → Opens p j
opens p j fits below =
    let g = process_program p j in
    let t = p.stock in
    let c0 = ops_fit t (length g.ops) 0 g.ops in
    let c1 = nat_le (length g.cycles) MAX_FRAMES in
    let c2 = list_all (λ c. nat_lt c (length t.lists)) g.cycles in
    let c3 = nat_le (length g.levels) MAX_LEVELS in
    let c4 = list_all (λ w. nat_lt w (length t.warps)) g.levels in
    let a = both (c0 && c1 && c2 && c3) c4 (list_all-at (program_fits t) p.programs j no_program fits.programs below) in
    let b = both (c0 && c1 && c2) c3 a.0 in
    let c = both (c0 && c1) c2 b.0 in
    record {
      cycles = most_of (length g.cycles) MAX_FRAMES (both c0 c1 c.0).1;
      lists = c.1;
      levels = most_of (length g.levels) MAX_LEVELS b.1;
      warps = a.1;
    }

pub named-all : (n : ℕ) (xs : List ℕ) → list_all (λ x. nat_lt x n) xs ≡ true → All (λ x. x < n) xs
named-all n xs named = λ k d below. below_of (slice_index_or xs k d) n (list_all-at (λ x. nat_lt x n) xs k d named below)

-- the levels round others are among all
kept-inside : (warps : List (List Part)) (fs : List Frame) (ls : List OpenLevel)
    → All (λ o. o ≤ MAX_TICK) (map (λ l. l.origin) (levels_inside warps fs ls)) → All (λ o. o ≤ MAX_TICK) (map (λ l. l.origin) ls)
kept-inside warps [] ls all = all
kept-inside warps (f ∷ fs) ls all =
    let whole = kept-inside warps fs (level_of warps f ∷ ls) all in λ k d below. whole (suc k) d (omega arith)

below-inside : (warps : List (List Part)) (fs : List Frame) (f : Frame) (ls : List OpenLevel)
    → All (λ o. o ≤ MAX_TICK) (map (λ l. l.origin) (levels_inside warps fs (level_of warps f ∷ ls))) → f.origin ≤ MAX_TICK
below-inside warps fs f ls all = kept-inside warps fs (level_of warps f ∷ ls) all 0 0 (omega arith)

inside-origins : (warps : List (List Part)) (fs : List Frame) (ls : List OpenLevel)
    → All (λ o. o ≤ MAX_TICK) (map (λ l. l.origin) (levels_inside warps fs ls)) → All (λ o. o ≤ MAX_TICK) (map (λ f. f.origin) fs)
inside-origins warps [] ls all = All-nil (λ o. o ≤ MAX_TICK)
inside-origins warps (f ∷ fs) ls all =
    All-cons (λ o. o ≤ MAX_TICK) f.origin (map (λ g. g.origin) fs) (below-inside warps fs f ls all)
    (inside-origins warps fs (level_of warps f ∷ ls) all)

framed-origins : (ws os : List ℕ) → length ws ≡ length os → map (λ f. f.origin) (framed ws os) ≡ os
framed-origins [] [] same = refl
framed-origins [] (o ∷ os) same = absurd (omega arith)
framed-origins (w ∷ ws) [] same = absurd (omega arith)
framed-origins (w ∷ ws) (o ∷ os) same = ap (λ (xs : List ℕ). o ∷ xs) (framed-origins ws os (omega arith))

-- ---- a place where the process starts

pub begin-depth : (p : PlanParts) (j : ℕ) (place : Place) → PartsFit p → j < length p.programs → place ≡ start_place p j
    → length (process_program p j).levels ≡ place.depth
unfolding start_place
begin-depth p j place fits below is = start-depth p j fits below ∙ sym (ap (λ (x : Place). x.depth) is)

pub begin-frames : (p : PlanParts) (j : ℕ) (place : Place) → PartsFit p → j < length p.programs → place ≡ start_place p j
    → framed (process_program p j).levels place.origins ≡ framed (process_program p j).levels (process_run p j).start.origins
unfolding start_place
begin-frames p j place fits below is =
    ap (λ (x : Place). framed (process_program p j).levels x.origins) is
    ∙ framed-more (process_program p j).levels (process_run p j).start.origins _ (start-depth p j fits below)

pub begin-levels : (p : PlanParts) (j : ℕ) (place : Place) → PartsFit p → j < length p.programs → place ≡ start_place p j
    → levels_inside p.stock.warps (framed (process_program p j).levels place.origins) [] ≡ (begun p j).levels
begin-levels p j place fits below is =
    ap (λ (fs : List Frame). levels_inside p.stock.warps fs []) (begin-frames p j place fits below is)
    ∙ sym (opened-frames p.stock (process_program p j).levels (process_run p j).start.origins [])

pub begin-position : (p : PlanParts) (j : ℕ) (place : Place) → place ≡ start_place p j → place.position ≡ (begun p j).position
unfolding start_place
begin-position p j place is = ap (λ (x : Place). x.position) is

pub begin-fits : (p : PlanParts) (j : ℕ) (place : Place) → PartsFit p → j < length p.programs → place ≡ start_place p j
    → IsInTime p.stock.warps (framed (process_program p j).levels place.origins) place.position
begin-fits p j place fits below is =
    IsInTime-held p.stock.warps (framed (process_program p j).levels place.origins) place.position
    (framed-named p.stock.warps (process_program p j).levels place.origins (opens p j fits below).warps)
    (ap (λ (ls : List OpenLevel). levels_hold ls place.position) (begin-levels p j place fits below is)
    ∙ ap (levels_hold (begun p j).levels) (begin-position p j place is) ∙ (sound-start p j fits below).hold)

pub begin-limited : (p : PlanParts) (j : ℕ) (place : Place) → PartsFit p → j < length p.programs → place ≡ start_place p j
    → All (λ o. o ≤ MAX_TICK) place.origins
unfolding start_place
begin-limited p j place fits below is =
    subst (λ (x : Place). All (λ o. o ≤ MAX_TICK) x.origins) (sym is)
    (All-append (λ o. o ≤ MAX_TICK) (process_run p j).start.origins _
    (subst (All (λ o. o ≤ MAX_TICK))
    (framed-origins (process_program p j).levels (process_run p j).start.origins (start-depth p j fits below))
    (inside-origins p.stock.warps (framed (process_program p j).levels (process_run p j).start.origins) []
    (subst (λ (ls : List OpenLevel). All (λ o. o ≤ MAX_TICK) (map (λ l. l.origin) ls))
    (opened-frames p.stock (process_program p j).levels (process_run p j).start.origins [])
    (origins-most (begun p j).levels (begun p j).position (sound-start p j fits below).hold))))
    (All-replicate (λ o. o ≤ MAX_TICK) _ 0 (omega arith)))

-- ---- the tick of a start

-- the greatest of the ends is where the latest one puts it
meeting-tick : (p : PlanParts) (ls : List OpenLevel) (js : List ℕ) (q : ℕ) → (end : ℕ → ℕ)
    → ((k : ℕ) → k < length (q ∷ js)
    → end (slice_index_or (q ∷ js) k 0) ≡ on_tick ls (end_spot (plan_played p) (slice_index_or (q ∷ js) k 0)).position)
    → greatest (map end (q ∷ js)) ≡ on_tick ls (start_spot (plan_played p) (q ∷ js)).position
meeting-tick p ls [] q end each =
    (let one : max (end q) 0 ≡ end q = omega arith in one)
    ∙ each 0 (omega arith)
    ∙ ap (λ (b : Bool). on_tick ls (if b then outset else end_spot (plan_played p) q).position)
    (sym (never (end_spot (plan_played p) q).position))
  where
    never : (x : ℕ) → nat_lt x 0 ≡ false
    never x = grind arith
meeting-tick p ls (j ∷ js) q end each =
    let later = meeting-tick p ls js j end (λ k below. each (suc k) (omega arith)) in
    ap (λ (x : ℕ). max x (greatest (map end (j ∷ js)))) (each 0 (omega arith))
    ∙ ap (max (on_tick ls (end_spot (plan_played p) q).position)) later
    ∙ at (nat_lt (end_spot (plan_played p) q).position (start_spot (plan_played p) (j ∷ js)).position) refl
  where
    at : (b : Bool) → nat_lt (end_spot (plan_played p) q).position (start_spot (plan_played p) (j ∷ js)).position ≡ b
        → max (on_tick ls (end_spot (plan_played p) q).position) (on_tick ls (start_spot (plan_played p) (j ∷ js)).position)
        ≡ on_tick ls (if b then start_spot (plan_played p) (j ∷ js) else end_spot (plan_played p) q).position
    at true is = omega (
      arith,
      on_tick-mono ls (end_spot (plan_played p) q).position (start_spot (plan_played p) (j ∷ js)).position
          (let less = below_of (end_spot (plan_played p) q).position (start_spot (plan_played p) (j ∷ js)).position is in omega arith),
    )
    at false is =
        omega (arith, on_tick-mono ls (start_spot (plan_played p) (j ∷ js)).position (end_spot (plan_played p) q).position (past_of _ _ is))

opened-none : (t : StockParts) (ws : List ℕ) (ls : List OpenLevel) → levels_opened t ws [] ls ≡ ls
opened-none t [] ls = refl
opened-none t (w ∷ ws) ls = refl

-- the levels in which a process that is waited for ended
waited-levels : (p : PlanParts) (j k : ℕ) → PartsFit p → j < length p.programs → k < length (process_program p j).predecessors
    → (process_run p (slice_index_or (process_program p j).predecessors k 0)).run.last.levels ≡ (begun p j).levels
waited-levels p j k fits below inside =
    let w = waits p j fits below in
    let ws = (process_program p j).predecessors in
    let q = slice_index_or ws k 0 in
    let ls = (process_run p q).run.last.levels in
    let less : q < j = below_of q j (list_all-at (λ x. nat_lt x j) ws k 0 w.below inside) in
    let ends = both (same_numbers (reverse (map (λ l. l.warp) ls)) (process_program p j).levels)
    (same_numbers (spot_reached (process_run p q).run.last).origins (process_run p j).start.origins)
    (list_all-at (λ x. ends_in (process_program p j).levels (process_run p j).start.origins (process_run p x)) ws k 0 w.ends inside) in
    sym (reopened p.stock ls (sound-last p q fits (omega arith)).of)
    ∙ ap (λ (vs : List ℕ). levels_opened p.stock vs (reverse (map (λ l. l.origin) ls)) []) (same-of _ _ ends.0)
    ∙ ap (λ (os : List ℕ). levels_opened p.stock (process_program p j).levels os []) (same-of _ _ ends.1)

-- the tick of a start is the greatest of the ends that are waited for
pub begin-tick : (p : PlanParts) (j : ℕ) → PartsFit p → j < length p.programs → tick_of (begun p j) ≡ start (plan_lines p) j
begin-tick p j fits below =
    position-tick (begun p j) ∙ sym (ap (λ (qs : List ℕ). greatest (map (λ q. (line (plan_lines p) q).end) qs)) (plan-lines-waits p j)
    ∙ at (process_program p j).predecessors refl)
  where
    begins : (process_run p j).start ≡ start_spot (plan_played p) (process_program p j).predecessors
    begins = (process-as p j below).start (waits p j fits below).below

    at : (qs : List ℕ) → (process_program p j).predecessors ≡ qs
        → greatest (map (λ q. (line (plan_lines p) q).end) qs) ≡ on_tick (begun p j).levels (begun p j).position
    at [] none =
        let spot = begins ∙ ap (start_spot (plan_played p)) none in
        let levels : (begun p j).levels ≡ [] =
        ap (λ (x : Spot). levels_opened p.stock (process_program p j).levels x.origins []) spot
        ∙ opened-none p.stock (process_program p j).levels [] in
        sym (ap (λ (ls : List OpenLevel). on_tick ls (begun p j).position) levels ∙ ap (λ (x : Spot). x.position) spot)
    at (q ∷ js) is =
        meeting-tick p (begun p j).levels js q (λ q. (line (plan_lines p) q).end) (λ k inside. each k inside)
        ∙ ap (λ (qs : List ℕ). on_tick (begun p j).levels (start_spot (plan_played p) qs).position) (sym is)
        ∙ ap (λ (x : Spot). on_tick (begun p j).levels x.position) (sym begins)
      where
        each : (k : ℕ) → k < length (q ∷ js)
            → (line (plan_lines p) (slice_index_or (q ∷ js) k 0)).end
            ≡ on_tick (begun p j).levels (end_spot (plan_played p) (slice_index_or (q ∷ js) k 0)).position
        each k inside =
            subst (λ (qs : List ℕ). (line (plan_lines p) (slice_index_or qs k 0)).end
            ≡ on_tick (begun p j).levels (end_spot (plan_played p) (slice_index_or qs k 0)).position) is
            (let within : k < length (process_program p j).predecessors = omega (arith, ap length is) in
            let x = slice_index_or (process_program p j).predecessors k 0 in
            let less : x < j =
            below_of x j (list_all-at (λ y. nat_lt y j) (process_program p j).predecessors k 0 (waits p j fits below).below within) in
            line-end p x fits (omega arith)
            ∙ position-tick (process_run p x).run.last
            ∙ ap (λ (ls : List OpenLevel). on_tick ls (process_run p x).run.last.position) (waited-levels p j k fits below within))

-- the line is what comes out of all that is to come
pub begin-rest : (p : PlanParts) (j : ℕ) → PartsFit p → j < length p.programs
    → (line (plan_lines p) j).events ≡ numbered j 0 (come_out (map event_sound (to_come p j 0)) (line (plan_lines p) j).end)
unfolding to_come
begin-rest p j fits below =
    line-events p j fits below
    ∙ ap (λ (r : Run). numbered j 0 (come_out (map event_sound (mark_events r.marks)) (line (plan_lines p) j).end))
    (process-as p j below).run

-- ---- a player

-- a player with these parts is at its start
pub begin-course : (p : PlanParts) (j : ℕ) (place : Place) (u : StockParts) (warps : List (List Part)) (state : ℕ) (lists levels : List ℕ)
    (draws : Draws) (time : Timeline) (note : Pending)
    → PartsFit p → j < length p.programs → place ≡ start_place p j → u ≡ p.stock → warps ≡ p.stock.warps
    → lists ≡ (process_program p j).cycles → levels ≡ (process_program p j).levels → state ≡ (p.seed + j) % 2 ^ 64
    → All (IsFrame u) draws.frames.items
    → ((s : Standing) → s.registers ≡ replicate REGISTERS (pos 0) → s.dice ≡ state → s.frames ≡ cycles_opened u lists []
    → DrawsStand u draws s)
    → IsTimed warps time → frames_of time.nest ≡ framed levels place.origins → time.position ≡ place.position
    → IsPending note → ((k : ℕ) → pending_events k note ≡ [])
    → InCourse p (record { process = j; made = 0; operation = 0; index = 0; draws = draws; time = time; note = note })
begin-course p j place u warps state lists levels draws time note fits below is ut wt lt vt st frames stands timed nest position
    pending none = record {
      fits = fits;
      process = below;
      within = omega arith;
      index = omega arith;
      ready = record {
        frames = subst (λ (t : StockParts). All (IsFrame t) draws.frames.items) ut frames;
        time = subst (λ (ws : List (List Part)). IsTimed ws time) wt timed;
        note = pending;
        few = omega (
          arith,
          opened.frames.count,
          cycles_opened-length p.stock (process_program p j).cycles [],
          (opens p j fits below).cycles,
        );
      };
      stands = record {
        process = refl;
        operation = refl;
        index = refl;
        draws = opened;
        time = record {
          position = position ∙ begin-position p j place is;
          levels = ap (λ (fs : List Frame). levels_inside p.stock.warps fs []) nest
              ∙ ap (λ (vs : List ℕ). levels_inside p.stock.warps (framed vs place.origins) []) vt ∙ begin-levels p j place fits below is;
        };
        note = sym (ap (map (λ e. Some e)) (none j));
      };
    }
  where
    cycles_opened-length : (t : StockParts) (cs : List ℕ) (fs : List OpenFrame) → length (cycles_opened t cs fs) ≡ length cs + length fs
    cycles_opened-length t [] fs = (let none : length fs ≡ 0 + length fs = omega arith in none)
    cycles_opened-length t (c ∷ cs) fs =
        cycles_opened-length t cs (cycling (list_at t c) 0 ∷ fs)
        ∙ (let more : length cs + suc (length fs) ≡ suc (length cs) + length fs = omega arith in more)

    opened : DrawsStand p.stock draws (begun p j)
    opened = subst (λ (t : StockParts). DrawsStand t draws (begun p j)) ut
        (stands (begun p j) refl (sym st)
        (ap (λ (cs : List ℕ). cycles_opened p.stock cs []) (sym lt) ∙ ap (λ (t : StockParts). cycles_opened t lists []) (sym ut)))
