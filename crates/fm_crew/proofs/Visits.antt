-- How a visit brings on the process that holds the floor back.
use Rattle.std.proofs.Common.{◌≡◌, ◌⊎◌, ℕ, ◌<◌, ◌≤◌, Bool, true, false, List, length, get_or, set, min, refl, sym, ap, subst, ◌∙◌, inl, inr, arith, get_or-set_same}
use Rattle.std.specs.Prelude.{if◌then◌else◌}
use native.Mathlib.Decide.{dec_lt}
use Rattle.fm_line.specs.Line.{line}
use Rattle.fm_core.proofs.TagLemmas.{nothing_is}
use Rattle.fm_core.specs.Tags.{has_nothing, is_claimable, is_ended, is_held, is_unborn}
use Rattle.fm_core.specs.declared.due.Due.{Due}
use Rattle.fm_core.specs.declared.tag.Tag.{Tag}
use Rattle.fm_core.specs.declared.tag.Tag.TheVariants.{Unborn, Home, Full, Out, Ended, EndedOut, Drained}
use Rattle.fm_buffer.specs.Gather.{EventGather}
use Rattle.fm_program.specs.Parts.{PlanParts}
use Rattle.fm_strand.specs.Course.{steps_of}
use Rattle.fm_board.specs.Answers.{HasClaimed, Looks}
use Rattle.fm_board.specs.Knowing.{IsWide, Knows}
use Rattle.fm_board.specs.Plays.{Marked}
use Rattle.fm_board.specs.Seats.{SeatState}
use Rattle.fm_board.specs.View.{InTurn, gave, holding, lines_of, looked, processes}
use Rattle.fm_board.specs.declared.about.About.{About}
use Rattle.fm_board.specs.declared.berth.Berth.{Berth}
use Rattle.fm_board.specs.declared.seen.Seen.{Seen}
use Rattle.fm_board.specs.declared.view.Hold.{Hold}
use Rattle.fm_board.specs.declared.view.Mind.{Mind}
use Rattle.fm_board.specs.declared.view.View.{View}
use Rattle.fm_board.proofs.Knowing.{found_knows, hands_knows}
use Rattle.fm_crew.specs.declared.conductor.Conductor.{Conductor}
use Rattle.fm_crew.specs.Conduct.{Stays}
use Rattle.fm_crew.specs.Onward.{Advances, Brings, BringsHeld, GoesOn, Grows, HoldsBack, IsFull, Moves}
use Rattle.fm_crew.specs.Visiting.{LooksAt, Rests}
use Rattle.fm_crew.proofs.Looking.{look_stays, look_swept, seated, stays_rests}
use Rattle.fm_crew.proofs.Onward.{goes_back, goes_front, grows_then, moves_back, moves_front, still_back}
use Rattle.fm_crew.proofs.Startings.{seen_unborn}

-- ---- what a visit brings on comes behind what was learned before

pub full_still : (a b : Conductor) → Grows a b → IsFull a.seat.mind → IsFull b.seat.mind
full_still a b grows full =
    subst (λ (q : PlanParts). IsWide (length q.programs) b.seat.mind) (sym grows.plan) (grows.knows.wide (processes a.seat.mind.view) full)

pub brings_behind : (due : Due) (limit p : ℕ) (a b c : Conductor) → Grows a b → Grows b c → Brings due limit p b c
    → Brings due limit p a c
brings_behind due limit p a b c before after brings tick is within full back =
    go (still_back a.seat.mind b.seat.mind tick p before.plan before.knows back)
  where
    go : HoldsBack b.seat.mind tick p ⊎ Moves p a.seat.mind b.seat.mind → GoesOn p a c
    go (inl now) = goes_front p a b c before (brings tick is within (full_still a b before full) now)
    go (inr moved) = goes_back p a b c (inr moved) after

-- ---- a process that was claimed

-- what the hold says is left, the seat knows of
hold_left : (a : About) (x z : SeatState) (p : ℕ) (s : Seen) (b : Berth) (hands : HasClaimed a x p s b z) → x.mind.view.plan ≡ a.plan
    → IsFull x.mind → p < processes x.mind.view → hands.hold.left ≤ get_or z.mind.left p 0
hold_left a x z p s b hands plan full there =
    subst (λ (m : Mind). hands.hold.left ≤ get_or m.left p 0) (sym (ap (λ (y : SeatState). y.mind) hands.sight))
    (by_case (is_unborn s.tag))
  where
    behind : hands.hold.left ≤ get_or x.mind.left p 0
    behind = hands.behind

    few : hands.hold.left ≤ steps_of x.mind.view.plan p
    few =
        let course = hands.berth.hold.strand.strand.course.numbers in
        let is_left = hands.berth.hold.left in
        subst (λ (q : PlanParts). hands.hold.left ≤ steps_of q p) (sym plan)
        (subst (λ (j : ℕ). hands.hold.left ≤ steps_of a.plan j) hands.berth.hold.strand.strand.process (omega (arith, course, is_left)))

    both : (n x y : ℕ) → n ≤ x → n ≤ y → n ≤ min x y
    both n x y one two = omega arith

    near : p < length x.mind.left
    near = let n = full.left in omega (arith, n, there)

    by_case : (u : Bool)
        → hands.hold.left ≤ get_or (if u then x.mind.left else set x.mind.left p
        (min (get_or x.mind.left p 0) (steps_of x.mind.view.plan p)))
        p 0
    by_case true = behind
    by_case false =
        let is = get_or-set_same x.mind.left p (min (get_or x.mind.left p 0) (steps_of x.mind.view.plan p)) 0 near in
        let most = both hands.hold.left (get_or x.mind.left p 0) (steps_of x.mind.view.plan p) behind few in
        omega (arith, is, most)

module _ (a : About) (due : Due) (limit p : ℕ) (old mid new : Conductor) (s : Seen) (b : Berth)
    (hands : HasClaimed a old.seat p s b mid.seat) (plan : old.seat.mind.view.plan ≡ a.plan) (same : mid.gather ≡ old.gather)
    (grows : Grows mid new) where
  claimed_knows : Knows old.seat.mind mid.seat.mind
  claimed_knows = hands_knows a old.seat p s b mid.seat hands

  pub claimed_grows : Grows old mid
  claimed_grows = record {
    plan = ap (λ (x : SeatState). x.mind.view.plan) hands.sight;
    knows = claimed_knows;
    gathers = let n = ap (λ (x : EventGather). length x.events) same in omega (arith, n);
  }

  pub collected : BringsHeld due limit p mid new → Brings due limit p old new
  collected held tick is within full back = by_end (is_ended s.tag) refl
    where
      there : p < processes old.seat.mind.view
      there = back.there

      -- it is at its end
      ended : get_or new.seat.mind.over p false ≡ true → GoesOn p old new
      ended over = inr (inr (inr (back.live, over)))

      by_clock : is_ended s.tag ≡ false → Dec (tick < s.clock) → GoesOn p old new
      by_clock live (yes later) =
          let at : get_or mid.seat.mind.known p 0 ≡ s.clock =
          ap (λ (x : SeatState). get_or x.mind.known p 0) hands.sight
          ∙ get_or-set_same old.seat.mind.known p s.clock 0 (let n = full.known in omega (arith, n, there)) in
          let on = grows.knows.known p in
          let soon = back.soon in
          inr (inr (inl (omega (arith, at, on, soon, later))))
      by_clock live (no soon) =
          which (held tick hands.hold is within (full_still old mid claimed_grows full)
          (subst (λ (q : PlanParts). p < length q.programs) (sym claimed_grows.plan) there)
          (ap (λ (x : SeatState). x.mind.view.holds) hands.sight)
          (let at = hands.at in omega (arith, at, soon)) (hands.was_ended ∙ live)
          (hold_left a old.seat mid.seat p s b hands plan full there))
        where
          which : Advances p mid new → GoesOn p old new
          which (inl more) = let n = ap (λ (x : EventGather). length x.events) same in inl (omega (arith, more, n))
          which (inr (inl over)) = ended over
          which (inr (inr fewer)) = let x = claimed_knows.left p in inr (inl (omega (arith, x, fewer)))

      by_end : (e : Bool) → is_ended s.tag ≡ e → GoesOn p old new
      by_end true e =
          ended (grows.knows.over p (ap (λ (x : SeatState). get_or x.mind.over p false) hands.sight
          ∙ (get_or-set_same old.seat.mind.over p (is_ended s.tag) false (let n = full.over in omega (arith, n, there)) ∙ e)))
      by_end false e = by_clock e (dec_lt tick s.clock)

-- ---- a process that was looked at

-- the conductor knows no less after a look
pub looked_grows : (old : Conductor) (p : ℕ) (s : Seen) (x : SeatState) → Looks old.seat p s x → Grows old (seated old x)
looked_grows old p s x found = record {
  plan = ap (λ (y : SeatState). y.mind.view.plan) found.sight;
  knows = found_knows old.seat p s (looked old.seat.mind.view p s.tag s.clock) _ x found;
  gathers = omega arith;
}

module _ (due : Due) (limit p : ℕ) (old new : Conductor) (s : Seen) (x : SeatState) (found : Looks old.seat p s x) where
  abbrev mid : Conductor
  mid = seated old x

  learned : Grows old mid
  learned = looked_grows old p s x found

  -- of which nothing is to be taken: it is at its end, or is started
  pub begun_on : has_nothing s.tag ≡ true → Grows mid new
      → (is_unborn s.tag ≡ true → steps_of mid.seat.mind.view.plan p < get_or mid.seat.mind.left p 0
      → (tick : ℕ) → HoldsBack mid.seat.mind tick p → Moves p mid.seat.mind new.seat.mind)
      → Brings due limit p old new
  begun_on nothing grows begins tick is within full back = which (nothing_is s.tag nothing)
    where
      there : p < processes old.seat.mind.view
      there = back.there

      which : (is_unborn s.tag ≡ true) ⊎ (s.tag ≡ Drained) → GoesOn p old new
      which (inr drained) =
          inr (moves_back p old.seat.mind mid.seat.mind new.seat.mind
          (inr (inr (
            back.live,
            ap (λ (x : SeatState). get_or x.mind.over p false) found.sight
                ∙ (get_or-set_same old.seat.mind.over p (is_ended s.tag) false (let n = full.over in omega (arith, n, there))
                ∙ ap is_ended drained),
          ))) grows.knows)
      which (inl unborn) = go (still_back old.seat.mind mid.seat.mind tick p learned.plan learned.knows back)
        where
          more : steps_of mid.seat.mind.view.plan p < get_or mid.seat.mind.left p 0
          more =
              let is_left : get_or mid.seat.mind.left p 0 ≡ get_or old.seat.mind.left p 0 =
              ap (λ (x : SeatState). get_or x.mind.left p 0) found.sight
              ∙ ap (λ (xs : List ℕ). get_or xs p 0) (seen_unborn old.seat.mind p s.tag unborn) in
              let tells = found.tells.unborn unborn in
              subst (λ (q : PlanParts). steps_of q p < get_or mid.seat.mind.left p 0) (sym learned.plan)
              (omega (arith, is_left, tells))

          go : HoldsBack mid.seat.mind tick p ⊎ Moves p old.seat.mind mid.seat.mind → GoesOn p old new
          go (inl now) =
              inr (moves_front p old.seat.mind mid.seat.mind new.seat.mind learned.knows (begins unborn more tick now))
          go (inr moved) = inr (moves_back p old.seat.mind mid.seat.mind new.seat.mind moved grows.knows)

-- a process that is started, if it can be, has moved
pub started_on : (p tick : ℕ) (x y z : Mind) → steps_of x.view.plan p < get_or x.left p 0 → HoldsBack x tick p
    → (Marked x p (length (line (lines_of x.view) p).predecessors) → get_or y.left p 0 ≤ steps_of y.view.plan p)
    → y.view.plan ≡ x.view.plan → Knows y z → Moves p x z
started_on p tick x y z more back born plan knows = go back.ready
  where
    go : (get_or x.left p 0 ≤ steps_of x.view.plan p) ⊎ Marked x p (length (line (lines_of x.view) p).predecessors) → Moves p x z
    go (inl few) = absurd (omega (arith, few, more))
    go (inr marked) =
        let few : get_or y.left p 0 ≤ steps_of x.view.plan p =
        subst (λ (q : PlanParts). get_or y.left p 0 ≤ steps_of q p) plan (born marked) in
        let on = knows.left p in inl (omega (arith, few, on, more))

-- what nobody holds, and of which something is to be taken, can be claimed
pub lone_claimable : (t : Tag) → is_held t ≡ false → has_nothing t ≡ false → is_claimable 0 t ≡ true
lone_claimable Unborn free some = absurd (cc)
lone_claimable Home free some = refl
lone_claimable Full free some = refl
lone_claimable Out free some = absurd (cc)
lone_claimable Ended free some = refl
lone_claimable EndedOut free some = absurd (cc)
lone_claimable Drained free some = absurd (cc)

-- ---- what a process that is had for a while leaves as it was

pub rests_same : (v v' : View) → v' ≡ v → Rests v v'
rests_same v v' is =
    subst (Rests v) (sym is)
    (record {
      stays = record { plan = refl; paced = refl; released = refl; published = refl; halted = refl };
      sweep = refl;
    })

pub rests_given : (v : View) (h : Hold) (v' : View) → v' ≡ gave (holding v h) → Rests v v'
rests_given v h v' is =
    subst (Rests v) (sym is)
    (record {
      stays = record { plan = refl; paced = refl; released = refl; published = refl; halted = refl };
      sweep = refl;
    })

-- ---- what a look leaves

-- a pass that stays as it was, and stays on
pub stays_then : (a b c : View) → Stays a b → Stays b c → Stays a c
stays_then a b c p q = record {
  plan = q.plan ∙ p.plan;
  paced = q.paced ∙ p.paced;
  released = q.released ∙ p.released;
  published = q.published ∙ p.published;
  halted = q.halted ∙ p.halted;
}

-- a look, and another one at the same process
pub looks_then : (p : ℕ) (a b c : Conductor) → LooksAt p a b → LooksAt p b c → LooksAt p a c
looks_then p a b c first second = record {
  stays = stays_then a.seat.mind.view b.seat.mind.view c.seat.mind.view first.stays second.stays;
  swept = second.swept;
  grows = grows_then a b c first.grows second.grows;
}

-- a look, and what leaves the sweep as it was
pub looks_rested : (p : ℕ) (old new : Conductor) (seen : Seen) (seat : SeatState) → Looks old.seat p seen seat
    → InTurn old.seat.mind.view p → Rests seat.mind.view new.seat.mind.view → Grows (seated old seat) new
    → LooksAt p old new
looks_rested p old new seen seat look turn rests grows = record {
  stays = stays_rests old.seat.mind.view seat.mind.view new.seat.mind.view (look_stays p old.seat seat seen look) rests;
  swept = ap length rests.sweep ∙ look_swept p old.seat seat seen look turn;
  grows = grows_then old (seated old seat) new (looked_grows old p seen seat look) grows;
}
