-- The process of the least pair of a sweep holds the floor back.
use Rattle.std.proofs.Common.{◌≡◌, ◌≢◌, ◌⊎◌, ℕ, zero, suc, ◌+◌, ◌<◌, ◌≤◌, Bool, true, false, List, [], ◌∷◌, ◌++◌, length, map, get_or, Option, Some, None, refl, sym, ap, subst, ◌∙◌, inl, inr, arith, eq-eqb, ne_eqb, eqb, get_or-set_same, get_or-set_other, length-append}
use Rattle.std.specs.Prelude.{if◌then◌else◌}
use Rattle.std.proofs.lemmas.List.{get_or_append_left}
use mathlib.Core.Logic.{dite}
use native.Mathlib.Decide.{ℕ_discrete}
use Rattle.fm_line.specs.Line.{greatest, line}
use Rattle.fm_core.proofs.Bounds.{greatest_above, greatest_below, same_greatest}
use Rattle.fm_core.proofs.Sweeps.{least_of}
use Rattle.fm_core.specs.Floors.{floor_of}
use Rattle.fm_core.specs.Invariant.{NotBelow}
use Rattle.fm_core.specs.Least.{IsLeastOf, Lowest}
use Rattle.fm_core.specs.Sweep.{least, sight, swept}
use Rattle.fm_core.specs.Tags.{is_ended, is_unborn}
use Rattle.fm_core.specs.Taking.{due_of}
use Rattle.fm_core.specs.declared.due.Due.TheVariants.{Pair, Everything}
use Rattle.fm_core.specs.declared.floor.Floor.TheVariants.{At}
use Rattle.fm_core.specs.declared.sight.Sight.{Sight as Look}
use Rattle.fm_program.specs.Parts.{PlanParts}
use Rattle.fm_program.specs.Process.{plan_lines}
use Rattle.fm_strand.proofs.ValidLemmas.{lines-valid}
use Rattle.fm_strand.specs.Course.{steps_of}
use Rattle.fm_board.specs.Answers.{Looks}
use Rattle.fm_board.specs.Minds.{spotted}
use Rattle.fm_board.specs.Plays.{Marked}
use Rattle.fm_board.specs.Seats.{SeatState}
use Rattle.fm_board.specs.View.{lines_of, looked, processes, entered}
use Rattle.fm_board.specs.declared.about.About.{About}
use Rattle.fm_board.specs.declared.seen.Seen.{Seen}
use Rattle.fm_board.specs.declared.view.Log.{Log}
use Rattle.fm_board.specs.declared.view.Mind.{Mind}
use Rattle.fm_board.specs.declared.view.View.{View}
use Rattle.fm_board.proofs.Goings.{seen_fewer}
use Rattle.fm_crew.specs.Onward.{AreSeen, HoldsBack, IsFull, IsSeen}
use Rattle.fm_crew.proofs.Startings.{seen_born}
use Rattle.fm_line.specs.declared.limits.TheConstants.{LAST_TICK}

-- the greatest clock seen of a process's predecessors
abbrev greatest_seen : View → ℕ → ℕ
greatest_seen v p = greatest (map (λ q. (sight v.sweep q).clock) (line (lines_of v) p).predecessors)

at_end : (xs : List Look) (x d : Look) → get_or (xs ++ x ∷ []) (length xs) d ≡ x
at_end [] x d = refl
at_end (y ∷ ys) x d = at_end ys x d

-- a look at the next process extends the sweep
swept_next : (xs : List Look) (n : ℕ) (x : Look) → length xs ≡ suc n → swept xs (suc n) x ≡ xs ++ x ∷ []
swept_next xs n x many =
    ap (λ (b : Bool). if b then x ∷ [] else if eqb (suc n) (length xs) then xs ++ x ∷ [] else xs)
    (ne_eqb (suc n) 0 (λ e. absurd (omega (arith, e))))
    ∙ ap (λ (b : Bool). if b then xs ++ x ∷ [] else xs) (eq-eqb (suc n) (length xs) (sym many))

-- a look enters what it saw behind those before it
swept_at : (xs : List Look) (p : ℕ) (x : Look) → (p ≡ 0) ⊎ (length xs ≡ p)
    → ((j : ℕ) → j < p → sight (swept xs p x) j ≡ sight xs j) × (sight (swept xs p x) p ≡ x)
swept_at xs zero x turn = (λ j lt. absurd (omega (arith, lt)), refl)
swept_at xs (suc n) x (inl none) = absurd (omega (arith, none))
swept_at xs (suc n) x (inr many) =
    let is : swept xs (suc n) x ≡ xs ++ x ∷ [] = swept_next xs n x many in (
      (λ j lt. ap (λ (ys : List Look). sight ys j) is ∙ get_or_append_left xs (x ∷ []) _ j (omega (arith, lt, many))),
      ap (λ (ys : List Look). sight ys (suc n)) is ∙ (ap (λ (k : ℕ). sight (xs ++ x ∷ []) k) (sym many) ∙ at_end xs x _),
    )

-- and the sweep is one longer then
pub swept_long : (xs : List Look) (p : ℕ) (x : Look) → (p ≡ 0) ⊎ (length xs ≡ p) → length (swept xs p x) ≡ p + 1
swept_long xs zero x turn = refl
swept_long xs (suc n) x (inl none) = absurd (omega (arith, none))
swept_long xs (suc n) x (inr many) =
    let is = ap (λ (ys : List Look). length ys) (swept_next xs n x many) in
    let long = length-append xs (x ∷ []) in omega (arith, is, long, many)

module _ (a : About) (m : Mind) (p : ℕ) (s : Seen) (r : ℕ) (xs : Log) (plan : m.view.plan ≡ a.plan) (full : IsFull m)
    (there : p < processes m.view) (turn : (p ≡ 0) ⊎ (length m.view.sweep ≡ p)) (are : AreSeen m p) (low : s.clock ≤ LAST_TICK) where
  abbrev x : Look
  x = entered m.view p s.tag s.clock

  abbrev z : Mind
  z = spotted m p s.tag s.clock r (looked m.view p s.tag s.clock) xs

  at : ((j : ℕ) → j < p → sight z.view.sweep j ≡ sight m.view.sweep j) × (sight z.view.sweep p ≡ x)
  at = swept_at m.view.sweep p x turn

  -- the processes that one waits for come before it
  before : (j i : ℕ) → i < length (line (lines_of m.view) j).predecessors
      → get_or (line (lines_of m.view) j).predecessors i 0 < j
  before j i lt = subst (λ (q : PlanParts). i < length (line (plan_lines q) j).predecessors
      → get_or (line (plan_lines q) j).predecessors i 0 < j) (sym plan) ((lines-valid a.plan a.fits).below j i 0) lt

  -- what was seen of them stays
  same_clocks : (j : ℕ) → j ≤ p
      → greatest (map (λ q. (sight z.view.sweep q).clock) (line (lines_of m.view) j).predecessors)
      ≡ greatest (map (λ q. (sight m.view.sweep q).clock) (line (lines_of m.view) j).predecessors)
  same_clocks j le = same_greatest (λ q. (sight z.view.sweep q).clock) (λ q. (sight m.view.sweep q).clock)
      (line (lines_of m.view) j).predecessors
      (λ i lt. let less = before j i lt in ap (λ (y : Look). y.clock)
      (at.0 (get_or (line (lines_of m.view) j).predecessors i 0) (omega (arith, less, le))))

  one_before : (j : ℕ) → j < p → IsSeen z j
  one_before j lt =
      let is = are j lt in
      let other : j ≢ p = (λ e. absurd (omega (arith, e, lt))) in
      record {
        ended = get_or-set_other m.over p j (is_ended s.tag) false other ∙ (is.ended ∙ ap (λ (y : Look). y.ended) (sym (at.0 j lt)));
        clock =
            let k = get_or-set_other m.known p j s.clock 0 other in
            let c = ap (λ (y : Look). y.clock) (at.0 j lt) in
            let old = is.clock in omega (arith, k, c, old);
        low = let c = ap (λ (y : Look). y.clock) (at.0 j lt) in let old = is.low in omega (arith, c, old);
        ready = go is.ready;
      }
    where
      go : (get_or m.left j 0 ≤ steps_of m.view.plan j)
          ⊎ ((sight m.view.sweep j).clock
          ≡ greatest (map (λ q. (sight m.view.sweep q).clock) (line (lines_of m.view) j).predecessors))
          → (get_or z.left j 0 ≤ steps_of m.view.plan j)
          ⊎ ((sight z.view.sweep j).clock
          ≡ greatest (map (λ q. (sight z.view.sweep q).clock) (line (lines_of m.view) j).predecessors))
      go (inl few) = let fewer = seen_fewer m p s.tag j in inl (omega (arith, few, fewer))
      go (inr clock) = inr (ap (λ (y : Look). y.clock) (at.0 j lt) ∙ (clock ∙ sym (same_clocks j (omega (arith, lt)))))

  one_here : IsSeen z p
  one_here = by_birth (is_unborn s.tag) refl
    where
      ended : get_or z.over p false ≡ (sight z.view.sweep p).ended
      ended =
          get_or-set_same m.over p (is_ended s.tag) false (let n = full.over in omega (arith, n, there))
          ∙ ap (λ (y : Look). y.ended) (sym at.1)

      known : get_or z.known p 0 ≡ s.clock
      known = get_or-set_same m.known p s.clock 0 (let n = full.known in omega (arith, n, there))

      by_birth : (b : Bool) → is_unborn s.tag ≡ b → IsSeen z p
      by_birth false born =
          let clock : (sight z.view.sweep p).clock ≡ s.clock =
          ap (λ (y : Look). y.clock) at.1
          ∙ ap (λ (b : Bool). if b then greatest_seen m.view p else s.clock) born in
          record {
            ended = ended;
            clock = let k = known in omega (arith, k, clock);
            low = omega (arith, clock, low);
            ready = inl (seen_born m p s.tag born);
          }
      by_birth true unborn =
          let clock : (sight z.view.sweep p).clock ≡ greatest_seen m.view p =
          ap (λ (y : Look). y.clock) at.1
          ∙ ap (λ (b : Bool). if b then greatest_seen m.view p else s.clock) unborn in
          let none_yet : s.clock ≡ 0 = s.fits.unborn unborn in
          let most : greatest_seen m.view p ≤ LAST_TICK =
          greatest_below (λ q. (sight m.view.sweep q).clock) (line (lines_of m.view) p).predecessors LAST_TICK
          (λ i lt. (are (get_or (line (lines_of m.view) p).predecessors i 0) (before p i lt)).low) in
          record {
            ended = ended;
            clock = let k = known in omega (arith, k, none_yet);
            low = omega (arith, clock, most);
            ready = inr (clock ∙ sym (same_clocks p (omega arith)));
          }

  seen_one : AreSeen z (p + 1)
  seen_one j lt = dite (ℕ_discrete j p) (λ e. subst (IsSeen z) (sym e) one_here) (λ d. one_before j (omega (arith, lt, d)))

-- one look more
pub seen_more : (a : About) (old new : SeatState) (p : ℕ) (s : Seen) → old.mind.view.plan ≡ a.plan
    → Looks old p s new
    → IsFull old.mind → p < processes old.mind.view → (p ≡ 0) ⊎ (length old.mind.view.sweep ≡ p) → AreSeen old.mind p
    → AreSeen new.mind (p + 1)
seen_more a old new p s plan found full there turn are =
    subst (λ (m : Mind). AreSeen m (p + 1)) (sym (ap (λ (y : SeatState). y.mind) found.sight))
    (seen_one a old.mind p s _ _ plan full there turn are found.tells.low)

-- ---- the least pair

-- the process of the least pair holds the floor back
pub held_back : (a : About) (m : Mind) (tick p : ℕ) → m.view.plan ≡ a.plan → length m.view.sweep ≡ processes m.view
    → AreSeen m (processes m.view) → due_of (least m.view.sweep) ≡ Pair tick p
    → HoldsBack m tick p × (tick ≤ LAST_TICK) × (floor_of (least m.view.sweep) ≡ At tick)
held_back a m tick p plan long are is = go (least m.view.sweep) refl (least_of m.view.sweep) is
  where
    clash : Everything ≡ Pair tick p → ⊥
    clash e = cc

    first_is : (x y : ℕ) → Pair x y ≡ Pair tick p → x ≡ tick
    first_is x y e = cc

    second_is : (x y : ℕ) → Pair x y ≡ Pair tick p → y ≡ p
    second_is x y e = cc

    here : Lowest m.view.sweep tick p → HoldsBack m tick p × (tick ≤ LAST_TICK)
    here low =
        let below = low.below in
        let seen = are p (omega (arith, below, long)) in
        let clock = low.clock in (
          record {
            there = omega (arith, below, long);
            live = seen.ended ∙ low.open_there;
            soon = let k = seen.clock in omega (arith, k, clock);
            ready = ready seen.ready;
          },
          (let top = seen.low in omega (arith, top, clock)),
        )
      where
        ready : (get_or m.left p 0 ≤ steps_of m.view.plan p)
            ⊎ ((sight m.view.sweep p).clock
            ≡ greatest (map (λ q. (sight m.view.sweep q).clock) (line (lines_of m.view) p).predecessors))
            → (get_or m.left p 0 ≤ steps_of m.view.plan p) ⊎ Marked m p (length (line (lines_of m.view) p).predecessors)
        ready (inl few) = inl few
        ready (inr clock) = inr (λ i lt. marked i lt (get_or m.over (get_or (line (lines_of m.view) p).predecessors i 0) false) refl)
          where
            later : (c q : ℕ) → c ≤ tick → q < p → NotBelow tick p c q → ⊥
            later c q most less (inl above) = omega (arith, most, above)
            later c q most less (inr same) = let le = same.1 in omega (arith, less, le)

            marked : (i : ℕ) → i < length (line (lines_of m.view) p).predecessors → (b : Bool)
                → get_or m.over (get_or (line (lines_of m.view) p).predecessors i 0) false ≡ b
                → get_or m.over (get_or (line (lines_of m.view) p).predecessors i 0) false ≡ true
            marked i lt true e = e
            marked i lt false e =
                let q : ℕ = get_or (line (lines_of m.view) p).predecessors i 0 in
                let less : q < p = subst (λ (r : PlanParts). i < length (line (plan_lines r) p).predecessors
                → get_or (line (plan_lines r) p).predecessors i 0 < p) (sym plan) ((lines-valid a.plan a.fits).below p i 0) lt in
                let below = low.below in
                let near : q < length m.view.sweep = omega (arith, less, below) in
                let open_there : (sight m.view.sweep q).ended ≡ false =
                sym (are q (omega (arith, near, long))).ended ∙ e in
                let most = greatest_above (λ q. (sight m.view.sweep q).clock) (line (lines_of m.view) p).predecessors i lt in
                let top = low.clock in
                absurd (later (sight m.view.sweep q).clock q (omega (arith, most, top, clock)) less (low.lower q near open_there))

    go : (o : Option (ℕ × ℕ)) → least m.view.sweep ≡ o → IsLeastOf m.view.sweep o → due_of o ≡ Pair tick p
        → HoldsBack m tick p × (tick ≤ LAST_TICK) × (floor_of (least m.view.sweep) ≡ At tick)
    go None e all none_is = absurd (clash none_is)
    go (Some pair) e low pair_is =
        let one : pair.0 ≡ tick = first_is pair.0 pair.1 pair_is in
        let two : pair.1 ≡ p = second_is pair.0 pair.1 pair_is in
        let r = here (subst (λ (y : ℕ × ℕ). Lowest m.view.sweep y.0 y.1) (λ i. (one i, two i)) low) in
        (r.0, r.1, ap floor_of e ∙ ap At one)
