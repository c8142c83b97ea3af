-- What holds of a hall after a step, and why its memory is enough.
use Rattle.std.proofs.Common.{◌≡◌, ◌⊎◌, inl, inr, ℕ, zero, suc, ◌+◌, ◌*◌, ◌<◌, ◌≤◌, List, ◌++◌, length, take, Bool, true, false, refl, ap, arith, length-append}
use Rattle.std.specs.Prelude.{if◌then◌else◌, not, ◌&&◌, nat_eq}
use Rattle.std.proofs.lemmas.Bool.{cases_order}
use Rattle.fm_line.specs.declared.line.Line.{Line}
use Rattle.fm_line.specs.Line.{line, sum_below, total}
use Rattle.fm_line.specs.declared.limits.TheConstants.{MAX_EVENTS}
use Rattle.fm_line.specs.Piece.{Ordered}
use Rattle.fm_core.specs.Effects.{after}
use Rattle.fm_core.specs.Giving.{MayGive}
use Rattle.fm_core.specs.Invariant.{of_process}
use Rattle.fm_core.specs.State.{Setting, cell, visited, opening}
use Rattle.fm_core.specs.Steps.{Allowed}
use Rattle.fm_core.specs.Taking.{count_due, outbox, must_take}
use Rattle.fm_core.specs.declared.step.Step.{Step}
use Rattle.fm_core.specs.declared.step.Step.TheVariants.{Give}
use Rattle.fm_core.proofs.Gathered.{gather_fits}
use Rattle.fm_core.proofs.Given.{count_le}
use Rattle.fm_core.proofs.GiveTests.{given_may}
use Rattle.fm_core.proofs.Keeps.{keeps}
use Rattle.fm_core.proofs.KeepsRelease.{gather_ordered}
use Rattle.fm_core.proofs.Opening.{opening_sound}
use Rattle.fm_core.proofs.OrderlyStates.{orderly}
use Rattle.fm_core.proofs.Sums.{sum_le, counted}
use Rattle.fm_hall.specs.Hall.{IsSafe}
use Rattle.fm_state.specs.Limits.{IsSetting}
use Rattle.fm_state.specs.Stored.{Stored, IsHall}
use Rattle.fm_state.proofs.Waiting.{length-outbox, length-take_all}

-- an allowed step keeps a hall a hall
pub hall_keeps : (g : Setting) (m : Stored) (s : Step) → IsHall g m → Allowed g m.state s
    → IsHall g (record m { state = after g m.state s })
hall_keeps g m s hall allowed = record {
  setting = hall.setting;
  sound = keeps g m.state s hall.setting.valid hall.sound allowed;
  gathers = hall.gathers;
  releases = hall.releases;
}

-- a hall is safe
pub hall_safe : (g : Setting) (m : Stored) → IsHall g m → IsSafe g m.state
hall_safe g m hall = record { orderly = orderly g m.state hall.setting.valid hall.sound; led = hall.sound.led }

-- the opening with its memory is a hall
pub hall_opens : (g : Setting) (seats : ℕ) → IsSetting g → 0 < seats
    → IsHall g (record {
      state = opening (length g.lines) seats;
      gathers = length g.lines * g.room;
      releases = total g.lines;
    })
hall_opens g seats setting some = record {
  setting = setting;
  sound = opening_sound g seats setting.valid some;
  gathers = refl;
  releases = refl;
}

-- ---- counts

-- a sum over more numbers is not less
pub sum_up : (n m : ℕ) (f : ℕ → ℕ) → m ≤ n → sum_below m f ≤ sum_below n f
sum_up zero m f le = let none : m ≡ 0 = omega arith in rw none (omega arith)
sum_up (suc n) m f le = by_order (cases_order m (suc n)) (λ below. sum_up n m f below)
  where
    by_order : (m ≡ suc n) ⊎ ((m < suc n) ⊎ (suc n < m)) → (m ≤ n → sum_below m f ≤ sum_below n f)
        → sum_below m f ≤ sum_below n f + f n
    by_order (inl e) before = rw e (omega arith)
    by_order (inr (inl below)) before = let less = before (omega arith) in omega arith
    by_order (inr (inr above)) before = absurd (omega arith)

-- one of the summed numbers is at most the sum
pub one_le_sum : (n p : ℕ) (f : ℕ → ℕ) → p < n → f p ≤ sum_below n f
one_le_sum zero p f lt = absurd (omega arith)
one_le_sum (suc n) p f lt = by_order (cases_order p n) (λ below. one_le_sum n p f below)
  where
    by_order : (p ≡ n) ⊎ ((p < n) ⊎ (n < p)) → (p < n → f p ≤ sum_below n f) → f p ≤ sum_below n f + f n
    by_order (inl e) before = let same = ap f e in omega arith
    by_order (inr (inl below)) before = let le = before below in omega arith
    by_order (inr (inr above)) before = absurd (omega arith)

-- a line has at most as many events as all together
pub line_le_total : (ls : List Line) (p : ℕ) → p < length ls → length (line ls p).events ≤ total ls
line_le_total ls p lt = one_le_sum (length ls) p (λ q. length (line ls q).events) lt

module _ (g : Setting) (m : Stored) (hall : IsHall g m) where
  -- what must be taken is there
  pub must_le : (s p : ℕ) → must_take g m.state s p ≤ length (outbox (line g.lines p) (cell m.state p))
  must_le s p = by_test (nat_eq s 0 && not (visited m.state p))
    where
      by_test : (b : Bool) → (if b then count_due m.state.due (outbox (line g.lines p) (cell m.state p)) else 0)
          ≤ length (outbox (line g.lines p) (cell m.state p))
      by_test true = count_le m.state.due (outbox (line g.lines p) (cell m.state p))
      by_test false = omega arith

  -- what is released and gathered is no more than all events
  pub release_fits : length m.state.released + length m.state.gather ≤ total g.lines
  release_fits =
      let h = m.state in
      let all = h.released ++ h.gather in
      let each : (p : ℕ) → p < length h.cells → length (of_process p all) ≤ length (line g.lines p).events =
      (λ p lt. let taken = ap length (hall.sound.kept p lt) in
      let less = length-take_all (cell h p).taken (line g.lines p).events in omega arith) in
      let sum = sum_le (length h.cells) (λ p. length (of_process p all)) (λ p. length (line g.lines p).events) each in
      let many = counted (length h.cells) all hall.sound.named in
      let both = length-append h.released h.gather in
      let lines = ap (λ n. sum_below n (λ p. length (line g.lines p).events)) hall.sound.lined in omega arith

  -- the gather is in the order of its processes
  pub gathered_ordered : Ordered m.state.gather
  gathered_ordered = gather_ordered g m.state hall.setting.valid hall.sound

  module _ (s p t n now : ℕ) (ends : Bool) (allowed : Allowed g m.state (Give s p t n now ends)) where
    abbrev may : MayGive g m.state s p t n now ends
    may = given_may g m.state s p t n now ends allowed

    -- what a give takes is there
    pub taken_there : t ≤ length (outbox (line g.lines p) (cell m.state p))
    taken_there = let same = may.take in let le = must_le s p in omega arith

    -- after a give no more is taken than computed
    pub taken_le : (cell m.state p).taken + t ≤ (cell m.state p).computed + n
    taken_le =
        let there = taken_there in
        let few = length-outbox (line g.lines p) (cell m.state p) in
        let fits = hall.sound.fits p may.process in
        let taken = fits.taken in omega arith

    -- what is computed after a give is of the line
    pub computed_le : (cell m.state p).computed + n ≤ MAX_EVENTS
    computed_le =
        let fits = may.fits in
        let lined = hall.sound.lined in
        let process = may.process in
        let less = line_le_total g.lines p (omega arith) in
        let few = hall.setting.valid.lines.events in omega arith

    -- the gather has memory for what a give takes
    pub take_fits : length m.state.gather + length (take t (outbox (line g.lines p) (cell m.state p))) ≤ m.gathers
    take_fits =
        let next = hall_keeps g m (Give s p t n now ends) hall allowed in
        let fits = gather_fits g (after g m.state (Give s p t n now ends)) next.setting.valid next.sound in
        let both = length-append m.state.gather (take t (outbox (line g.lines p) (cell m.state p))) in
        let memory = hall.gathers in
        let lined = ap (λ n. n * g.room) next.sound.lined in omega arith
