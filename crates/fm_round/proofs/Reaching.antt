-- How far a turn along the chain has come.
use Rattle.std.proofs.Common.{◌≡◌, ◌⊎◌, ℕ, ◌+◌, ◌<◌, ◌≤◌, List, length, Some, None, refl, sym, ◌∙◌, subst, inl, inr, ⊎_elim, arith}
use Rattle.std.proofs.lemmas.Bool.{cases_eq, cases_lt}
use Rattle.fm_msg.specs.Event.{TimedMessage}
use Rattle.fm_line.specs.Line.{ValidLines, line}
use Rattle.fm_line.specs.Piece.{In}
use Rattle.fm_line.proofs.Members.{in_either}
use Rattle.fm_program.specs.Parts.{PlanParts}
use Rattle.fm_program.specs.Process.{plan_lines}
use Rattle.fm_round.specs.Chain.{IsChain, OthersIdle, link}
use Rattle.fm_round.specs.Lefts.{IsOwn, OwnFrom, joined}
use Rattle.fm_round.specs.Lanes.{AllLanes, AllStarted, IsNotPast, IsWaiting, lane, left, lefts, live_clock, yet}
use Rattle.fm_round.specs.Turns.{AllFrom, IsPast}
use Rattle.fm_round.specs.Watching.{AllAwait, Awaits}
use Rattle.fm_round.specs.declared.lane.Lane.{Lane}
use Rattle.fm_round.specs.declared.watch.Watch.{Watch}
use Rattle.fm_round.proofs.Births.{predecessor_below}
use Rattle.fm_round.proofs.Finding.{idle_clock}
use Rattle.fm_round.proofs.Parting.{own_back}
use Rattle.fm_round.proofs.Releasing.{own_at, yet_past}
use Rattle.fm_round.proofs.OneDue.{lefts_all}

-- ---- numbers

pub less_same : (x y n m : ℕ) → x ≡ y → x < n → n ≡ m → y < m
less_same x y n m is less same = omega arith

-- ---- along the chain

-- of the processes in front of `at` nothing of the tick is left, and of the others nothing before it
pub record Reached (p : PlanParts) (tick at : ℕ) (ss : List Lane) : Type 0 where
  pub from : AllFrom tick at (lefts p (plan_lines p) ss)
  pub past : (j t : ℕ) → j < at → live_clock p (lane ss j) ≡ Some t → tick < t

pub reached_none : (p : PlanParts) (tick : ℕ) (ss : List Lane) → AllFrom tick 0 (lefts p (plan_lines p) ss) → Reached p tick 0 ss
reached_none p tick ss from = record { from = from; past = λ j t below live. absurd (omega arith) }

module _ (p : PlanParts) (w : Watch) (tick at : ℕ) (ss : List Lane) (valid : ValidLines (plan_lines p))
    (count : length ss ≡ length (plan_lines p)) (lanes : AllLanes p ss) (own : OwnFrom 0 (lefts p (plan_lines p) ss))
    (chain : IsChain w.next.items) (size : length w.next.items ≡ length ss) (idle : OthersIdle w.next.items ss)
    (on : 0 < link w.next.items at) (awaited : AllAwait p w (link w.next.items at) ss)
    (from : AllFrom tick at (lefts p (plan_lines p) ss)) (here : IsPast p tick (lane ss at))
    (past : (j t : ℕ) → j < at → live_clock p (lane ss j) ≡ Some t → tick < t) where
  -- the next one of the chain
  next_there : link w.next.items at ≤ length ss
  next_there = let within = chain.within at in omega arith

  -- who is in front of it and has not started waits for one that has not ended
  started_in_front : AllStarted p ss (link w.next.items at)
  started_in_front j below unborn = by_wait (awaited j (let there = next_there in omega arith) unborn)
    where
      by_wait : (IsWaiting p ss j) ⊎ (Awaits p w (link w.next.items at) j) → IsWaiting p ss j
      by_wait (inl waits) = waits
      by_wait (inr a) =
          let earlier = predecessor_below p valid j a.index a.there in
          let behind = a.from in absurd (omega arith)

  -- and who runs is past the tick
  past_in_front : (j t : ℕ) → j < link w.next.items at → live_clock p (lane ss j) ≡ Some t → tick < t
  past_in_front j t below live = by_place (cases_eq j at) (cases_lt j at)
    where
      by_place : (j ≡ at) ⊎ (j ≡ at → ⊥) → (j < at) ⊎ (at ≤ j) → tick < t
      by_place (inl same) side = here.clock t (subst (λ (k : ℕ). live_clock p (lane ss k) ≡ Some t) same live)
      by_place (inr apart) (inl less) = past j t less live
      by_place (inr apart) (inr more) =
          let there = next_there in
          let rests = idle j (omega arith) (chain.passed at j (omega arith) below) in
          let none : live_clock p (lane ss j) ≡ None = idle_clock p (lane ss j).ended (lane ss j).strand rests.rests in
          let never : Some t ≡ None = sym live ∙ none in cc

  -- what is left of one in front of it is past the tick
  left_past : (j : ℕ) → j < link w.next.items at → at ≤ j → (e : TimedMessage)
      → In e (left p (line (plan_lines p) j).events (lane ss j)) → tick < e.time
  left_past j below up e i =
      ⊎_elim (λ (k : In e (lane ss j).outbox.events). by_queue k (cases_eq j at))
      (λ (k : In e (yet p (line (plan_lines p) j).events (lane ss j).strand)).
      by_pair (yet_past p ss valid count lanes (link w.next.items at) next_there started_in_front own tick (link w.next.items at)
      (λ (k : ℕ) (t : ℕ) less live. inl (past_in_front k t less live)) j below e (lane ss j).ended (lane ss j).strand refl refl
      (lanes j inside) back.rises k))
      (in_either e (lane ss j).outbox.events (yet p (line (plan_lines p) j).events (lane ss j).strand) i)
    where
      inside : j < length ss
      inside = let there = next_there in omega arith

      zero_add : 0 + j ≡ j
      zero_add = omega arith

      back : IsOwn j (yet p (line (plan_lines p) j).events (lane ss j).strand)
      back =
          own_back j (lane ss j).outbox.events (yet p (line (plan_lines p) j).events (lane ss j).strand)
          (subst (λ (n : ℕ). IsOwn n (left p (line (plan_lines p) j).events (lane ss j))) zero_add
          (own_at p 0 (plan_lines p) ss j own (let lined = count in let there = inside in omega arith) inside))

      by_queue : In e (lane ss j).outbox.events → (j ≡ at) ⊎ (j ≡ at → ⊥) → tick < e.time
      by_queue k (inl same) = here.events e (subst (λ (n : ℕ). In e (lane ss n).outbox.events) same k)
      by_queue k (inr apart) =
          let rests = idle j inside (chain.passed at j (omega arith) below) in
          absurd (subst (In e) rests.events k)

      by_pair : IsNotPast tick (link w.next.items at) e.time j → tick < e.time
      by_pair (inl less) = less
      by_pair (inr same) = let behind = same.1 in absurd (omega arith)

  pub reached_more : Reached p tick (link w.next.items at) ss
  reached_more = record {
    from = λ e i. lefts_all p (plan_lines p) ss
        (λ x. In x (joined (lefts p (plan_lines p) ss)) → IsNotPast tick (link w.next.items at) x.time x.process)
        (λ j within x k m. by_old j within x k (from x m)) e i i;
    past = past_in_front;
  }
    where
      by_old : (j : ℕ) → j < length ss → (x : TimedMessage) → In x (left p (line (plan_lines p) j).events (lane ss j))
          → IsNotPast tick at x.time x.process → IsNotPast tick (link w.next.items at) x.time x.process
      by_old j within x k (inl less) = inl less
      by_old j within x k (inr same) = by_side (cases_lt j (link w.next.items at))
        where
          zero_add : 0 + j ≡ j
          zero_add = omega arith

          process : x.process ≡ j
          process =
              (subst (λ (n : ℕ). IsOwn n (left p (line (plan_lines p) j).events (lane ss j))) zero_add
              (own_at p 0 (plan_lines p) ss j own (let lined = count in omega arith) within)).process x k

          by_side : (j < link w.next.items at) ⊎ (link w.next.items at ≤ j)
              → IsNotPast tick (link w.next.items at) x.time x.process
          by_side (inl less) = let is = process in let up = same.1 in inl (left_past j less (omega arith) x k)
          by_side (inr more) = let is = process in inr (same.0, omega arith)
