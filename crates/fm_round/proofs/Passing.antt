-- Walks along the chain: what is passed over is idle.
use Rattle.std.proofs.Common.{◌≡◌, ◌⊎◌, ℕ, ◌+◌, ◌-◌, ◌<◌, ◌≤◌, List, [], ◌++◌, length, map, take, drop, set, false, Option, refl, sym, ap, ◌∙◌, subst, inl, inr, arith, length-append, get_or-set_same, get_or-set_other, length-set}
use Rattle.std.proofs.lemmas.Bool.{cases_eq, cases_lt}
use Rattle.std.proofs.lemmas.List.{take_all}
use Rattle.fm_msg.specs.Event.{TimedMessage}
use Rattle.fm_program.specs.Parts.{PlanParts}
use Rattle.fm_round.specs.Chain.{Cuts, Enters, IsChain, OthersIdle, OthersIdleFrom, link}
use Rattle.fm_round.specs.Lefts.{joined}
use Rattle.fm_round.specs.Lanes.{LeastOf, Runs, IsLaneOf, AreLanes, due, is_running, lesser_of, live_clock, no_lane, room_of, room_sum, lane, without_due}
use Rattle.fm_round.specs.declared.lane.Lane.{Lane}
use Rattle.fm_round.proofs.Finding.{idle_clock, least_more, least_over}
use Rattle.fm_round.proofs.Gathering.{due_more, due_over, rooms_from, rooms_over, without_none}
use Rattle.fm_round.proofs.Quanta.{rests}

-- ---- the least pair

pub least_passed : (p : PlanParts) (ss : List Lane) (ns : List ℕ) (at : ℕ) (best : Option (ℕ × ℕ)) (clock : Option ℕ)
    → IsChain ns → length ns ≡ length ss → OthersIdle ns ss → 0 < link ns at → live_clock p (lane ss at) ≡ clock
    → LeastOf p ss at best → LeastOf p ss (link ns at) (lesser_of best clock at)
least_passed p ss ns at best clock chain size idle on live before =
    let rises = chain.rises at on in
    let within = chain.within at in
    least_over p ss (at + 1) (link ns at) (omega arith)
    (λ i above below. idle_clock p (lane ss i).ended (lane ss i).strand
    (idle i (omega arith) (chain.passed at i (omega arith) below)).rests)
    (lesser_of best clock at)
    (least_more p ss at best clock live before)

-- ---- taking what is due

-- of the lanes in front of `at` what is due is taken, and there is room for all that wait behind
pub record Gathered (key : Option (ℕ × ℕ)) (ns : List ℕ) (old now : List Lane) (events : List TimedMessage) (capacity at : ℕ) : Type 0 where
  pub size : length now ≡ length old
  pub within : at ≤ length old
  pub there : at < length old → 0 < link ns at
  pub taken : (j : ℕ) → j < at → lane now j ≡ without_due key (lane old j)
  pub others : (j : ℕ) → at ≤ j → lane now j ≡ lane old j
  pub gathered : events ≡ joined (map (due key) (take at old))
  pub space : length events + room_sum (map room_of (drop at old)) ≤ capacity

pub gathered_none : (key : Option (ℕ × ℕ)) (ns : List ℕ) (old : List Lane) (events : List TimedMessage) (capacity : ℕ) → IsChain ns
    → events ≡ [] → room_sum (map room_of old) ≤ capacity → Gathered key ns old old events capacity 0
gathered_none key ns old events capacity chain none space = record {
  size = refl;
  within = omega arith;
  there = λ some. chain.first;
  taken = λ j below. absurd (omega arith);
  others = λ j above. refl;
  gathered = none;
  space = omega (arith, ap length none);
}

pub gathered_all : (key : Option (ℕ × ℕ)) (ns : List ℕ) (old now : List Lane) (events : List TimedMessage) (capacity at : ℕ)
    → Gathered key ns old now events capacity at → length old ≤ at → events ≡ joined (map (due key) old)
gathered_all key ns old now events capacity at all past =
    all.gathered ∙ ap (λ (xs : List Lane). joined (map (due key) xs)) (take_all at old past)

module _ (key : Option (ℕ × ℕ)) (ns : List ℕ) (old now : List Lane) (events : List TimedMessage) (capacity at : ℕ)
    (chain : IsChain ns) (size : length ns ≡ length old) (idle : OthersIdle ns old)
    (before : Gathered key ns old now events capacity at) (within : at < length old) where
  here_on : 0 < link ns at
  here_on = before.there within

  -- there is room for what is due here
  pub room_here : length events + room_of (lane old at) ≤ capacity
  room_here =
      let rooms = rooms_from old at within in
      let space = before.space in omega arith

  none_waits : (j : ℕ) → at < j → j < link ns at → (lane old j).outbox.events ≡ []
  none_waits j above below =
      let all = chain.within at in (idle j (omega arith) (chain.passed at j above below)).events

  pub gathered_more : (s : Lane) (more : List TimedMessage) → s ≡ without_due key (lane old at)
      → more ≡ events ++ due key (lane old at) → length (due key (lane old at)) ≤ room_of (lane old at)
      → Gathered key ns old (set now at s) more capacity (link ns at)
  gathered_more s more is adds few =
      let rises = chain.rises at here_on in
      let all = chain.within at in record {
        size = length-set now at s ∙ before.size;
        within = omega arith;
        there = λ less. chain.linked at here_on (omega arith);
        taken = λ j below. by_place j below (cases_eq j at);
        others = λ j above.
            get_or-set_other now at j s no_lane (λ same. absurd (omega arith)) ∙ before.others j (omega arith);
        gathered =
            adds ∙ ap (λ es. es ++ due key (lane old at)) before.gathered
            ∙ sym (due_over key old (at + 1) (link ns at) (omega arith) (omega arith) (λ j above below. none_waits j (omega arith) below)
            ∙ due_more key old at within);
        space =
            let rooms = rooms_from old at within in
            let behind = rooms_over old (at + 1) (link ns at) (omega arith) in
            let space = before.space in
            omega (arith, ap length adds, length-append events (due key (lane old at)));
      }
    where
      behind_it : (j : ℕ) → j < link ns at → (j ≡ at → ⊥) → (j < at) ⊎ (at ≤ j) → lane (set now at s) j ≡ without_due key (lane old j)
      behind_it j below apart (inl less) = get_or-set_other now at j s no_lane apart ∙ before.taken j less
      behind_it j below apart (inr more) =
          get_or-set_other now at j s no_lane apart ∙ before.others j more ∙ sym (without_none key (lane old j) (none_waits j (omega
          arith) below))

      by_place : (j : ℕ) → j < link ns at → (j ≡ at) ⊎ (j ≡ at → ⊥) → lane (set now at s) j ≡ without_due key (lane old j)
      by_place j below (inl same) =
          subst (λ (k : ℕ). lane (set now at s) k ≡ without_due key (lane old k)) (sym same)
          (get_or-set_same now at s no_lane (omega (arith, before.size)) ∙ is)
      by_place j below (inr apart) = behind_it j below apart (cases_lt j at)

-- ---- a quantum of each

-- the lanes in front of `at` have run, and those behind are as they were
pub record RanTo (p : PlanParts) (first limit : ℕ) (ns : List ℕ) (old now : List Lane) (at : ℕ) : Type 0 where
  pub size : length now ≡ length old
  pub from : first ≤ at
  pub there : at < first + length old → 0 < link ns at
  pub ran : (k : ℕ) → k < length old → first + k < at → Runs p (first + k) limit (lane old k) (lane now k)
  pub others : (k : ℕ) → k < length old → at ≤ first + k → lane now k ≡ lane old k

module _ (p : PlanParts) (first limit : ℕ) (ns : List ℕ) (old : List Lane) (chain : IsChain ns)
    (lanes : AreLanes p first old) (idle : OthersIdleFrom ns first old) (reach : first + length old ≤ length ns) where
  -- who is not in the chain is left as it is
  rests_off : (k : ℕ) → k < length old → link ns (first + k) ≡ 0 → Runs p (first + k) limit (lane old k) (lane old k)
  rests_off k within off =
      rests p (first + k) limit (lane old k) (lanes k within)
      (idle_clock p (lane old k).ended (lane old k).strand (idle k within off).rests)

  pub ran_none : (head : ℕ) → Enters ns first (first + length old) head → RanTo p first limit ns old old head
  ran_none head enters = record {
    size = refl;
    from = enters.from;
    there = enters.there;
    ran = λ k within below. rests_off k within (enters.passed (first + k) (omega arith) below (omega arith));
    others = λ k within above. refl;
  }

  module _ (now : List Lane) (at : ℕ) (before : RanTo p first limit ns old now at) (within : at < first + length old) where
    here_same : lane now (at - first) ≡ lane old (at - first)
    here_same = let from = before.from in before.others (at - first) (omega arith) (omega arith)

    number : first + (at - first) ≡ at
    number = let from = before.from in omega arith

    pub lane_here : IsLaneOf p at (lane now (at - first))
    lane_here =
        let from = before.from in
        subst (λ (n : ℕ). IsLaneOf p n (lane now (at - first))) number
        (subst (IsLaneOf p (first + (at - first))) (sym here_same) (lanes (at - first) (omega arith)))

    pub ran_more : (s : Lane) → Runs p at limit (lane now (at - first)) s → RanTo p first limit ns old (set now (at - first) s) (link ns at)
    ran_more s runs =
        let on = before.there within in
        let rises = chain.rises at on in
        let from = before.from in record {
          size = length-set now (at - first) s ∙ before.size;
          from = omega arith;
          there = λ less. chain.linked at on (omega arith);
          ran = λ k inside below. by_place k inside below (cases_eq k (at - first));
          others = λ k inside above.
              get_or-set_other now (at - first) k s no_lane (λ same. absurd (omega (arith, same, from, rises)))
              ∙ before.others k inside (omega arith);
        }
      where
        passed_by : (k : ℕ) → k < length old → first + k < link ns at → (k ≡ at - first → ⊥) → (first + k < at) ⊎ (at ≤ first + k)
            → Runs p (first + k) limit (lane old k) (lane now k)
        passed_by k inside below apart (inl less) = before.ran k inside less
        passed_by k inside below apart (inr more) =
            let from = before.from in
            subst (Runs p (first + k) limit (lane old k)) (sym (before.others k inside more))
            (rests_off k inside (chain.passed at (first + k) (omega arith) below))

        by_place : (k : ℕ) → k < length old → first + k < link ns at → (k ≡ at - first) ⊎ (k ≡ at - first → ⊥)
            → Runs p (first + k) limit (lane old k) (lane (set now (at - first) s) k)
        by_place k inside below (inl same) =
            subst (λ (i : ℕ). Runs p (first + i) limit (lane old i) (lane (set now (at - first) s) i)) (sym same)
            (subst (Runs p (first + (at - first)) limit (lane old (at - first)))
            (sym (get_or-set_same now (at - first) s no_lane (omega (arith, before.size, same))))
            (subst (λ (n : ℕ). Runs p n limit (lane old (at - first)) s) (sym number)
            (subst (λ (t : Lane). Runs p at limit t s) here_same runs)))
        by_place k inside below (inr apart) =
            subst (Runs p (first + k) limit (lane old k)) (sym (get_or-set_other now (at - first) k s no_lane apart))
            (passed_by k inside below apart (cases_lt (first + k) at))

-- ---- whether one runs

-- no lane in front of `at` runs
pub record IdleTo (first : ℕ) (ns : List ℕ) (ss : List Lane) (at : ℕ) : Type 0 where
  pub from : first ≤ at
  pub there : at < first + length ss → 0 < link ns at
  pub idle : (k : ℕ) → k < length ss → first + k < at → is_running (lane ss k) ≡ false

module _ (first : ℕ) (ns : List ℕ) (ss : List Lane) (chain : IsChain ns) (size : first + length ss ≤ length ns) (idle :
    OthersIdleFrom ns first ss) where
  pub idle_none : (head : ℕ) → Enters ns first (first + length ss) head → IdleTo first ns ss head
  idle_none head enters = record {
    from = enters.from;
    there = enters.there;
    idle = λ k within below. (idle k within (enters.passed (first + k) (omega arith) below (omega arith))).rests;
  }

  pub idle_more : (at : ℕ) → IdleTo first ns ss at → at < first + length ss → is_running (lane ss (at - first)) ≡ false
      → IdleTo first ns ss (link ns at)
  idle_more at before within here =
      let on = before.there within in
      let rises = chain.rises at on in
      let from = before.from in record {
        from = omega arith;
        there = λ less. chain.linked at on (omega arith);
        idle = λ k inside below. by_place k inside below (cases_eq k (at - first));
      }
    where
      by_side : (k : ℕ) → k < length ss → first + k < link ns at → (k ≡ at - first → ⊥) → (first + k < at) ⊎ (at ≤ first + k)
          → is_running (lane ss k) ≡ false
      by_side k inside below apart (inl less) = before.idle k inside less
      by_side k inside below apart (inr more) =
          let from = before.from in (idle k inside (chain.passed at (first + k) (omega arith) below)).rests

      by_place : (k : ℕ) → k < length ss → first + k < link ns at → (k ≡ at - first) ⊎ (k ≡ at - first → ⊥)
          → is_running (lane ss k) ≡ false
      by_place k inside below (inl same) = subst (λ (i : ℕ). is_running (lane ss i) ≡ false) (sym same) here
      by_place k inside below (inr apart) = by_side k inside below apart (cases_lt (first + k) at)

-- ---- a cut

-- a cut lies behind the first number
pub cut_from : (ns : List ℕ) (first end head mid : ℕ) → Enters ns first end head → Cuts ns head end mid → first ≤ end → first ≤ mid
cut_from ns first end head mid enters cuts up = by_end (cases_lt mid end)
  where
    by_end : (mid < end) ⊎ (end ≤ mid) → first ≤ mid
    by_end (inl less) = let from = enters.from in let behind = cuts.from less in omega arith
    by_end (inr more) = omega arith
