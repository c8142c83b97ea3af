-- What is watched stays so from step to step.
use Rattle.std.proofs.Common.{◌≡◌, ◌⊎◌, ℕ, zero, suc, ◌+◌, ◌<◌, List, [], length, map, drop, Bool, true, false, Option, None, slice_index_or, refl, sym, ap, ◌∙◌, subst, inl, inr, arith}
use Rattle.std.specs.Prelude.{Contains}
use Rattle.std.proofs.lemmas.Bool.{cases_eq}
use Rattle.std.proofs.lemmas.List.{length-map}
use Rattle.fm_buffer.specs.Outbox.{count_through}
use Rattle.fm_msg.specs.Event.{TimedMessage}
use Rattle.fm_program.specs.Fit.{PartsFit}
use Rattle.fm_program.specs.Parts.{PlanParts}
use Rattle.fm_play.proofs.PlanFacts.{plan_valid}
use Rattle.fm_round.specs.Chain.{IsIdle, Joins, link}
use Rattle.fm_round.specs.Lanes.{AllLanes, AllStarted, IsFresh, IsWaiting, RunsAll, is_running, predecessors, run_is_live, lane, without_due}
use Rattle.fm_round.specs.Starts.{Begins, StartsBehind, StartsSome}
use Rattle.fm_round.specs.Watching.{AllAwait, Awaits, IsOpenWatch, Takes, Watched, list_of, predecessor}
use Rattle.fm_round.specs.declared.lane.Lane.{Lane}
use Rattle.fm_round.specs.declared.watch.Watch.{Watch}
use Rattle.fm_round.proofs.Births.{predecessor_below}
use Rattle.fm_round.proofs.Listing.{takes_kept}
use Rattle.fm_round.proofs.Running.{lane-map}

-- who has ended does not run
pub ended_rests : (s : Lane) → s.ended ≡ true → is_running s ≡ false
ended_rests s is = ap (λ b. run_is_live b s.strand) is

-- ---- at first

pub watched_fresh : (p : PlanParts) (w : Watch) (room : ℕ) (ss : List Lane) → IsOpenWatch p w
    → ((k : ℕ) → k < length ss → IsFresh room (lane ss k)) → Watched p w ss
watched_fresh p w room ss first fresh = record {
  chain = first.chain;
  size = first.size;
  guesses = first.guesses;
  lists = first.lists;
  later = first.later;
  idle = λ j within off. let is = fresh j within in record { events = is.events; rests = rw (is.ended, is.strand) refl };
  known = λ j i within inside live. first.listed j i within inside;
}

-- ---- one process starts

pub begins_nothing : (p : PlanParts) (j : ℕ) (ss : List Lane) → AllLanes p ss → Begins p j ss ss
begins_nothing p j ss lanes = record {
  some = record { lanes = lanes; ended = λ i. refl; same = refl; rooms = refl; loads = refl };
  others = λ i apart. refl;
}

pub some_more : (p : PlanParts) (old now new : List Lane) → StartsSome p old now → StartsSome p now new → StartsSome p old new
some_more p old now new before one = record {
  lanes = one.lanes;
  ended = λ i. one.ended i ∙ before.ended i;
  same = one.same ∙ before.same;
  rooms = one.rooms ∙ before.rooms;
  loads = one.loads ∙ before.loads;
}

-- those in front of the next one have been asked
pub started_next : (p : PlanParts) (now new : List Lane) (j : ℕ) → Begins p j now new
    → ((lane new j).strand ≡ None → IsWaiting p new j) → AllStarted p now j → AllStarted p new (j + 1)
started_next p now new j begins waits before k below none = by_place (cases_eq k j)
  where
    by_place : (k ≡ j) ⊎ (k ≡ j → ⊥) → IsWaiting p new k
    by_place (inl same) =
        subst (IsWaiting p new) (sym same) (waits (subst (λ (n : ℕ). (lane new n).strand ≡ None) same none))
    by_place (inr apart) =
        let was = before k (omega (arith, below, apart)) (ap (λ (s : Lane). s.strand) (sym (begins.others k apart)) ∙ none) in record {
          at = was.at;
          there = was.there;
          live = begins.some.ended (slice_index_or (predecessors p k) was.at 0) ∙ was.live;
        }

-- none behind has
pub behind_nothing : (p : PlanParts) (before : ℕ) (ss : List Lane) → AllLanes p ss → StartsBehind p before ss ss
behind_nothing p before ss lanes = record {
  some = record { lanes = lanes; ended = λ i. refl; same = refl; rooms = refl; loads = refl };
  front = λ j up. refl;
}

-- one more has
pub behind_more : (p : PlanParts) (before j : ℕ) (old now new : List Lane) → StartsBehind p before old now → Begins p j now new
    → before < j → StartsBehind p before old new
behind_more p before j old now new starts begins less = record {
  some = some_more p old now new starts.some begins.some;
  front = λ i up. begins.others i (λ same. absurd (omega arith)) ∙ starts.front i up;
}

-- it has joined the chain
pub watched_joined : (p : PlanParts) (w v : Watch) (j : ℕ) (old new : List Lane) → Watched p w old → Begins p j old new
    → length new ≡ length old → Joins j w.next.items v.next.items → length v.guesses.items ≡ length w.guesses.items
    → v.followers ≡ w.followers → Watched p v new
watched_joined p w v j old new watched begins same joins guesses lists = record {
  chain = joins.chain;
  size = joins.size ∙ watched.size;
  guesses = guesses ∙ watched.guesses;
  lists = ap (λ vs. length vs.items) lists ∙ watched.lists;
  later = rw lists watched.later;
  idle = λ k within off. by_place k within off (cases_eq k j) (cases_eq (link w.next.items k) 0);
  known = λ k i within inside live. rw lists
      (watched.known k i within inside (sym (begins.some.ended (predecessor p k i)) ∙ live));
}
  where
    by_place : (k : ℕ) → k < length new → link v.next.items k ≡ 0 → (k ≡ j) ⊎ (k ≡ j → ⊥)
        → (link w.next.items k ≡ 0) ⊎ (link w.next.items k ≡ 0 → ⊥) → IsIdle (lane new k)
    by_place k within off (inl is) was =
        let joined : 0 < link v.next.items k = subst (λ (n : ℕ). 0 < link v.next.items n) (sym is) joins.joined in absurd (omega arith)
    by_place k within off (inr apart) (inl was) =
        subst IsIdle (sym (begins.others k apart)) (watched.idle k (omega arith) was)
    by_place k within off (inr apart) (inr on) = let stays = joins.kept k (omega arith) in absurd (omega arith)

-- it has not started
pub watched_same : (p : PlanParts) (w v : Watch) (ss : List Lane) → Watched p w ss → v.next ≡ w.next
    → length v.guesses.items ≡ length w.guesses.items → v.followers ≡ w.followers → Watched p v ss
watched_same p w v ss watched next guesses lists = record {
  chain = rw next watched.chain;
  size = rw next watched.size;
  guesses = guesses ∙ watched.guesses;
  lists = rw lists watched.lists;
  later = rw lists watched.later;
  idle = rw next watched.idle;
  known = rw lists watched.known;
}

-- one was taken out of the list of a process that has ended
pub watched_taken : (p : PlanParts) (w v : Watch) (q : ℕ) (taken : Option ℕ) (ss : List Lane) → Watched p w ss
    → v.next ≡ w.next → v.guesses ≡ w.guesses → Takes q w.followers.items taken v.followers.items → (lane ss q).ended ≡ true
    → Watched p v ss
watched_taken p w v q taken ss watched next guesses takes ended = record {
  chain = rw next watched.chain;
  size = rw next watched.size;
  guesses = rw guesses watched.guesses;
  lists = takes.size ∙ watched.lists;
  later = λ k y i. watched.later k y (takes_kept q w.followers.items taken v.followers.items takes k y i);
  idle = rw next watched.idle;
  known = λ j i within inside live. by_place j i within inside live (cases_eq (predecessor p j i) q);
}
  where
    by_place : (j i : ℕ) → j < length p.programs → i < length (predecessors p j) → (lane ss (predecessor p j i)).ended ≡ false
        → (predecessor p j i ≡ q) ⊎ (predecessor p j i ≡ q → ⊥) → Contains (list_of v.followers.items (predecessor p j i)) j
    by_place j i within inside live (inl same) =
        let never : false ≡ true = sym live ∙ ap (λ (k : ℕ). (lane ss k).ended) same ∙ ended in cc
    by_place j i within inside live (inr apart) =
        subst (λ (xs : List ℕ). Contains xs j) (sym (takes.others (predecessor p j i) apart)) (watched.known j i within inside live)

-- ---- a release

drop_none : (k : ℕ) → drop {A = TimedMessage} k [] ≡ []
drop_none zero = refl
drop_none (suc k) = refl

pub watched_release : (p : PlanParts) (w : Watch) (key : Option (ℕ × ℕ)) (ss : List Lane) → Watched p w ss
    → Watched p w (map (without_due key) ss)
watched_release p w key ss watched = record {
  chain = watched.chain;
  size = watched.size;
  guesses = watched.guesses;
  lists = watched.lists;
  later = watched.later;
  idle = λ j within off. subst IsIdle (sym (lane-map key ss j))
      (let was = watched.idle j (simp length-map at within) off in record {
        events = subst (λ (es : List TimedMessage). drop (count_through key es) es ≡ []) (sym was.events) (drop_none (count_through
            key []));
        rests = was.rests;
      });
  known = λ j i within inside live. watched.known j i within inside
      (sym (ap (λ (s : Lane). s.ended) (lane-map key ss (predecessor p j i))) ∙ live);
}

-- ---- a quantum of each

module _ (p : PlanParts) (fits : PartsFit p) (w : Watch) (limit : ℕ) (old new : List Lane) (watched : Watched p w old)
    (count : length old ≡ length p.programs) (runs : RunsAll p limit old new) (same : length new ≡ length old) where
  -- the predecessors are there
  inside_old : (j i : ℕ) → j < length p.programs → i < length (predecessors p j) → predecessor p j i < length old
  inside_old j i within inside = let below = predecessor_below p (plan_valid p fits) j i inside in omega (arith, count)

  -- who had ended has ended still
  live_before : (q : ℕ) → q < length old → (lane new q).ended ≡ false → (b : Bool) → (lane old q).ended ≡ b → (lane old q).ended ≡ false
  live_before q there live true was =
      let kept = ap (λ (s : Lane). s.ended) (runs.idle q there (ended_rests (lane old q) was)) in
      let never : false ≡ true = sym live ∙ kept ∙ was in cc
  live_before q there live false was = was

  pub watched_run : Watched p w new
  watched_run = record {
    chain = watched.chain;
    size = watched.size;
    guesses = watched.guesses;
    lists = watched.lists;
    later = watched.later;
    idle = λ j within off.
        let was = watched.idle j (omega (arith, same)) off in
        subst IsIdle (sym (runs.idle j (omega (arith, same)) was.rests)) was;
    known = λ j i within inside live.
        watched.known j i within inside
        (live_before (predecessor p j i) (inside_old j i within inside) live (lane old (predecessor p j i)).ended refl);
  }

  -- who waited for a process that ended is in its list
  pub await_run : AllStarted p old (length old) → AllAwait p w 0 new
  await_run started j within unborn =
      let waits = started j (omega (arith, same)) (runs.begun j (omega (arith, same)) unborn) in
      by_end waits (lane new (predecessor p j waits.at)).ended refl (cases_eq (link w.next.items (predecessor p j waits.at)) 0)
    where
      by_end : (waits : IsWaiting p old j) (b : Bool) → (lane new (predecessor p j waits.at)).ended ≡ b
          → (link w.next.items (predecessor p j waits.at) ≡ 0) ⊎ (link w.next.items (predecessor p j waits.at) ≡ 0 → ⊥)
          → (IsWaiting p new j) ⊎ (Awaits p w 0 j)
      by_end waits false now chained = inl (record { at = waits.at; there = waits.there; live = now })
      by_end waits true now (inl off) =
          let there = inside_old j waits.at (omega (arith, same, count)) waits.there in
          let idle = watched.idle (predecessor p j waits.at) there off in
          let kept = ap (λ (s : Lane). s.ended) (runs.idle (predecessor p j waits.at) there idle.rests) in
          let never : true ≡ false = sym now ∙ kept ∙ waits.live in cc
      by_end waits true now (inr on) = inr (record {
        index = waits.at;
        there = waits.there;
        from = omega arith;
        chained = omega arith;
        listed = watched.known j waits.at (omega (arith, same, count)) waits.there waits.live;
      })

-- ---- a round

started_release : (p : PlanParts) (key : Option (ℕ × ℕ)) (ss : List Lane) → AllStarted p ss (length ss)
    → AllStarted p (map (without_due key) ss) (length (map (without_due key) ss))
started_release p key ss started j within unborn =
    let waits = started j (simp length-map at within) (sym (ap (λ (s : Lane). s.strand) (lane-map key ss j)) ∙ unborn) in record {
      at = waits.at;
      there = waits.there;
      live = ap (λ (s : Lane). s.ended) (lane-map key ss (predecessor p j waits.at)) ∙ waits.live;
    }

module _ (p : PlanParts) (fits : PartsFit p) (w : Watch) (key : Option (ℕ × ℕ)) (limit : ℕ) (ss released ran : List Lane)
    (watched : Watched p w ss) (count : length ss ≡ length p.programs) (took : released ≡ map (without_due key) ss)
    (runs : RunsAll p limit released ran) (same : length ran ≡ length released) where
  taken : length (map (without_due key) ss) ≡ length p.programs
  taken = length-map ss (without_due key) ∙ count

  runs_taken : RunsAll p limit (map (without_due key) ss) ran
  runs_taken = subst (λ (xs : List Lane). RunsAll p limit xs ran) took runs

  same_taken : length ran ≡ length (map (without_due key) ss)
  same_taken = same ∙ ap length took

  -- who is not in the chain is idle after a round
  pub watched_round : Watched p w ran
  watched_round =
      watched_run p fits w limit (map (without_due key) ss) ran (watched_release p w key ss watched) taken runs_taken same_taken

  -- and who waited for a process that ended is in its list
  pub await_round : AllStarted p ss (length ss) → AllAwait p w 0 ran
  await_round started =
      await_run p fits w limit (map (without_due key) ss) ran (watched_release p w key ss watched) taken runs_taken same_taken
      (started_release p key ss started)
