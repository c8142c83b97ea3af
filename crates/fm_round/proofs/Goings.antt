-- What is written and watched in a turn, from process to process.
use Rattle.std.proofs.Common.{◌≡◌, ◌⊎◌, ℕ, ◌+◌, ◌<◌, ◌≤◌, List, length, map, Bool, true, false, Some, None, Result, Ok, Err, refl, sym, ap, ◌∙◌, subst, inl, inr, arith, length-append}
use Rattle.std.proofs.Common.{Fits, w32, w64}
use Rattle.std.specs.Prelude.{IfOk, IsErr, OnOk}
use Rattle.std.proofs.lemmas.Bool.{cases_eq}
use Rattle.fm_edge.specs.Seen.{SinkSeen}
use Rattle.fm_edge.specs.Runs.{Breaks}
use Rattle.fm_msg.specs.Event.{TimedMessage}
use Rattle.fm_line.specs.declared.limits.TheConstants.{MAX_EVENTS}
use Rattle.fm_line.specs.Piece.{In, sorted}
use Rattle.fm_line.proofs.Pieces.{length-piece}
use Rattle.fm_line.proofs.Sorting.{length-sorted}
use Rattle.fm_buffer.specs.Gather.{EventGather}
use Rattle.fm_program.specs.Fit.{PartsFit}
use Rattle.fm_program.specs.Parts.{PlanParts}
use Rattle.fm_program.specs.Process.{plan_lines}
use Rattle.fm_program.proofs.Lines.{plan-lines-length}
use Rattle.fm_smf.specs.Track.{events_bytes}
use Rattle.fm_smf.specs.Writing.{Written, Writes, just_begun}
use Rattle.fm_play.proofs.PlanFacts.{plan_valid}
use Rattle.fm_round.specs.Chain.{IsIdle, link}
use Rattle.fm_round.specs.Lefts.{joined}
use Rattle.fm_round.specs.Lanes.{AllLanes, IsWaiting, due, lane, lefts, live_clock, loads, room_of, without_due}
use Rattle.fm_round.specs.Halfway.{Between}
use Rattle.fm_round.specs.Rounds.{MayRelease}
use Rattle.fm_round.specs.Starts.{StartsBehind}
use Rattle.fm_round.specs.Turns.{AllFrom, GoesOn, IsPast, IsPlaying, OwnDue, Serves, StopsShort}
use Rattle.fm_round.specs.Watching.{AllAwait, Awaits, Watched, predecessor}
use Rattle.fm_round.specs.declared.lane.Lane.{Lane}
use Rattle.fm_round.specs.declared.watch.Watch.{Watch}
use Rattle.fm_round.proofs.Between.{Interval, between_kept, between_released, may_release, release_breaks}
use Rattle.fm_round.proofs.Parting.{FrontsFirst}
use Rattle.fm_round.proofs.Releasing.{from_first, parts}
use Rattle.fm_round.proofs.Running.{lane-map, loads-release}
use Rattle.fm_round.proofs.Reaching.{Reached, reached_more}
use Rattle.fm_round.proofs.OneDue.{from_backs, from_stays, own_due, waits_past}

-- ---- what an error says

pub no_ok : {T E : Type 0} (P : Type 0) (r : Result T E) → IsErr r → OnOk r P
no_ok P (Ok x) is = absurd (cc)
no_ok P (Err e) is = tt

pub no_value : {T E : Type 0} (P : T → Type 0) (r : Result T E) → IsErr r → IfOk r P
no_value P (Ok x) is = absurd (cc)
no_value P (Err e) is = tt

-- a number that fits 32 bits fits 64
pub wider : (n : ℕ) → Fits w32 n → Fits w64 n
wider n fits = omega (arith, fits)

pub no_less : (n : ℕ) → n ≤ n
no_less n = omega arith

-- ---- what is written

-- the number of events stays small
pub few_between : {K : Type 0} {seen : SinkSeen K} {p : PlanParts} → PartsFit p → {room : ℕ} {start now : K} {first writer : Written}
    {ss : List Lane} {gather : EventGather} {events : ℕ} → Between seen p room start now first writer ss gather events
    → events ≤ MAX_EVENTS
few_between {p = p} fits {ss = ss} between =
    let valid = plan_valid p fits in
    omega (
      arith,
      between.many,
      ap length between.playing.whole,
      length-append between.done (sorted (joined (lefts p (plan_lines p) ss))),
      length-piece (plan_lines p),
      length-sorted (joined (lefts p (plan_lines p) ss)),
      valid.events,
    )

pub is_playing : {K : Type 0} {seen : SinkSeen K} {p : PlanParts} → PartsFit p → {room : ℕ} {start now : K} {first writer : Written}
    {ss : List Lane} {gather : EventGather} {events : ℕ} → first ≡ just_begun p.profile
    → Between seen p room start now first writer ss gather events → IsPlaying seen p now writer ss gather
is_playing fits {room = room} {start = start} {first = first} {events = events} begun between = record {
  fits = fits;
  room = room;
  begin = start;
  first = first;
  events = events;
  begun = begun;
  between = between;
}

module _ {K : Type 0} {seen : SinkSeen K} {p : PlanParts} where
  pub goes_none : (now : K) (writer : Written) (ss : List Lane) (gather : EventGather)
      → GoesOn seen p 0 now now writer writer ss ss gather gather
  goes_none now writer ss gather room start first events begun between =
      subst (λ (n : ℕ). Between seen p room start now first writer ss gather n) none_more between
    where
      none_more : events ≡ events + 0
      none_more = omega arith

  -- one after the other
  pub goes_more : (n m : ℕ) {a b c : K} {wa wb wc : Written} {sa sb sc : List Lane} {ga gb gc : EventGather}
      → GoesOn seen p n a b wa wb sa sb ga gb → GoesOn seen p m b c wb wc sb sc gb gc
      → GoesOn seen p (n + m) a c wa wc sa sc ga gc
  goes_more n m {c = c} {wc = wc} {sc = sc} {gc = gc} one two room start first events begun between =
      subst (λ (k : ℕ). Between seen p room start c first wc sc gc k) sum
      (two room start first (events + n) begun (one room start first events begun between))
    where
      sum : events + n + m ≡ events + (n + m)
      sum = omega arith

  -- where as much is left of each process
  pub goes_kept : (n : ℕ) {a b : K} {wa wb : Written} {sa sb sc : List Lane} {ga gb : EventGather}
      → GoesOn seen p n a b wa wb sa sb ga gb → lefts p (plan_lines p) sc ≡ lefts p (plan_lines p) sb
      → map room_of sc ≡ map room_of sb → AllLanes p sc → length sc ≡ length sb → GoesOn seen p n a b wa wb sa sc ga gb
  goes_kept n one same rooms lanes size room start first events begun between =
      between_kept (one room start first events begun between) same rooms lanes size

  -- and where processes have started
  pub goes_started : (n before : ℕ) {a b : K} {wa wb : Written} {sa : List Lane} (sb sc : List Lane) {ga gb : EventGather}
      → GoesOn seen p n a b wa wb sa sb ga gb → StartsBehind p before sb sc → length sc ≡ length sb
      → GoesOn seen p n a b wa wb sa sc ga gb
  goes_started n before sb sc one starts size = goes_kept n one starts.some.same starts.some.rooms starts.some.lanes size

  pub goes_stops : (n : ℕ) {a b c : K} {wa wb : Written} {sa sb : List Lane} {ga gb : EventGather}
      → GoesOn seen p n a b wa wb sa sb ga gb → StopsShort seen p b c wb sb gb → StopsShort seen p a c wa sa ga
  goes_stops n one stops room start first events begun between =
      stops room start first (events + n) begun (one room start first events begun between)

  pub playing_on : (n : ℕ) {a b : K} {wa wb : Written} {sa sb : List Lane} {ga gb : EventGather}
      → IsPlaying seen p a wa sa ga → GoesOn seen p n a b wa wb sa sb ga gb → IsPlaying seen p b wb sb gb
  playing_on n playing goes = record {
    fits = playing.fits;
    room = playing.room;
    begin = playing.begin;
    first = playing.first;
    events = playing.events + n;
    begun = playing.begun;
    between = goes playing.room playing.begin playing.first playing.events playing.begun playing.between;
  }

  -- ---- what is due of one process

  module _ {now : K} {writer : Written} {ss : List Lane} {gather : EventGather}
      (playing : IsPlaying seen p now writer ss gather) (tick at : ℕ) (there : at < length ss)
      (from : AllFrom tick at (lefts p (plan_lines p) ss)) where
    -- what is known of any beginning
    abbrev since : {room : ℕ} {start : K} {first : Written} {events : ℕ} → first ≡ just_begun p.profile
        → Between seen p room start now first writer ss gather events → Interval seen p
    since {room = room} {start = start} {first = first} {events = events} begun between = record {
      fits = playing.fits;
      room = room;
      start = start;
      now = now;
      first = first;
      writer = writer;
      begun = begun;
      lanes = ss;
      gather = gather;
      events = events;
      between = between;
    }

    due_first_of_all : FrontsFirst (parts p (Some (tick, at)) (plan_lines p) ss)
    due_first_of_all =
        from_first p (plan_lines p) ss tick at (from_backs p (Some (tick, at)) (plan_lines p) ss tick at from)

    pub owns_due : OwnDue (tick, at) ss
    owns_due =
        own_due p ss (playing.between.count ∙ sym (plan-lines-length p)) playing.between.playing.own tick at there from

    pub may_release_own : MayRelease (Some (tick, at)) ss gather writer
    may_release_own = may_release (since playing.begun playing.between) (Some (tick, at)) due_first_of_all

    -- after it so many events more are written
    pub served_goes : (n more : ℕ) {a : K} {wa : Written} {sa : List Lane} {ga : EventGather} {then : K} {after : Written}
        {rest : List Lane} {cleared : EventGather} → GoesOn seen p n a now wa writer sa ss ga gather
        → more ≡ length (joined (map (due (Some (tick, at))) ss)) → rest ≡ map (without_due (Some (tick, at))) ss
        → Writes seen now then (sorted (joined (map (due (Some (tick, at))) ss))) writer after → cleared ≡ gather
        → GoesOn seen p (n + more) a then wa after sa rest ga cleared
    served_goes n more {a = a} {wa = wa} {sa = sa} {ga = ga} {then = then} {after = after} {rest = rest} {cleared = cleared}
        goes count took wrote same =
        subst (λ (k : ℕ). GoesOn seen p (n + k) a then wa after sa rest ga cleared) (sym count)
        (goes_more n (length (joined (map (due (Some (tick, at))) ss))) goes
        (λ room start first events begun between.
        between_released (since begun between) (Some (tick, at)) due_first_of_all took wrote same))

    pub released_stops : {then : K} → Breaks seen now then (events_bytes writer.state (sorted (joined (map (due (Some (tick, at))) ss))))
        → StopsShort seen p now then writer ss gather
    released_stops {then = then} breaks room start first events begun between =
        release_breaks (since begun between) (Some (tick, at)) due_first_of_all then breaks

    -- what is left still lies from the pair on
    pub from_of_one : {rest : List Lane} → rest ≡ map (without_due (Some (tick, at))) ss → AllFrom tick at (lefts p (plan_lines p) rest)
    from_of_one took =
        subst (λ (xs : List Lane). AllFrom tick at (lefts p (plan_lines p) xs)) (sym took)
        (from_stays p (Some (tick, at)) (plan_lines p) ss tick at from)

    -- and of the process nothing waits up to the tick
    pub waits_of_one : {rest : List Lane} → rest ≡ map (without_due (Some (tick, at))) ss → (e : TimedMessage)
        → In e (lane rest at).outbox.events → tick < e.time
    waits_of_one took e i =
        waits_past p ss (playing.between.count ∙ sym (plan-lines-length p)) playing.between.playing.own tick at there from e
        (subst (λ (s : Lane). In e s.outbox.events)
        (ap (λ (xs : List Lane). lane xs at) took ∙ lane-map (Some (tick, at)) ss at) i)

    -- and as much is left to do
    pub loads_of_one : {rest : List Lane} → rest ≡ map (without_due (Some (tick, at))) ss → loads p 0 rest ≡ loads p 0 ss
    loads_of_one took = ap (loads p 0) took ∙ loads-release p 0 (Some (tick, at)) ss

-- ---- along the chain

-- a process was served, and some behind it have started
module _ (p : PlanParts) (tick at : ℕ) (all : Bool) (old now new : List Lane) (serves : Serves p tick at all old now)
    (starts : StartsBehind p at now new) where
  -- there is no more to do
  pub less_next : (n : ℕ) → loads p 0 old ≤ n → loads p 0 new ≤ n
  less_next n before = let less = serves.less in let same = starts.some.loads in omega arith

  -- and so far the turn has come, if nothing of the tick is left of it
  pub reached_next : {K : Type 0} {seen : SinkSeen K} {room : ℕ} {start last : K} {first writer : Written} {gather : EventGather}
      {events : ℕ} → PartsFit p → Between seen p room start last first writer new gather events → (w : Watch) → Watched p w new
      → 0 < link w.next.items at → AllAwait p w (link w.next.items at) new → Reached p tick at old → all ≡ true
      → Reached p tick (link w.next.items at) new
  reached_next fits between w watched on awaits before is =
      reached_more p w tick at new (plan_valid p fits) (between.count ∙ sym (plan-lines-length p)) between.lanes
      between.playing.own watched.chain (watched.size ∙ sym between.count) watched.idle on awaits
      (subst (AllFrom tick at) (sym starts.some.same) (serves.from is))
      (subst (IsPast p tick) (sym (starts.front at (omega arith))) (serves.past is))
      (λ j t below live. before.past j t below
      (subst (λ (s : Lane). live_clock p s ≡ Some t)
      (starts.front j (omega arith) ∙ serves.others j (λ same. absurd (omega arith))) live))

-- ---- what is watched

module _ (p : PlanParts) (fits : PartsFit p) (w : Watch) (tick j : ℕ) (all : Bool) (old new : List Lane) (watched : Watched p w old)
    (count : length old ≡ length p.programs) (serves : Serves p tick j all old new) (on : 0 < link w.next.items j) where
  -- who had ended has ended still
  live_before : (q : ℕ) → (lane new q).ended ≡ false → (lane old q).ended ≡ false
  live_before q live = by_place (cases_eq q j) (lane old q).ended refl
    where
      by_place : (q ≡ j) ⊎ (q ≡ j → ⊥) → (b : Bool) → (lane old q).ended ≡ b → (lane old q).ended ≡ false
      by_place side false was = was
      by_place (inl same) true was =
          let now : (lane new q).ended ≡ true =
          subst (λ (k : ℕ). (lane new k).ended ≡ true) (sym same)
          (serves.ended (subst (λ (k : ℕ). (lane old k).ended ≡ true) same was)) in
          let never : false ≡ true = sym live ∙ now in cc
      by_place (inr apart) true was =
          let never : false ≡ true = sym live ∙ ap (λ (s : Lane). s.ended) (serves.others q apart) ∙ was in cc

  -- who has started stays so
  unborn_before : (q : ℕ) → (lane new q).strand ≡ None → (lane old q).strand ≡ None
  unborn_before q unborn = by_place (cases_eq q j)
    where
      by_place : (q ≡ j) ⊎ (q ≡ j → ⊥) → (lane old q).strand ≡ None
      by_place (inl same) =
          subst (λ (k : ℕ). (lane old k).strand ≡ None) (sym same)
          (serves.begun (subst (λ (k : ℕ). (lane new k).strand ≡ None) same unborn))
      by_place (inr apart) = sym (ap (λ (s : Lane). s.strand) (serves.others q apart)) ∙ unborn

  pub watched_served : Watched p w new
  watched_served = record {
    chain = watched.chain;
    size = watched.size;
    guesses = watched.guesses;
    lists = watched.lists;
    later = watched.later;
    idle = λ k within off. by_place k within off (cases_eq k j);
    known = λ k i within inside live. watched.known k i within inside (live_before (predecessor p k i) live);
  }
    where
      by_place : (k : ℕ) → k < length new → link w.next.items k ≡ 0 → (k ≡ j) ⊎ (k ≡ j → ⊥) → IsIdle (lane new k)
      by_place k within off (inl same) =
          let chained : 0 < link w.next.items k = subst (λ (n : ℕ). 0 < link w.next.items n) (sym same) on in absurd (omega arith)
      by_place k within off (inr apart) =
          subst IsIdle (sym (serves.others k apart)) (watched.idle k (omega (arith, serves.size)) off)

  -- who waits for one that ended is in its list
  pub await_served : AllAwait p w j old → AllAwait p w j new
  await_served before k within unborn = by_wait (before k (omega (arith, serves.size)) (unborn_before k unborn))
    where
      by_end : (waits : IsWaiting p old k) → (predecessor p k waits.at ≡ j) ⊎ (predecessor p k waits.at ≡ j → ⊥)
          → (b : Bool) → (lane new (predecessor p k waits.at)).ended ≡ b → (IsWaiting p new k) ⊎ (Awaits p w j k)
      by_end waits side false now = inl (record { at = waits.at; there = waits.there; live = now })
      by_end waits (inl same) true now = inr (record {
        index = waits.at;
        there = waits.there;
        from = omega arith;
        chained = subst (λ (n : ℕ). 0 < link w.next.items n) (sym same) on;
        listed = watched.known k waits.at (omega (arith, serves.size, count)) waits.there waits.live;
      })
      by_end waits (inr apart) true now =
          let never : true ≡ false = sym now ∙ ap (λ (s : Lane). s.ended) (serves.others (predecessor p k waits.at) apart) ∙ waits.live in
          cc

      by_wait : (IsWaiting p old k) ⊎ (Awaits p w j k) → (IsWaiting p new k) ⊎ (Awaits p w j k)
      by_wait (inl waits) = by_end waits (cases_eq (predecessor p k waits.at) j) (lane new (predecessor p k waits.at)).ended refl
      by_wait (inr a) = inr a
