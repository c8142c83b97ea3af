-- One round: what the hands may be given, and what is watched after it.
use Rattle.std.proofs.Common.{◌≡◌, ℕ, ◌+◌, ◌-◌, ◌^◌, ◌<◌, List, length, map, min, All, Option, sym, ap, ◌∙◌, subst, arith}
use Rattle.std.proofs.lemmas.List.{length-map}
use Rattle.fm_edge.specs.Seen.{SinkSeen}
use Rattle.fm_program.specs.Fit.{PartsFit}
use Rattle.fm_program.specs.Parts.{PlanParts}
use Rattle.fm_round.specs.Chain.{AreChained}
use Rattle.fm_round.specs.Hands.{IsRound, MayRun}
use Rattle.fm_round.specs.Lanes.{AllStarted, IsLeast, RunsAll, live_clock, without_due}
use Rattle.fm_round.specs.Watching.{AllAwait, AreWatched, Watched}
use Rattle.fm_round.specs.declared.lane.Lane.{Lane}
use Rattle.fm_round.specs.declared.watch.Watch.{Watch}
use Rattle.fm_round.specs.Rounds.{AreOpened, first_room}
use Rattle.fm_round.specs.declared.stage.Stage.{Stage}
use Rattle.fm_round.proofs.Between.{Interval, fresh_lanes}
use Rattle.fm_round.proofs.Running.{lane-map, lanes_release, rooms-release}
use Rattle.fm_round.proofs.Watched.{await_round, watched_release, watched_round}

-- at first
pub first_watched : (p : PlanParts) (stage : Stage) (ss : List Lane) → AreOpened p stage ss → AreWatched p stage.watch ss
first_watched p stage ss are = record {
  processes = record {
    fits = are.opened.fits;
    count = are.opened.count;
    lanes = fresh_lanes p (first_room ss) ss are.opened.fresh;
  };
  watch = are.watched;
}

-- a plan has few processes
pub few_lanes : (p : PlanParts) (ss : List Lane) → PartsFit p → length ss ≡ length p.programs → length ss < 2 ^ 32
few_lanes p ss fits count = let few = fits.few in omega (arith, count, few)

-- the chain of what is watched
pub watch_chained : (p : PlanParts) (w : Watch) (ss : List Lane) (next : List ℕ) → Watched p w ss → length ss ≡ length p.programs
    → next ≡ w.next.items → AreChained next ss
watch_chained p w ss next watched count is =
    subst (λ (ns : List ℕ). AreChained ns ss) (sym is)
    (record { chain = watched.chain; size = watched.size ∙ sym count; idle = watched.idle })

-- a process that is the least is so without its events that are due
least_without : (p : PlanParts) (key : Option (ℕ × ℕ)) (ss : List Lane) (c m : ℕ) → IsLeast p ss (length ss) c m
    → IsLeast p (map (without_due key) ss) (length (map (without_due key) ss)) c m
least_without p key ss c m least =
    let many = length-map ss (without_due key) in record {
      inside = let inside = least.inside in omega (arith, many, inside);
      clock = ap (live_clock p) (lane-map key ss m) ∙ least.clock;
      least = λ j t within live. least.least j t (omega (arith, many, within)) (sym (ap (live_clock p) (lane-map key ss j)) ∙ live);
    }

module _ {K : Type 0} {seen : SinkSeen K} {p : PlanParts} (here : Interval seen p) {w : Watch} (watched : Watched p w here.lanes)
    (key : Option (ℕ × ℕ)) {ss : List Lane} (took : ss ≡ map (without_due key) here.lanes) where
  -- once what is due was taken, the processes may run
  may_run : MayRun p w.next.items (map (without_due key) here.lanes)
  may_run =
      let after = watched_release p w key here.lanes watched in
      let many = length-map here.lanes (without_due key) in
      let few = here.fits.few in
      let count = here.between.count in record {
        few = omega (arith, many, count, few);
        lanes = lanes_release p key here.lanes here.between.lanes;
        chained = record { chain = after.chain; size = after.size ∙ sym (many ∙ count); idle = after.idle };
      }

  -- up to the lead from the least clock
  pub is_round : (lead limit c m : ℕ) (next : List ℕ) → IsLeast p here.lanes (length here.lanes) c m → next ≡ w.next.items
      → limit ≡ min (c + lead) (2 ^ 64 - 1) → IsRound p here.room lead limit next ss
  is_round lead limit c m next least chain is =
      subst (λ (x : List ℕ × List Lane). IsRound p here.room lead limit x.0 x.1) (λ k. (sym chain k, sym took k))
      (record {
        may = may_run;
        rooms = subst (All (λ r. r ≡ here.room)) (sym (rooms-release key here.lanes)) here.between.rooms;
        ahead = record { time = c; process = m; least = least_without p key here.lanes c m least; is = is };
      })

  -- after the quanta who is not in the chain is idle
  pub stays_watched : {limit : ℕ} {ran : List Lane} → RunsAll p limit ss ran → length ran ≡ length ss → AreWatched p w ran
  stays_watched {limit = limit} {ran = ran} runs same =
      let many = length-map here.lanes (without_due key) in
      let taken = ap length took in
      let count = here.between.count in record {
        processes = record { fits = here.fits; count = omega (arith, same, taken, many, count); lanes = runs.lanes };
        watch = watched_round p here.fits w key limit here.lanes ss ran watched count took runs same;
      }

  -- and who waited for a process that ended is in its list
  pub stays_awaited : AllStarted p here.lanes (length here.lanes) → {limit : ℕ} {ran : List Lane} → RunsAll p limit ss ran
      → length ran ≡ length ss → AllAwait p w 0 ran
  stays_awaited started {limit = limit} {ran = ran} runs same =
      await_round p here.fits w key limit here.lanes ss ran watched here.between.count took runs same started
