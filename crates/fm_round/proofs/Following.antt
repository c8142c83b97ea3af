-- Who waits is in the list of one that ends.
use Rattle.std.proofs.Common.{◌≡◌, ◌⊎◌, ℕ, ◌+◌, ◌<◌, ◌≤◌, List, [], length, get_or, false, Some, None, sym, ap, ◌∙◌, subst, inl, inr, arith}
use Rattle.std.specs.Prelude.{Vec, Contains}
use Rattle.std.specs.Global.{Global}
use Rattle.std.proofs.lemmas.Bool.{cases_eq}
use Rattle.fm_program.specs.Parts.{PlanParts}
use Rattle.fm_round.specs.Chain.{IsChain, link}
use Rattle.fm_round.specs.Lanes.{AllStarted, IsWaiting, predecessors, lane}
use Rattle.fm_round.specs.Starts.{Begins}
use Rattle.fm_round.specs.Watching.{AllAwait, Awaits, Takes, list_of, predecessor}
use Rattle.fm_round.specs.declared.lane.Lane.{Lane}
use Rattle.fm_round.specs.declared.watch.Watch.{Watch}
use Rattle.fm_round.proofs.Listing.{in_none, takes_one}
use Rattle.fm_round.proofs.Chaining.{chained_within, none_between}

-- ---- who waits

-- who waits does so as long as no process has ended
pub waiting_kept : (p : PlanParts) (j : ℕ) (old new : List Lane) → ((i : ℕ) → (lane new i).ended ≡ (lane old i).ended)
    → IsWaiting p old j → IsWaiting p new j
waiting_kept p j old new ended waits = record {
  at = waits.at;
  there = waits.there;
  live = ended (get_or (predecessors p j) waits.at 0) ∙ waits.live;
}

-- one was taken out of a list, and has started or waits
pub await_more : (p : PlanParts) (w v : Watch) (fs : Vec (Vec ℕ Global) Global) (q x : ℕ) (old new : List Lane) → Begins p x old new
    → ((lane new x).strand ≡ None → IsWaiting p new x) → length new ≡ length old
    → ((k : ℕ) → 0 < link w.next.items k → 0 < link v.next.items k)
    → Takes q w.followers.items (Some x) fs.items → v.followers ≡ fs
    → AllAwait p w q old → AllAwait p v q new
await_more p w v fs q x old new begins own same chained takes lists before j within unborn = by_index (cases_eq j x)
  where
    by_list : (j ≡ x → ⊥) → (a : Awaits p w q j) → (Contains (list_of v.followers.items (predecessor p j a.index)) j) ⊎ (j ≡ x)
        → (IsWaiting p new j) ⊎ (Awaits p v q j)
    by_list apart a (inl there) = inr (record {
      index = a.index;
      there = a.there;
      from = a.from;
      chained = chained (predecessor p j a.index) a.chained;
      listed = there;
    })
    by_list apart a (inr one) = absurd (apart one)

    by_wait : (j ≡ x → ⊥) → (IsWaiting p old j) ⊎ (Awaits p w q j) → (IsWaiting p new j) ⊎ (Awaits p v q j)
    by_wait apart (inl waits) = inl (waiting_kept p j old new begins.some.ended waits)
    by_wait apart (inr a) =
        by_list apart a (subst (λ (vs : Vec (Vec ℕ Global) Global). (Contains (list_of vs.items (predecessor p j a.index)) j) ⊎ (j ≡ x))
        (sym lists) (takes_one q x w.followers.items fs.items takes (predecessor p j a.index) j a.listed))

    by_index : (j ≡ x) ⊎ (j ≡ x → ⊥) → (IsWaiting p new j) ⊎ (Awaits p v q j)
    by_index (inl is) = inl (subst (IsWaiting p new) (sym is) (own (sym (ap (λ (k : ℕ). (lane new k).strand) is) ∙ unborn)))
    by_index (inr apart) =
        by_wait apart (before j (omega arith) (sym (ap (λ (s : Lane). s.strand) (begins.others j apart)) ∙ unborn))

module _ (p : PlanParts) (w : Watch) (q : ℕ) (ss : List Lane) (before : AllAwait p w q ss) where
  -- nobody is left in the list of q
  pub await_past : (v : Watch) → v.next ≡ w.next → list_of v.followers.items q ≡ []
      → ((k : ℕ) → (k ≡ q → ⊥) → list_of v.followers.items k ≡ list_of w.followers.items k)
      → list_of w.followers.items q ≡ [] → AllAwait p v (q + 1) ss
  await_past v next empty others none j within unborn = by_wait (before j within unborn)
    where
      by_index : (a : Awaits p w q j) → (predecessor p j a.index ≡ q) ⊎ (predecessor p j a.index ≡ q → ⊥)
          → (IsWaiting p ss j) ⊎ (Awaits p v (q + 1) j)
      by_index a (inl same) =
          absurd (in_none j (subst (λ (xs : List ℕ). Contains xs j) none
          (subst (λ (n : ℕ). Contains (list_of w.followers.items n) j) same a.listed)))
      by_index a (inr apart) = inr (record {
        index = a.index;
        there = a.there;
        from = let from = a.from in omega arith;
        chained = subst (λ (n : Vec ℕ Global). 0 < link n.items (predecessor p j a.index)) (sym next) a.chained;
        listed = subst (λ (xs : List ℕ). Contains xs j) (sym (others (predecessor p j a.index) apart)) a.listed;
      })

      by_wait : (IsWaiting p ss j) ⊎ (Awaits p w q j) → (IsWaiting p ss j) ⊎ (Awaits p v (q + 1) j)
      by_wait (inl waits) = inl waits
      by_wait (inr a) = by_index a (cases_eq (predecessor p j a.index) q)

  -- q has not ended
  pub await_live : (lane ss q).ended ≡ false → AllAwait p w (q + 1) ss
  await_live live j within unborn = by_wait (before j within unborn)
    where
      by_index : (a : Awaits p w q j) → (predecessor p j a.index ≡ q) ⊎ (predecessor p j a.index ≡ q → ⊥)
          → (IsWaiting p ss j) ⊎ (Awaits p w (q + 1) j)
      by_index a (inl same) = inl (record {
        at = a.index;
        there = a.there;
        live = ap (λ (n : ℕ). (lane ss n).ended) same ∙ live;
      })
      by_index a (inr apart) = inr (record {
        index = a.index;
        there = a.there;
        from = let from = a.from in omega arith;
        chained = a.chained;
        listed = a.listed;
      })

      by_wait : (IsWaiting p ss j) ⊎ (Awaits p w q j) → (IsWaiting p ss j) ⊎ (Awaits p w (q + 1) j)
      by_wait (inl waits) = inl waits
      by_wait (inr a) = by_index a (cases_eq (predecessor p j a.index) q)

  -- all are past
  pub await_none : IsChain w.next.items → length w.next.items ≡ length ss → length ss ≤ q → AllStarted p ss (length ss)
  await_none chain size past j within unborn = by_wait (before j within unborn)
    where
      by_wait : (IsWaiting p ss j) ⊎ (Awaits p w q j) → IsWaiting p ss j
      by_wait (inl waits) = waits
      by_wait (inr a) =
          let inside = chained_within w.next.items chain (predecessor p j a.index) a.chained in
          let from = a.from in absurd (omega arith)

-- what is not in the chain needs no look
pub await_next : (p : PlanParts) (w : Watch) (q : ℕ) (ss : List Lane) → IsChain w.next.items → AllAwait p w (q + 1) ss
    → AllAwait p w (link w.next.items q) ss
await_next p w q ss chain before j within unborn = by_wait (before j within unborn)
  where
    by_wait : (IsWaiting p ss j) ⊎ (Awaits p w (q + 1) j) → (IsWaiting p ss j) ⊎ (Awaits p w (link w.next.items q) j)
    by_wait (inl waits) = inl waits
    by_wait (inr a) = inr (record {
      index = a.index;
      there = a.there;
      from = let from = a.from in none_between w.next.items chain q (predecessor p j a.index) a.chained (omega arith);
      chained = a.chained;
      listed = a.listed;
    })
