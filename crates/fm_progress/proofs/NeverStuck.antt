-- The chosen step is allowed and leaves less to do.
use Rattle.std.proofs.Common.{◌≡◌, ℕ, ◌+◌, ◌<◌, ◌≤◌, length, Bool, true, false, Option, Some, None, refl, ap, ⊎_elim, arith, ltb-true}
use Rattle.std.proofs.lemmas.Bool.{eqb-true, eq-eqb}
use Rattle.std.specs.Prelude.{not, ◌&&◌, ◌||◌, nat_eq, nat_lt, if◌then◌else◌}
use Rattle.fm_line.specs.Line.{line, upper, total}
use Rattle.fm_core.proofs.Below.{Found, none_found, some_found, none_any, not_any}
use Rattle.fm_core.proofs.Booleans.{not_false, not_true, false_from, true_from, or_right, both, and_true, not_below, if_true, if_false}
use Rattle.fm_core.proofs.TagLemmas.{nothing_is, drained_is, out_held}
use Rattle.fm_core.specs.Floors.{floor_eq}
use Rattle.fm_core.specs.Invariant.{ValidSetting, Sound}
use Rattle.fm_core.specs.Numbers.{bit, is_some, find_below, any_below}
use Rattle.fm_core.specs.State.{Setting, State, cell, desk}
use Rattle.fm_core.specs.Steps.{unvisited}
use Rattle.fm_core.specs.Tags.{is_unborn, is_home, is_out, is_at_hand, is_held, has_nothing, is_drained}
use Rattle.fm_core.specs.Taking.{is_due, count_due, outbox, must_take}
use Rattle.fm_core.specs.declared.due.Due.{Due}
use Rattle.fm_core.specs.declared.due.Due.TheVariants.{Nothing, Pair, Everything}
use Rattle.fm_core.specs.declared.step.Step.{Step}
use Rattle.fm_core.specs.declared.step.Step.TheVariants.{Publish, Record, Give, Look, Claim, Pace, Release}
use Rattle.fm_core.specs.declared.tag.Tag.TheVariants.{Drained}
use Rattle.fm_progress.proofs.Backs.{back_nearer}
use Rattle.fm_progress.proofs.ClaimedTags.{some_claimable, hand_claimable}
use Rattle.fm_progress.proofs.Claims.{release_nearer, start_nearer, pace_nearer, work_nearer, take_nearer, visit_nearer, none_empty}
use Rattle.fm_progress.proofs.Gives.{lower_give}
use Rattle.fm_progress.proofs.Looks.{visits_nearer, anew_nearer, on_nearer}
use Rattle.fm_progress.proofs.Owed.{lower_record}
use Rattle.fm_progress.proofs.Publishes.{publish_nearer}
use Rattle.fm_progress.specs.Left.{ready, events_left, next_within, workable, may_compute, can_lower, waits_for_visit, idle, any_stale}
use Rattle.fm_progress.specs.NextStep.{first_rule, lowers, gives_back, startable, visits, sweeps, is_finished, next_step, or_else, releases, starts, works, claims}
use Rattle.fm_progress.specs.Progress.{Nearer, GoesOn, Finished}

module _ (g : Setting) (h : State) (valid : ValidSetting g) (ok : Sound g h) where
  abbrev n : ℕ
  n = length h.cells

  some_process : 0 < n
  some_process = let a = ok.lined in let b = valid.lines.some in omega arith

  module _ (busy : is_finished g h ≡ false) (none_lowers : idle g h ≡ 1) (none_held : (p : ℕ) → p < length h.cells
      → is_held (cell h p).tag ≡ false) (none_starts : (p : ℕ) → p < length h.cells → startable g h p ≡ false)
      (none_works : (p : ℕ) → p < length h.cells → workable g h p ≡ false) (none_waits : (p : ℕ) → p < length h.cells
      → waits_for_visit g h p ≡ false) where
    then_sweeps : is_due h.due ≡ false → GoesOn g h (Some (sweeps g h))
    then_sweeps none_due = go (any_stale g h) (nat_lt (length (desk h 0).sweep) n) refl refl
      where
        go : (b c : Bool) → any_stale g h ≡ b → nat_lt (length (desk h 0).sweep) n ≡ c
            → Nearer g h (if b then Look 0 0 else if c then Look 0 (length (desk h 0).sweep) else Publish)
        go true c e f = anew_nearer g h valid ok none_lowers none_held none_due some_process e
        go false true e f = on_nearer g h valid ok none_lowers none_held none_due (ltb-true _ _ f) e
        go false false e f = let le = not_below (length (desk h 0).sweep) n f in let most = ok.short 0 ok.crew in
            publish_nearer g h valid ok none_due (ok.not_due (nothing_due h.due none_due)) none_held none_works none_starts e
            (omega arith) busy none_lowers
          where
            nothing_due : (d : Due) → is_due d ≡ false → d ≡ Nothing
            nothing_due Nothing k = refl
            nothing_due (Pair m i) k = absurd (cc)
            nothing_due Everything k = absurd (cc)

    -- where something is due some process is unvisited, or the release would have been made
    then_visits : (releases g h ≡ None) → GoesOn g h (or_else (visits h (find_below n (unvisited h))) (Some (sweeps g h)))
    then_visits no_release = go (is_due h.due) refl (find_below n (unvisited h)) refl
      where
        no_work : any_below n (workable g h) ≡ false
        no_work = not_any n (workable g h) none_works

        look_or_claim : is_due h.due ≡ true → (t : ℕ) → Found n (unvisited h) t → (b : Bool) → has_nothing (cell h t).tag ≡ b
            → GoesOn g h (or_else (if not b then Some (Claim 0 t) else if nat_eq t 0 || nat_eq (t + 1) (length (desk h 0).sweep)
            then Some (Look 0 t) else if nat_lt t (length (desk h 0).sweep) then Some (Look 0 0)
            else Some (Look 0 (length (desk h 0).sweep))) (Some (sweeps g h)))
        look_or_claim due t r false e = visit_nearer g h valid ok none_lowers none_held t r.below
            (some_claimable (cell h t).tag (none_held t r.below) e) due r.holds none_works none_waits
        look_or_claim due t r true e = looks (nat_eq t 0 || nat_eq (t + 1) (length (desk h 0).sweep))
            (nat_lt t (length (desk h 0).sweep)) refl refl
          where
            looks : (b c : Bool) → (nat_eq t 0 || nat_eq (t + 1) (length (desk h 0).sweep)) ≡ b → nat_lt t (length (desk h 0).sweep) ≡ c
                → GoesOn g h (or_else (if b then Some (Look 0 t) else if c then Some (Look 0 0)
                else Some (Look 0 (length (desk h 0).sweep))) (Some (sweeps g h)))
            looks true c x y = visits_nearer g h valid ok none_lowers none_held due none_works none_waits t r e true c x y
            looks false true x y = visits_nearer g h valid ok none_lowers none_held due none_works none_waits t r e false true x y
            looks false false x y = visits_nearer g h valid ok none_lowers none_held due none_works none_waits t r e false false x y

        go : (d : Bool) → is_due h.due ≡ d → (o : Option ℕ) → find_below n (unvisited h) ≡ o
            → GoesOn g h (or_else (visits h o) (Some (sweeps g h)))
        go true d (Some t) e = rw d (look_or_claim d t (some_found n (unvisited h) t e) (has_nothing (cell h t).tag) refl)
        go false d (Some t) e = rw d (then_sweeps d)
        go false d None e = then_sweeps d
        go true d None e = let all : any_below n (unvisited h) ≡ false = ap is_some e in
            let released : releases g h ≡ Some (Release (length h.gather)) =
            if_true _ _ _ (and_true _ _ d (and_true _ _ (true_from _ all) (or_right _ _ (true_from _ no_work)))) in absurd (cc)

  -- a process with a due event in its outbox can be claimed
  has_events : (p : ℕ) → p < length h.cells → waits_for_visit g h p ≡ true → (b : Bool) → has_nothing (cell h p).tag ≡ b
      → has_nothing (cell h p).tag ≡ false
  has_events p lt e false f = f
  has_events p lt e true f = let some = ltb-true 0 (count_due h.due (outbox (line g.lines p) (cell h p)))
      (both (unvisited h p) (nat_lt 0 (count_due h.due (outbox (line g.lines p) (cell h p)))) e).1 in
      let fit = ok.fits p lt in let none : (cell h p).computed ≤ (cell h p).taken =
      ⊎_elim (λ (u : is_unborn (cell h p).tag ≡ true). let z = fit.unborn u in
      omega arith) (λ (d : (cell h p).tag ≡ Drained). let z = fit.drained d in omega arith) (nothing_is (cell h p).tag f) in
      let zero = none_empty h.due (line g.lines p) (cell h p) none in absurd (omega arith)

  module _ (busy : is_finished g h ≡ false) where
    abbrev behind_claims : Option Step
    behind_claims = or_else (visits h (find_below n (unvisited h))) (Some (sweeps g h))

    abbrev behind_works : Option Step
    behind_works = or_else (claims (find_below n (waits_for_visit g h))) behind_claims

    abbrev behind_starts : Option Step
    behind_starts = or_else (works h (find_below n (workable g h))) behind_works

    abbrev behind_release : Option Step
    behind_release = or_else (starts (find_below n (startable g h))) behind_starts

    abbrev behind_giving : Option Step
    behind_giving = or_else (releases g h) behind_release

    abbrev behind_lowering : Option Step
    behind_lowering = or_else (gives_back g h (find_below n (λ p. is_held (cell h p).tag))) behind_giving

    module _ (none_lowers : idle g h ≡ 1) where
      module _ (none_held : (p : ℕ) → p < length h.cells → is_held (cell h p).tag ≡ false) where
        then_claims : releases g h ≡ None → ((p : ℕ) → p < length h.cells → startable g h p ≡ false)
            → ((p : ℕ) → p < length h.cells → workable g h p ≡ false) → GoesOn g h behind_works
        then_claims no_release none_starts none_works = go (find_below n (waits_for_visit g h)) refl
          where
            go : (o : Option ℕ) → find_below n (waits_for_visit g h) ≡ o → GoesOn g h (or_else (claims o) behind_claims)
            go None e = then_visits busy none_lowers none_held none_starts none_works (none_found n (waits_for_visit g h) e) no_release
            go (Some p) e = let r = some_found n (waits_for_visit g h) p e in
                take_nearer g h valid ok none_lowers none_held p r.below
                (some_claimable (cell h p).tag (none_held p r.below) (has_events p r.below r.holds (has_nothing (cell h p).tag) refl))
                r.holds

        then_works : releases g h ≡ None → ((p : ℕ) → p < length h.cells → startable g h p ≡ false) → GoesOn g h behind_starts
        then_works no_release none_starts = go (find_below n (workable g h)) refl
          where
            paced : (p : ℕ) → Found n (workable g h) p → (b : Bool) → floor_eq (desk h 0).paced h.floor ≡ b
                → GoesOn g h (or_else (if b then Some (Claim 0 p) else Some (Pace 0)) behind_works)
            paced p r true e = work_nearer g h valid ok none_lowers none_held p r.below
                (hand_claimable (cell h p).tag (both (is_at_hand (cell h p).tag) (not (ready (line g.lines p) (cell h p))
                || not (events_left g p (cell h p)) || is_home (cell h p).tag && next_within g h.floor p (cell h p)) r.holds).0) r.holds e
            paced p r false e = pace_nearer g h valid ok none_lowers none_held e

            go : (o : Option ℕ) → find_below n (workable g h) ≡ o → GoesOn g h (or_else (works h o) behind_works)
            go None e = then_claims no_release none_starts (none_found n (workable g h) e)
            go (Some p) e = paced p (some_found n (workable g h) p e) (floor_eq (desk h 0).paced h.floor) refl

        then_starts : releases g h ≡ None → GoesOn g h behind_release
        then_starts no_release = go (find_below n (startable g h)) refl
          where
            go : (o : Option ℕ) → find_below n (startable g h) ≡ o → GoesOn g h (or_else (starts o) behind_starts)
            go None e = then_works no_release (none_found n (startable g h) e)
            go (Some p) e = let r = some_found n (startable g h) p e in start_nearer g h valid ok none_lowers none_held p r.below r.holds

        then_releases : GoesOn g h behind_giving
        then_releases = go (is_due h.due && (not (any_below n (unvisited h))
            && (nat_lt 0 (length h.gather) || not (any_below n (workable g h))))) refl
          where
            go : (b : Bool) → (is_due h.due && (not (any_below n (unvisited h))
                && (nat_lt 0 (length h.gather) || not (any_below n (workable g h))))) ≡ b
                → GoesOn g h (or_else (if b then Some (Release (length h.gather)) else None) behind_release)
            go true e = let a = both (is_due h.due) (not (any_below n (unvisited h))
                && (nat_lt 0 (length h.gather) || not (any_below n (workable g h)))) e in
                let b = both (not (any_below n (unvisited h))) (nat_lt 0 (length h.gather) || not (any_below n (workable g h))) a.1 in
                release_nearer g h valid ok none_lowers none_held a.0 (not_true _ b.0) b.1
            go false e = then_starts (if_false {A = Option Step}
                (is_due h.due && (not (any_below n (unvisited h)) && (nat_lt 0 (length h.gather) || not (any_below n (workable g h)))))
                (Some (Release (length h.gather))) None e)

      then_gives_back : ((p : ℕ) → p < length h.cells → can_lower g h p ≡ false) → GoesOn g h behind_lowering
      then_gives_back stuck = go (find_below n (λ p. is_held (cell h p).tag)) refl
        where
          go : (o : Option ℕ) → find_below n (λ p. is_held (cell h p).tag) ≡ o → GoesOn g h (or_else (gives_back g h o) behind_giving)
          go None e = then_releases (none_found n (λ p. is_held (cell h p).tag) e)
          go (Some p) e = let r = some_found n (λ p. is_held (cell h p).tag) p e in
              back_nearer g h valid ok p r.below r.holds (stuck p r.below) none_lowers

    lowering_first : GoesOn g h (or_else (lowers g h (find_below n (can_lower g h))) behind_lowering)
    lowering_first = go (find_below n (can_lower g h)) refl
      where
        record_or_give : (p : ℕ) → Found n (can_lower g h) p → (b : Bool) → (is_out (cell h p).tag && not (cell h p).recorded) ≡ b
            → GoesOn g h (or_else (if b then Some (Record (cell h p).seat p)
            else Some (Give (cell h p).seat p (must_take g h (cell h p).seat p) (bit (may_compute g h p))
            (upper (line g.lines p) ((cell h p).computed + bit (may_compute g h p)))
            (nat_eq ((cell h p).computed + bit (may_compute g h p)) (length (line g.lines p).events)))) behind_lowering)
        record_or_give p r true e = let two = both (is_out (cell h p).tag) (not (cell h p).recorded) e in
            lower_record g h valid ok p r.below (out_held (cell h p).tag two.0) two.0 (not_true _ two.1)
        record_or_give p r false e = lower_give g h valid ok p r.below (lowered_held p r.holds) r.holds e
          where
            lowered_held : (q : ℕ) → can_lower g h q ≡ true → is_held (cell h q).tag ≡ true
            lowered_held q f = (both (is_held (cell h q).tag) (nat_lt 0 (must_take g h (cell h q).seat q) || is_out (cell h q).tag
                && (not (cell h q).recorded || not (ready (line g.lines q) (cell h q)) || not (events_left g q (cell h q))
                || may_compute g h q)) f).0

        go : (o : Option ℕ) → find_below n (can_lower g h) ≡ o → GoesOn g h (or_else (lowers g h o) behind_lowering)
        go None e = then_gives_back (ap (λ (x : Option ℕ). bit (not (is_some x))) e) (none_found n (can_lower g h) e)
        go (Some p) e = record_or_give p (some_found n (can_lower g h) p e) (is_out (cell h p).tag && not (cell h p).recorded) refl

  finished : is_finished g h ≡ true → Finished g h
  finished e = let two = both (nat_eq (length h.released) (total g.lines)) (not (any_below n (λ p. not (is_drained (cell h p).tag)))) e in
      record {
        released = eqb-true _ _ two.0;
        drained = λ p lt. drained_is (cell h p).tag
            (not_false _ (none_any n (λ q. not (is_drained (cell h q).tag)) (not_true _ two.1) p lt));
      }

  -- the chosen step is none in a finished state, else it is allowed and leaves less to do
  pub goes_on : GoesOn g h (next_step g h)
  goes_on = go (is_finished g h) refl
    where
      go : (b : Bool) → is_finished g h ≡ b → GoesOn g h (if b then None else first_rule g h)
      go true e = finished e
      go false e = lowering_first e

  -- no step is chosen in a finished state
  pub ends_there : Finished g h → next_step g h ≡ None
  ends_there f = if_true {A = Option Step} (is_finished g h) None (first_rule g h)
      (and_true _ _ (eq-eqb _ _ f.released) (true_from _
      (not_any n (λ p. not (is_drained (cell h p).tag)) (λ q lt. false_from _ (ap is_drained (f.drained q lt))))))
