-- Sounds whose times never fall come out as they stand.
use Rattle.std.proofs.Common.{◌≡◌, ℕ, zero, suc, ◌+◌, ◌≤◌, List, [], ◌∷◌, ◌++◌, Bool, true, false, subst, map, take, drop, refl, sym, ap, ap₂, ◌∙◌, arith, append_assoc}
use Rattle.std.specs.Prelude.{if◌then◌else◌, nat_le, nat_lt, nat_eq, Option, Some, None}
use Rattle.std.specs.Option.{option_map, option_to_list}
use Rattle.std.specs.List.{AllByRecursion}
use Rattle.std.proofs.lemmas.Bool.{le-leb, leb-true, ltb-true, false_from_ne_true}
use Rattle.std.proofs.lemmas.List.{append-nil}
use Rattle.fm_msg.specs.declared.msg.Msg.{Msg}
use Rattle.fm_msg.specs.Event.{TimedMessage}
use Rattle.fm_line.specs.Marks.{Mark, mark_time, events_in_turn, process_sounds}
pub use Rattle.fm_line.specs.Runs.{AreInTurn}
use Rattle.fm_line.specs.Sounds.{Sound, is_note_off, in_order, due_by, later_than, too_many, moved_to, out_before, left_waiting, most_waiting, ons_ahead, come_out_after, come_out, numbered}
use Rattle.fm_line.proofs.OutPicking.{filter-all, filter-none}
use Rattle.fm_line.proofs.OutRising.{RisesFrom, RunsFrom}

rising-ordered : (low : ℕ) (xs : List Sound) → RisesFrom low xs → in_order xs ≡ xs
rising-ordered low [] r = refl
rising-ordered low (x ∷ []) r = refl
rising-ordered low (x ∷ y ∷ ys) r =
    rw (rising-ordered x.time (y ∷ ys) r.1) (rw (le-leb x.time y.time r.1.0) refl)

-- all of sounds that run to a tick are due there
due : (low t : ℕ) (xs : List Sound) → RunsFrom low t xs → AllByRecursion (λ (x : Sound). nat_le x.time t ≡ true) xs
due low t [] r = tt
due low t (x ∷ xs) r = (le-leb x.time t (last x.time xs r.1), due x.time t xs r.1)
  where
    last : (u : ℕ) (ys : List Sound) → RunsFrom u t ys → u ≤ t
    last u [] l = l
    last u (y ∷ ys) l = let h = last y.time ys l.1 in let g = l.0 in omega arith

none_later : (t : ℕ) (xs : List Sound) → AllByRecursion (λ (x : Sound). nat_le x.time t ≡ true) xs
    → AllByRecursion (λ (x : Sound). nat_lt t x.time ≡ false) xs
none_later t [] a = tt
none_later t (x ∷ xs) a = (
  false_from_ne_true (nat_lt t x.time) (λ e. let h = ltb-true _ _ e in let g = leb-true _ _ a.0 in omega arith),
  none_later t xs a.1,
)

rises : (low t : ℕ) (xs : List Sound) → RunsFrom low t xs → RisesFrom low xs
rises low t [] r = tt
rises low t (x ∷ xs) r = (r.0, rises x.time t xs r.1)

take_none : (n : ℕ) (xs : List Sound) → xs ≡ [] → take n xs ≡ []
take_none zero xs e = refl
take_none (suc n) xs e = ap (take (suc n)) e

drop_none : (n : ℕ) (xs : List Sound) → xs ≡ [] → drop n xs ≡ []
drop_none zero xs e = e
drop_none (suc n) xs e = ap (drop (suc n)) e

module _ (low t k : ℕ) (ws : List Sound) (r : RunsFrom low t ws) where
  none : later_than t ws ≡ []
  none = filter-none (λ (x : Sound). nat_lt t x.time) ws (none_later t ws (due low t ws r))

  all_due : due_by t ws ≡ ws
  all_due =
      rw (rising-ordered low ws (rises low t ws r)) (filter-all (λ (x : Sound). nat_le x.time t) ws (due low t ws r))

  out-all : out_before t k ws ≡ ws
  out-all =
      ap₂ (λ (us vs : List Sound). us ++ map (moved_to t) vs) all_due
      (take_none (too_many k (later_than t ws)) (later_than t ws) none)
      ∙ append-nil ws

  left-all : left_waiting t k ws ≡ []
  left-all = drop_none (too_many k (later_than t ws)) (later_than t ws) none

-- the beginning of a run up to the next sound
first_part : (low e : ℕ) (ws : List Sound) (x : Sound) (xs : List Sound) → RunsFrom low e (ws ++ x ∷ xs)
    → RunsFrom low x.time ws × RunsFrom x.time e xs
first_part low e [] x xs r = r
first_part low e (w ∷ ws) x xs r = let more = first_part w.time e ws x xs r.1 in ((r.0, more.0), more.1)

pub in_turn_after : (low e : ℕ) (ws xs : List Sound) → RunsFrom low e (ws ++ xs) → come_out_after ws xs e ≡ ws ++ xs
in_turn_after low e ws [] r =
    out-all low e most_waiting ws (subst_nil r) ∙ sym (append-nil ws)
  where
    subst_nil : RunsFrom low e (ws ++ []) → RunsFrom low e ws
    subst_nil s = subst (RunsFrom low e) (append-nil ws) s
in_turn_after low e ws (x ∷ xs) r = by_test (is_note_off x.msg)
    (λ s. in_turn_after low e (ws ++ x ∷ []) xs s) (in_turn_after x.time e [] xs (first_part low e ws x xs r).1)
  where
    by_test : (o : Bool)
        → (RunsFrom low e ((ws ++ x ∷ []) ++ xs) → come_out_after (ws ++ x ∷ []) xs e ≡ (ws ++ x ∷ []) ++ xs)
        → come_out_after [] xs e ≡ xs
        → (if o then come_out_after (ws ++ x ∷ []) xs e
        else out_before x.time (ons_ahead (x ∷ xs)) ws
        ++ x ∷ come_out_after (left_waiting x.time (ons_ahead (x ∷ xs)) ws) xs e) ≡ ws ++ x ∷ xs
    by_test true f g = f (subst (RunsFrom low e) (sym (append_assoc ws (x ∷ []) xs)) r) ∙ append_assoc ws (x ∷ []) xs
    by_test false f g =
        let before = (first_part low e ws x xs r).0 in
        rw (out-all low x.time (ons_ahead (x ∷ xs)) ws before, left-all low x.time (ons_ahead (x ∷ xs)) ws before)
        (ap (λ (l : List Sound). ws ++ x ∷ l) g)

-- sounds that never fall in time come out as they stand
pub in_turn : (low e : ℕ) (xs : List Sound) → RunsFrom low e xs → come_out xs e ≡ xs
in_turn low e xs r = in_turn_after low e [] xs r

-- ---- marks

-- an event without its process and number
abbrev pub sound_of : TimedMessage → Sound
sound_of e = record { time = e.time; msg = e.msg }

-- the sounds of marks are those of their events
pub events-sounds : (j : ℕ) (ms : List Mark) → map sound_of (events_in_turn j ms) ≡ process_sounds j ms
events-sounds j [] = refl
events-sounds j (m ∷ ms) = by_test (nat_eq m.process j) m.msg (events-sounds j ms)
  where
    by_test : (b : Bool) (o : Option Msg)
        → map sound_of (events_in_turn j ms) ≡ process_sounds j ms
        → map sound_of ((if b then option_to_list (option_map (λ x. record {
          time = mark_time m;
          process = m.process;
          index = m.index;
          msg = x;
        }) o) else []) ++ events_in_turn j ms)
        ≡ (if b then option_to_list (option_map (λ x. record { time = mark_time m; msg = x }) o) else []) ++ process_sounds j ms
    by_test false o h = h
    by_test true None h = h
    by_test true (Some x) h = ap (λ (l : List Sound). record { time = mark_time m; msg = x } ∷ l) h

-- numbered in turn, sounds of such events are the events
renumbered : (j i : ℕ) (es : List TimedMessage) → AreInTurn j i es → numbered j i (map sound_of es) ≡ es
renumbered j i [] n = refl
renumbered j i (e ∷ es) n =
    ap₂ (λ (x : TimedMessage) (l : List TimedMessage). x ∷ l)
    (λ k. record { time = e.time; process = sym n.0 k; index = sym n.1 k; msg = e.msg }) (renumbered j (i + 1) es n.2)

-- where no note-off is later than the next onset, the events are those of the marks in their own order
pub in_turn_events : (low j e : ℕ) (ms : List Mark) → RunsFrom low e (process_sounds j ms)
    → AreInTurn j 0 (events_in_turn j ms) → numbered j 0 (come_out (process_sounds j ms) e) ≡ events_in_turn j ms
in_turn_events low j e ms r n =
    ap (numbered j 0) (in_turn low e (process_sounds j ms) r ∙ sym (events-sounds j ms))
    ∙ renumbered j 0 (events_in_turn j ms) n
