-- What a take, or the quantum behind it, brings on.
use Rattle.std.proofs.Common.{◌≡◌, ◌⊎◌, ℕ, zero, suc, ◌-◌, ◌<◌, ◌≤◌, Bool, true, false, List, [], ◌∷◌, ◌++◌, length, take, drop, get_or, Option, Some, refl, sym, ap, subst, ◌∙◌, inl, inr, arith, length-append}
use Rattle.std.specs.Prelude.{All, ◌&&◌, ◌||◌, ◌==◌, nat_le, nat_lt, if◌then◌else◌}
use Rattle.std.proofs.lemmas.List.Elements.{All-drop, All-take, All-weaker}
use Rattle.std.proofs.lemmas.List.{get_or_default}
use Rattle.fm_line.specs.Line.{event_at, line}
use Rattle.fm_program.specs.Process.{plan_lines}
use Rattle.fm_strand.proofs.ValidLemmas.{lines-valid}
use Rattle.fm_core.specs.declared.due.Due.TheVariants.{Pair}
use Rattle.fm_msg.specs.Event.{TimedMessage}
use Rattle.fm_buffer.specs.Outbox.{EventQueue, count_through, is_through}
use Rattle.fm_buffer.specs.Gather.{EventGather}
use Rattle.fm_core.specs.declared.due.Due.{Due}
use Rattle.fm_board.specs.declared.about.About.{About}
use Rattle.fm_board.specs.declared.berth.Berth.{Berth}
use Rattle.fm_board.specs.declared.view.Hold.{Hold}
use Rattle.fm_board.specs.declared.view.View.{View}
use Rattle.fm_board.specs.View.{waiting}
use Rattle.fm_crew.specs.Limits.{key_of}
use Rattle.fm_crew.specs.Crew.{HasBerth}
use Rattle.fm_crew.specs.Onward.{WentOn}
use Rattle.fm_board.specs.declared.view.Mind.{Mind}

-- where none of the events in front is due, though they are of this process and not later than the pair's tick, none waits
pub none_waits : (tick p : ℕ) (xs : List TimedMessage) → All (λ e. e.time ≤ tick) xs → All (λ e. e.process ≡ p) xs
    → count_through (Some (tick, p)) xs ≡ 0 → xs ≡ []
none_waits tick p [] soon own none_due = refl
none_waits tick p (x ∷ xs) soon own none_due =
    let t : x.time ≤ tick = soon 0 x (omega arith) in
    let q : x.process ≡ p = own 0 x (omega arith) in
    let through : is_through (Some (tick, p)) x ≡ true = is_due x.time x.process t q in
    let more : count_through (Some (tick, p)) (x ∷ xs) ≡ suc (count_through (Some (tick, p)) xs) =
    ap (λ (b : Bool). if b then suc (count_through (Some (tick, p)) xs) else 0) through in
    absurd (omega (arith, more, none_due))
  where
    is_due : (t q : ℕ) → t ≤ tick → q ≡ p → (nat_lt t tick || ((t == tick) && nat_le q p)) ≡ true
    is_due t q soon own = grind (arith, soon, own)

-- where some are due, some are taken
takes_some : (key : Option (ℕ × ℕ)) (xs : List TimedMessage) → 0 < count_through key xs → 0 < length (take (count_through key xs) xs)
takes_some key [] some = absurd (omega arith)
takes_some key (x ∷ xs) some = by_case (is_through key x) refl
  where
    by_case : (b : Bool) → is_through key x ≡ b → 0 < length (take (count_through key (x ∷ xs)) (x ∷ xs))
    by_case true e = subst (λ (n : ℕ). 0 < length (take n (x ∷ xs)))
        (sym (ap (λ (b : Bool). if b then suc (count_through key xs) else 0) e)) (omega arith)
    by_case false e =
        let none_due : count_through key (x ∷ xs) ≡ 0 = ap (λ (b : Bool). if b then suc (count_through key xs) else 0) e in
        absurd (omega (arith, some, none_due))

-- what is taken comes behind what was gathered
pub more_gathered : (old new : EventGather) (xs : List TimedMessage) → new ≡ record old { events = old.events ++ xs }
    → length old.events ≤ length new.events
more_gathered old new xs is =
    let x = ap (λ (g : EventGather). length g.events) is in let y = length-append old.events xs in omega (arith, x, y)

pub same_some : (x y : Hold) → Some x ≡ Some y → x ≡ y
same_some x y e = cc

-- what waits is of its process
own_events : (a : About) (h : Hold) (p : ℕ) → h.process ≡ p → All (λ e. e.process ≡ p) (waiting a.plan h)
own_events a h p same =
    All-take (λ (e : TimedMessage). e.process ≡ p) (h.computed - h.taken) (drop h.taken (line (plan_lines a.plan) h.process).events)
    (All-drop (λ (e : TimedMessage). e.process ≡ p) h.taken (line (plan_lines a.plan) h.process).events
    (λ k d lt. ap (λ (e : TimedMessage). e.process)
    (get_or_default (line (plan_lines a.plan) h.process).events k d (event_at (line (plan_lines a.plan) h.process).end) lt)
    ∙ (((lines-valid a.plan a.fits).numbered h.process k lt).0 ∙ same)))

module _ (a : About) (v : View) (gather : EventGather) (due : Due) (b : Berth) (ended : Bool) (o : HasBerth a v b ended) (tick : ℕ)
    (is : due ≡ Pair tick b.process) (soon : o.hold.clock ≤ tick) where
  -- if nothing was taken, nothing waits
  pub empties : (box : EventQueue)
      → box ≡ record b.outbox { events = drop (count_through (key_of due) b.outbox.events) b.outbox.events }
      → count_through (key_of due) b.outbox.events ≡ 0 → box.events ≡ []
  empties box rest none_due =
      let key : key_of due ≡ Some (tick, b.process) = ap key_of is in
      let early : All (λ e. e.time ≤ tick) b.outbox.events =
      subst (All (λ e. e.time ≤ tick)) (sym o.berth.hold.waits)
      (All-weaker (λ (e : TimedMessage). e.time ≤ o.hold.clock) (λ (e : TimedMessage). e.time ≤ tick)
      (λ e low. omega (arith, low, soon)) (waiting a.plan o.hold) o.berth.hold.early) in
      let own : All (λ e. e.process ≡ b.process) b.outbox.events =
      subst (All (λ e. e.process ≡ b.process)) (sym o.berth.hold.waits) (own_events a o.hold b.process o.berth.hold.process) in
      let empty : b.outbox.events ≡ [] =
      none_waits tick b.process b.outbox.events early own
      (subst (λ (k : Option (ℕ × ℕ)). count_through k b.outbox.events ≡ 0) key none_due) in
      ap (λ (x : EventQueue). x.events) rest
      ∙ ((λ i. drop (none_due i) b.outbox.events) ∙ empty)

  -- it took some, or the strand was brought on
  pub brings_held : (box : EventQueue)
      → box ≡ record b.outbox { events = drop (count_through (key_of due) b.outbox.events) b.outbox.events }
      → (gather' : EventGather)
      → gather' ≡ record gather { events = gather.events ++ take (count_through (key_of due) b.outbox.events) b.outbox.events }
      → (old new : Mind) → o.hold.left ≤ get_or old.left b.process 0
      → (count_through (key_of due) b.outbox.events ≡ 0 → box.events ≡ [] → WentOn a.plan b.process b.strand new)
      → (length gather.events < length gather'.events)
      ⊎ ((get_or new.over b.process false ≡ true) ⊎ (get_or new.left b.process 0 < get_or old.left b.process 0))
  brings_held box rest gather' more old new less went = by_count (dite' (count_through (key_of due) b.outbox.events))
    where
      dite' : (n : ℕ) → (n ≡ 0) ⊎ (0 < n)
      dite' zero = inl refl
      dite' (suc n) = inr (omega arith)

      by_count : (count_through (key_of due) b.outbox.events ≡ 0) ⊎ (0 < count_through (key_of due) b.outbox.events)
          → (length gather.events < length gather'.events)
          ⊎ ((get_or new.over b.process false ≡ true) ⊎ (get_or new.left b.process 0 < get_or old.left b.process 0))
      by_count (inr some) =
          let x = takes_some (key_of due) b.outbox.events some in
          let y = ap (λ (g : EventGather). length g.events) more in
          let z = length-append gather.events (take (count_through (key_of due) b.outbox.events) b.outbox.events) in
          inl (omega (arith, x, y, z))
      by_count (inl none_taken) = inr (which (went none_taken (empties box rest none_taken)))
        where
          which : WentOn a.plan b.process b.strand new
              → (get_or new.over b.process false ≡ true) ⊎ (get_or new.left b.process 0 < get_or old.left b.process 0)
          which (inl over) = inl over
          which (inr fewer) = let is_left = o.berth.hold.left in inr (omega (arith, fewer, less, is_left))
