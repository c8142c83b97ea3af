-- Release keeps the state sound: what is released is a beginning of the piece.
use Rattle.std.proofs.lemmas.List.{append-nil}
use Rattle.std.proofs.Common.{◌≡◌, ◌⊎◌, ℕ, ◌<◌, ◌≤◌, List, [], ◌∷◌, ◌++◌, length, take, Bool, true, false, refl, sym, ap, ◌∙◌, subst, inl, inr, arith, le_trans, ltb-true}
use Rattle.std.proofs.lemmas.Bool.{eqb-true, eq-eqb}
use Rattle.std.proofs.lemmas.List.{append_assoc}
use Rattle.std.specs.Prelude.{not, ◌&&◌, nat_eq, nat_lt, if◌then◌else◌}
use mathlib.Core.Logic.{dite}
use native.Mathlib.Decide.{ℕ_discrete, dec_lt}
use Rattle.fm_line.proofs.Members.{each_in, in_each, each_from, each_at, in_left, in_right, in_either}
use Rattle.fm_line.proofs.Order.{not_both}
use Rattle.fm_line.proofs.Rising.{prefix, rises_right, rises_apart}
use Rattle.fm_line.proofs.Sorting.{sorted_in, in_sorted, sorted_rises}
use Rattle.fm_line.specs.Line.{line, event, event_at, upper}
use Rattle.fm_line.specs.Piece.{Before, In, Rises, IsPrefix, IsPiece, sorted, Ordered, Each}
use Rattle.fm_core.proofs.Below.{none_any}
use Rattle.fm_core.proofs.Booleans.{not_false, not_true, or_cases, both, not_below, if_true, clash}
use Rattle.fm_core.proofs.Processes.{of_append, of_in, in_of, in_take, take_in, Up, up_from, up_apart, up_right, sorted_of}
use Rattle.fm_core.proofs.Reasons.{none_holds}
use Rattle.fm_core.specs.Effects.{after}
use Rattle.fm_core.specs.Invariant.{ValidSetting, Sound, NotBelow, of_process}
use Rattle.fm_core.specs.State.{Setting, State, cell, visited}
use Rattle.fm_core.specs.Steps.{Allowed, unvisited, table}
use Rattle.fm_core.specs.Taking.{is_due, covers}
use Rattle.fm_core.specs.declared.due.Due.{Due}
use Rattle.fm_core.specs.declared.due.Due.TheVariants.{Nothing, Pair, Everything}
use Rattle.fm_core.specs.declared.step.Step.TheVariants.{Release}
use Rattle.fm_msg.specs.Event.{TimedMessage}

module _ (g : Setting) (h : State) (valid : ValidSetting g) (ok : Sound g h) where
  abbrev all : List TimedMessage
  all = h.released ++ h.gather

  -- what was released or gathered was taken from its line
  record Real (x : TimedMessage) : Type 0 where
    process : x.process < length h.cells
    taken : x.index < (cell h x.process).taken
    index : x.index < length (line g.lines x.process).events
    is : x ≡ event (line g.lines x.process) x.index

  real : (x : TimedMessage) → In x all → Real x
  real x i = let p : ℕ = x.process in let lt : p < length h.cells = each_in (λ e. e.process < length h.cells) all x
      (each_from (event_at 0) (λ e. e.process < length h.cells) all ok.named) i in
      let there : In x (take (cell h p).taken (line g.lines p).events) = subst (In x) (ok.kept p lt) (in_of p x all refl i) in
      let r = in_take x (event_at (line g.lines p).end) (cell h p).taken (line g.lines p).events there in
      let at : x.index ≡ r.index = ap (λ (e : TimedMessage). e.index) r.is ∙ (valid.lines.numbered p r.index r.there).1 in
      let a = r.below in let b = r.there in record {
        process = lt;
        taken = omega arith;
        index = omega arith;
        is = r.is ∙ ap (event (line g.lines p)) (sym at);
      }

  up : (p : ℕ) → p < length h.cells → Up (of_process p h.released ++ of_process p h.gather)
  up p lt = subst Up (of_append p h.released h.gather)
      (subst Up (sym (ok.kept p lt)) (up_from 0 (cell h p).taken (event_at (line g.lines p).end) (line g.lines p).events
      (λ k less. let z = (valid.lines.numbered p k less).1 in omega arith)))

  in_order : (e x : TimedMessage) → Real e → Real x → x.process ≡ e.process → e.index < x.index → Before e x
  in_order e x a b same less = let time : e.time ≤ x.time = (let u = ap (λ (z : TimedMessage). z.time) a.is in
      let v : x.time ≡ upper (line g.lines e.process) x.index = ap (λ (z : TimedMessage). z.time) b.is
      ∙ ap (λ (p : ℕ). upper (line g.lines p) x.index) same in
      let w = valid.lines.rising e.process e.index x.index (omega arith) in omega arith) in
      dite (ℕ_discrete e.time x.time) (λ t. inr (t, inr (sym same, less))) (λ t. inl (omega arith))

  ordered : (es : List TimedMessage) → ((x : TimedMessage) → In x es → Real x) → ((p : ℕ) → p < length h.cells → Up (of_process p es))
      → Ordered es
  ordered [] r u = tt
  ordered (e ∷ es) r u = let a = r e (inl refl) in (
    in_each (λ x. x.process ≡ e.process → Before e x) es
        (λ x i same. let first_up = subst Up (if_true (nat_eq e.process e.process) (e ∷ of_process e.process es) (of_process e.process es)
        (eq-eqb _ _ refl)) (u e.process a.process) in
        in_order e x a (r x (inr i)) same (each_in (λ y. e.index < y.index) (of_process e.process es) x first_up.0
        (in_of e.process x es same i))),
    ordered es (λ x i. r x (inr i)) (λ p lt. go p (nat_eq e.process p) (u p lt)),
  )
    where
      go : (p : ℕ) (b : Bool) → Up (if b then e ∷ of_process p es else of_process p es) → Up (of_process p es)
      go p true v = v.1
      go p false v = v

  -- events of one process stand in the gather in their order
  pub gather_ordered : Ordered h.gather
  gather_ordered = ordered h.gather (λ x i. real x (in_right x h.released h.gather i))
      (λ p lt. up_right (of_process p h.released) (of_process p h.gather) (up p lt))

  module _ (due : is_due h.due ≡ true) (all_visited : (p : ℕ) → p < length h.cells → visited h p ≡ true) (piece : List TimedMessage)
      (is : IsPiece g.lines piece) where
    -- what is still to be released of the piece
    abbrev rest : List TimedMessage
    rest = (ok.prefix piece is).0

    whole : h.released ++ rest ≡ piece
    whole = (ok.prefix piece is).1

    risen : Rises (h.released ++ rest)
    risen = subst Rises (sym whole) is.rises

    only : (x : TimedMessage) → In x (sorted h.gather) → In x rest
    only x i = let j = sorted_in x h.gather i in let r = real x (in_right x h.released h.gather j) in
        let there : In x piece = subst (λ (e : TimedMessage). In e piece) (sym r.is)
        (is.all x.process x.index (let a = ok.lined in let b = r.process in omega arith) r.index) in
        go (in_either x h.released rest (subst (In x) (sym whole) there)) j r
      where
        go : (In x h.released) ⊎ (In x rest) → In x h.gather → Real x → In x rest
        go (inl k) j r = let bad = up_apart (of_process x.process h.released) (of_process x.process h.gather) x x (up x.process r.process)
            (in_of x.process x h.released refl k) (in_of x.process x h.gather refl j) in absurd (omega arith)
        go (inr k) j r = k

    -- an event before a gathered one was taken
    was_taken : (d : Due) → h.due ≡ d → (q x : TimedMessage) → q.process < length h.cells
        → q.index < length (line g.lines q.process).events → q ≡ event (line g.lines q.process) q.index → In x h.gather → Real x
        → Before q x → q.index < (cell h q.process).taken
    was_taken Nothing e q x lt less at i r b = absurd (clash _ due (ap is_due e))
    was_taken Everything e q x lt less at i r b = let z = ok.visited_all q.process e lt (all_visited q.process lt) in omega arith
    was_taken (Pair m k) e q x lt less at i r b = dite (dec_lt q.index (cell h q.process).taken) (λ y. y)
        (λ n. let low = ok.visited_below m k q.process q.index e lt (all_visited q.process lt) (omega arith) less in
        let same_time : upper (line g.lines q.process) q.index ≡ q.time = sym (ap (λ (z : TimedMessage). z.time) at) in
        let high : covers (Pair m k) x ≡ true = subst (λ (y : Due). covers y x ≡ true) e
        (each_in (λ y. covers h.due y ≡ true) h.gather x
        (each_from (event_at 0) (λ y. covers h.due y ≡ true) h.gather ok.gathered_due) i) in
        let t = r.taken in absurd (squeeze (subst (λ (y : ℕ). NotBelow m k y q.process) same_time low) (or_cases _ _ high) b n t))
      where
        squeeze : NotBelow m k q.time q.process → (nat_lt x.time m ≡ true) ⊎ ((nat_eq x.time m && not (nat_lt k x.process)) ≡ true)
            → Before q x → ¬ (q.index < (cell h q.process).taken) → x.index < (cell h x.process).taken → ⊥
        squeeze low (inl u) b n t = let a = ltb-true x.time m u in let c = at_least low in let d = no_later b in omega arith
          where
            at_least : NotBelow m k q.time q.process → m ≤ q.time
            at_least (inl v) = omega arith
            at_least (inr v) = let w = v.0 in omega arith

            no_later : Before q x → q.time ≤ x.time
            no_later (inl v) = omega arith
            no_later (inr v) = let w = v.0 in omega arith
        squeeze (inl l) (inr u) (inl v) n t = let two = both (nat_eq x.time m) (not (nat_lt k x.process)) u in
            let a = eqb-true x.time m two.0 in omega arith
        squeeze (inl l) (inr u) (inr v) n t = let two = both (nat_eq x.time m) (not (nat_lt k x.process)) u in
            let a = eqb-true x.time m two.0 in let c = v.0 in omega arith
        squeeze (inr l) (inr u) (inl v) n t = let two = both (nat_eq x.time m) (not (nat_lt k x.process)) u in
            let a = eqb-true x.time m two.0 in let c = l.0 in omega arith
        squeeze (inr l) (inr u) (inr v) n t = let two = both (nat_eq x.time m) (not (nat_lt k x.process)) u in
            let a = not_below k x.process (not_true _ two.1) in let c = l.1 in inner (le_trans a c) v.1
          where
            inner : x.process ≤ q.process → (q.process < x.process) ⊎ ((q.process ≡ x.process) × (q.index < x.index)) → ⊥
            inner le (inl w) = omega arith
            inner le (inr w) = let y = w.1 in let z : (cell h q.process).taken ≡ (cell h x.process).taken =
                ap (λ (p : ℕ). (cell h p).taken) w.0 in n (omega arith)

    all_below : (q x : TimedMessage) → In q rest → In x (sorted h.gather) → Before q x → In q (sorted h.gather)
    all_below q x i j b = let k = sorted_in x h.gather j in let r = real x (in_right x h.released h.gather k) in
        let facts = is.only q (subst (In q) whole (in_right q h.released rest i)) in
        let lt : q.process < length h.cells = (let a = ok.lined in let c = facts.0 in omega arith) in
        let less = was_taken h.due refl q x lt facts.1 facts.2 k r b in
        let there : In q (take (cell h q.process).taken (line g.lines q.process).events) =
        subst (λ (e : TimedMessage). In e (take (cell h q.process).taken (line g.lines q.process).events)) (sym facts.2)
        (take_in (event_at (line g.lines q.process).end) (cell h q.process).taken q.index (line g.lines q.process).events less facts.1) in
        go (in_either q h.released h.gather (of_in q.process q all (subst (In q) (sym (ok.kept q.process lt)) there)).0)
      where
        go : (In q h.released) ⊎ (In q h.gather) → In q (sorted h.gather)
        go (inl k) = let self = rises_apart h.released rest q q risen k i in absurd (not_both q q self self)
        go (inr k) = in_sorted q h.gather k

    -- what is released is still a beginning of the piece
    longer : IsPrefix (h.released ++ sorted h.gather) piece
    longer = let r = prefix rest (sorted h.gather) (rises_right h.released rest risen)
        (record { rises = sorted_rises h.gather gather_ordered; only = only; all_below = all_below }) in
        (r.0, append_assoc h.released (sorted h.gather) r.0 ∙ (ap (λ (xs : List TimedMessage). h.released ++ xs) r.1 ∙ whole))

  same_of : (p : ℕ) → of_process p ((h.released ++ sorted h.gather) ++ []) ≡ of_process p all
  same_of p = ap (of_process p) (append-nil (h.released ++ sorted h.gather))
      ∙ (of_append p h.released (sorted h.gather)
      ∙ (ap (λ (xs : List TimedMessage). of_process p h.released ++ xs) (sorted_of p h.gather gather_ordered)
      ∙ sym (of_append p h.released h.gather)))

  named_on : Each (λ e. e.process < length h.cells) ((h.released ++ sorted h.gather) ++ [])
  named_on = let old = each_from (event_at 0) (λ e. e.process < length h.cells) all ok.named in
      subst (Each (λ e. e.process < length h.cells)) (sym (append-nil (h.released ++ sorted h.gather)))
      (in_each (λ e. e.process < length h.cells) (h.released ++ sorted h.gather)
      (λ x i. go x old (in_either x h.released (sorted h.gather) i)))
    where
      go : (x : TimedMessage) → Each (λ e. e.process < length h.cells) all → (In x h.released) ⊎ (In x (sorted h.gather))
          → x.process < length h.cells
      go x old (inl j) = each_in (λ e. e.process < length h.cells) all x old (in_left x h.released h.gather j)
      go x old (inr j) = each_in (λ e. e.process < length h.cells) all x old (in_right x h.released h.gather (sorted_in x h.gather j))

  -- an allowed release keeps the state sound
  pub keeps_release : (n : ℕ) → Allowed g h (Release n) → Sound g (after g h (Release n))
  keeps_release n allowed = let no_test = none_holds (table g h (Release n)) allowed in let due = not_false _ (no_test 0) in
      let all_visited : (p : ℕ) → p < length h.cells
      → visited h p ≡ true = (λ p lt. not_false _ (none_any (length h.cells) (unvisited h) (no_test 1) p lt)) in record {
        lined = ok.lined;
        marked = ok.marked;
        crew = ok.crew;
        root = ok.root;
        short = ok.short;
        named = each_at (event_at 0) (λ e. e.process < length h.cells) ((h.released ++ sorted h.gather) ++ []) named_on;
        fits = ok.fits;
        after_all = ok.after_all;
        seated = ok.seated;
        alone = ok.alone;
        seen = ok.seen;
        seen_ended = ok.seen_ended;
        paced = ok.paced;
        floored = ok.floored;
        swept_high = ok.swept_high;
        led = ok.led;
        done = ok.done;
        done_seen = ok.done_seen;
        due_floor = λ m i e. absurd (cc);
        due_rest = λ m i p k e. absurd (cc);
        due_all = λ e. absurd (cc);
        kept = λ p lt. same_of p ∙ ok.kept p lt;
        not_due = λ _. refl;
        gathered_due = λ k lt. absurd (omega arith);
        gathered = λ p lt. omega arith;
        visited_below = λ m i p k e. absurd (cc);
        visited_all = λ p e. absurd (cc);
        prefix = λ piece is. longer due all_visited piece is;
      }
