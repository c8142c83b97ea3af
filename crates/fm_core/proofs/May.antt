-- What allows each step.
use Rattle.std.proofs.Common.{◌≡◌, ℕ, ◌+◌, ◌<◌, length, get_or, true, false}
use Rattle.std.proofs.lemmas.Bool.{eq-eqb, lt-ltb}
use Rattle.std.specs.Prelude.{not, ◌||◌, nat_eq}
use Rattle.fm_line.specs.Line.{line}
use Rattle.fm_core.proofs.Below.{not_any}
use Rattle.fm_core.proofs.Booleans.{false_from, and_true}
use Rattle.fm_core.proofs.Reasons.{no_reason}
use Rattle.fm_core.specs.State.{Setting, State, cell, desk, visited, held_by}
use Rattle.fm_core.specs.Steps.{Allowed, unvisited, table, holding}
use Rattle.fm_core.specs.Tags.{is_unborn, is_out, is_ended, is_claimable}
use Rattle.fm_core.specs.Taking.{is_due}
use Rattle.fm_core.specs.declared.step.Step.TheVariants.{Record, Look, Claim, Start, Recall, Publish, Pace, Release}

module _ (g : Setting) (h : State) where
  -- a seat may look at 0, at the next process of its sweep, and at the last one in it
  pub may_look : (s p : ℕ) → s < length h.desks → p < length h.cells
      → (nat_eq p 0 || nat_eq p (length (desk h s).sweep) || nat_eq (p + 1) (length (desk h s).sweep)) ≡ true → Allowed g h (Look s p)
  may_look s p a b turn = no_reason (table g h (Look s p)) (
    false_from _ (lt-ltb _ _ a),
    (false_from _ (lt-ltb _ _ b), (false_from _ turn, tt)),
  )

  -- a seat that holds nothing
  pub free : (s : ℕ) → ((p : ℕ) → p < length h.cells → held_by s (cell h p) ≡ false) → holding h s ≡ false
  free s none = not_any (length h.cells) (λ p. held_by s (cell h p)) none

  -- a seat that holds nothing may claim what is claimable for it
  pub may_claim : (s p : ℕ) → s < length h.desks → p < length h.cells → holding h s ≡ false → is_claimable s (cell h p).tag ≡ true
      → Allowed g h (Claim s p)
  may_claim s p a b c d = no_reason (table g h (Claim s p)) (
    false_from _ (lt-ltb _ _ a),
    (false_from _ (lt-ltb _ _ b), (c, (false_from _ d, tt))),
  )

  -- a seat that holds nothing may start an unborn process whose predecessors are all ended
  pub may_start : (s p : ℕ) → s < length h.desks → p < length h.cells → holding h s ≡ false → is_unborn (cell h p).tag ≡ true
      → ((i : ℕ) → i < length (line g.lines p).predecessors → is_ended (cell h (get_or (line g.lines p).predecessors i 0)).tag ≡ true)
      → Allowed g h (Start s p)
  may_start s p a b c d e = no_reason (table g h (Start s p)) (
    false_from _ (lt-ltb _ _ a),
    (
      false_from _ (lt-ltb _ _ b),
      (
        c,
        (
          false_from _ d,
          (
            not_any (length (line g.lines p).predecessors) (λ i. not (is_ended (cell h (get_or (line g.lines p).predecessors i 0)).tag))
                (λ i lt. false_from _ (e i lt)),
            tt,
          ),
        ),
      ),
    ),
  )

  -- a seat may record the process that it holds as out
  pub may_record : (s p : ℕ) → s < length h.desks → p < length h.cells → is_out (cell h p).tag ≡ true → (cell h p).seat ≡ s
      → Allowed g h (Record s p)
  may_record s p a b c d = no_reason (table g h (Record s p)) (
    false_from _ (lt-ltb _ _ a),
    (false_from _ (lt-ltb _ _ b), (false_from _ (and_true _ _ c (eq-eqb _ _ d)), tt)),
  )

  -- a seat may recall a process that is ended
  pub may_recall : (s p : ℕ) → s < length h.desks → p < length h.cells → is_ended (cell h p).tag ≡ true → Allowed g h (Recall s p)
  may_recall s p a b c = no_reason (table g h (Recall s p)) (
    false_from _ (lt-ltb _ _ a),
    (false_from _ (lt-ltb _ _ b), (false_from _ c, tt)),
  )

  -- seat 0 may publish a complete sweep while nothing is due
  pub may_publish : length (desk h 0).sweep ≡ length h.cells → is_due h.due ≡ false → Allowed g h Publish
  may_publish a b = no_reason (table g h Publish) (false_from _ (eq-eqb _ _ a), (b, tt))

  -- a seat that is there may pace
  pub may_pace : (s : ℕ) → s < length h.desks → Allowed g h (Pace s)
  may_pace s a = no_reason (table g h (Pace s)) (false_from _ (lt-ltb _ _ a), tt)

  -- all that was gathered may be released once all processes were visited
  pub may_release : (n : ℕ) → is_due h.due ≡ true → ((p : ℕ) → p < length h.cells → visited h p ≡ true) → n ≡ length h.gather
      → Allowed g h (Release n)
  may_release n a b c = no_reason (table g h (Release n))
      (false_from _ a, (not_any (length h.cells) (unvisited h) (λ p lt. false_from _ (b p lt)), (false_from _ (eq-eqb _ _ c), tt)))
