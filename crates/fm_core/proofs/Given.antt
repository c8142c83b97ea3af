-- A process that comes home: its tag, and what it gives.
use Rattle.std.proofs.Common.{◌≡◌, ℕ, zero, suc, ◌-◌, ◌≤◌, List, [], ◌∷◌, length, get_or, drop, Bool, true, false, refl, ap, arith, le_trans}
use Rattle.std.proofs.lemmas.List.{length-take}
use Rattle.std.specs.Prelude.{not, ◌&&◌, nat_eq, if◌then◌else◌}
use Rattle.fm_line.specs.Line.{line, event_at, upper}
use Rattle.fm_line.specs.declared.line.Line.{Line}
use Rattle.fm_core.proofs.Booleans.{bit_one}
use Rattle.fm_core.specs.State.{Setting, State, cell, visited}
use Rattle.fm_core.specs.Tags.{is_unborn, is_ended, is_held, given_tag}
use Rattle.fm_core.specs.Taking.{covers, count_due, outbox, must_take}
use Rattle.fm_core.specs.declared.due.Due.{Due}
use Rattle.fm_core.specs.declared.tag.Tag.TheVariants.{Home, Full, Ended, Drained}
use Rattle.fm_msg.specs.Event.{TimedMessage}

beyond : {A : Type 0} (xs : List A) (k : ℕ) (d : A) → length xs ≤ k → get_or xs k d ≡ d
beyond [] k d le = refl
beyond (x ∷ xs) zero d le = absurd (omega arith)
beyond (x ∷ xs) (suc k) d le = beyond xs k d (omega arith)

-- behind the last event the upper clock is the end
pub upper_end : (l : Line) (k : ℕ) → length l.events ≤ k → upper l k ≡ l.end
upper_end l k le = ap (λ (e : TimedMessage). e.time) (beyond l.events k (event_at l.end) le)

-- what gives a process of this tag back
pub given_not_unborn : (room left : ℕ) (e : Bool) → is_unborn (given_tag room e left) ≡ false
given_not_unborn room left true = go (nat_eq left 0)
  where
    go : (b : Bool) → is_unborn (if b then Drained else Ended) ≡ false
    go true = refl
    go false = refl
given_not_unborn room left false = go (nat_eq left room)
  where
    go : (b : Bool) → is_unborn (if b then Full else Home) ≡ false
    go true = refl
    go false = refl

-- a process comes home ended exactly where the give says so
pub given_ended : (room left : ℕ) (e : Bool) → is_ended (given_tag room e left) ≡ e
given_ended room left true = go (nat_eq left 0)
  where
    go : (b : Bool) → is_ended (if b then Drained else Ended) ≡ true
    go true = refl
    go false = refl
given_ended room left false = go (nat_eq left room)
  where
    go : (b : Bool) → is_ended (if b then Full else Home) ≡ false
    go true = refl
    go false = refl

-- a process that comes home is not held
pub given_not_held : (room left : ℕ) (e : Bool) → is_held (given_tag room e left) ≡ false
given_not_held room left true = go (nat_eq left 0)
  where
    go : (b : Bool) → is_held (if b then Drained else Ended) ≡ false
    go true = refl
    go false = refl
given_not_held room left false = go (nat_eq left room)
  where
    go : (b : Bool) → is_held (if b then Full else Home) ≡ false
    go true = refl
    go false = refl

-- no more events are due than there are
pub count_le : (d : Due) (es : List TimedMessage) → count_due d es ≤ length es
count_le d [] = omega arith
count_le d (e ∷ es) = let a = count_le d es in let b = bit_one (covers d e) in omega arith

-- what must be taken is in the outbox
pub take_le : (g : Setting) (h : State) (s p : ℕ) → must_take g h s p ≤ (cell h p).computed - (cell h p).taken
take_le g h s p = go (nat_eq s 0 && not (visited h p))
  where
    go : (b : Bool) → (if b then count_due h.due (outbox (line g.lines p) (cell h p)) else 0) ≤ (cell h p).computed - (cell h p).taken
    go true = let a = count_le h.due (outbox (line g.lines p) (cell h p)) in
        let b : length (outbox (line g.lines p) (cell h p)) ≤ (cell h p).computed - (cell h p).taken =
        (let c = length-take ((cell h p).computed - (cell h p).taken) (drop (cell h p).taken (line g.lines p).events) in
        omega arith) in le_trans a b
    go false = omega arith
