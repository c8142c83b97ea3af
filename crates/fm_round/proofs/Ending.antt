-- Once no process is live, all have ended, and the last release is the rest of the piece.
use Rattle.std.proofs.Common.{◌≡◌, ℕ, ◌<◌, List, [], ◌∷◌, ◌++◌, length, map, drop, Bool, true, false, Option, Some, None, refl, sym, ap, ◌∙◌, subst, inl, append-nil, arith}
use Rattle.fm_msg.specs.Event.{TimedMessage}
use Rattle.fm_line.specs.Line.{line, ValidLines}
use Rattle.fm_line.specs.Piece.{In, piece, sorted}
use Rattle.fm_buffer.specs.Outbox.{count_through}
use Rattle.fm_program.specs.Parts.{PlanParts}
use Rattle.fm_program.specs.Process.{plan_lines}
use Rattle.fm_strand.specs.declared.strand.Strand.{Strand}
use Rattle.fm_strand.specs.Strand.{clock_of}
use Rattle.fm_round.specs.declared.lane.Lane.{Lane}
use Rattle.fm_round.specs.Lefts.{joined}
use Rattle.fm_round.specs.Halfway.{Playing}
use Rattle.fm_round.specs.Lanes.{AllLanes, AllStarted, IsAtEnd, IsRun, LeastOf, due, lefts, live_clock, lane, without_due, yet}
use Rattle.fm_round.proofs.Parting.{FrontsFirst, back_of}
use Rattle.fm_round.proofs.Order.{none_stays_at_all}
use Rattle.fm_round.proofs.Births.{ahead}
use Rattle.fm_round.proofs.Releasing.{parts, parts-back, parts_stay, released, stay}
use Rattle.fm_round.proofs.StrandFacts.{rest_ended}

-- a list without a member is empty
pub empty_list : (xs : List TimedMessage) → ((e : TimedMessage) → In e xs → ⊥) → xs ≡ []
empty_list [] none = refl
empty_list (x ∷ xs) none = absurd (none x (inl refl))

module _ (p : PlanParts) (ss : List Lane) (valid : ValidLines (plan_lines p)) (count : length ss ≡ length (plan_lines p))
    (lanes : AllLanes p ss) (started : AllStarted p ss (length ss)) (none : LeastOf p ss (length ss) None) where
  by_state : (j : ℕ) → j < length ss → (ended : Bool) (strand : Option Strand) → (lane ss j).ended ≡ ended
      → (lane ss j).strand ≡ strand → IsRun p j ended (lane ss j).outbox.events strand → IsAtEnd p j (lane ss j)
  by_state j there true None is_ended is_strand run = cc
  by_state j there true (Some t) is_ended is_strand run =
      record { strand = t; is = is_strand; course = run.course; process = run.process; over = run.at_end refl }
  by_state j there false None is_ended is_strand run =
      let before = ahead p ss valid lanes (length ss) (omega arith) started j there is_strand in
      let less = before.less in
      let never : Some before.clock ≡ None = sym before.live ∙ none before.at (omega arith) in cc
  by_state j there false (Some t) is_ended is_strand run =
      let live : live_clock p (lane ss j) ≡ Some (clock_of p t) = rw (is_ended, is_strand) refl in
      let never : Some (clock_of p t) ≡ None = sym live ∙ none j there in cc

  -- each process is at its end
  pub all_at_end : (j : ℕ) → j < length ss → IsAtEnd p j (lane ss j)
  all_at_end j there = by_state j there (lane ss j).ended (lane ss j).strand refl refl (lanes j there)

  -- and nothing stays of it
  none_of : (j : ℕ) → j < length ss → (e : TimedMessage)
      → In e (stay p None (line (plan_lines p) j).events (lane ss j)) → ⊥
  none_of j there e i =
      let end = all_at_end j there in
      let queue : drop (count_through None (lane ss j).outbox.events) (lane ss j).outbox.events ≡ [] =
      none_stays_at_all (lane ss j).outbox.events in
      let nothing : yet p (line (plan_lines p) j).events (lane ss j).strand ≡ [] =
      ap (yet p (line (plan_lines p) j).events) end.is ∙ rest_ended p end.strand end.course end.over in
      subst (In e) (ap (λ es. es ++ yet p (line (plan_lines p) j).events (lane ss j).strand) queue ∙ nothing) i

  nothing_stays : (e : TimedMessage) → In e (joined (map back_of (parts p None (plan_lines p) ss))) → ⊥
  nothing_stays = parts_stay p None (plan_lines p) ss (λ e. ⊥) none_of

  -- what is due is first, since nothing else is there
  pub end_first : FrontsFirst (parts p None (plan_lines p) ss)
  end_first x y i j = absurd (nothing_stays y j)

  -- the last release ends the piece
  pub ends_piece : (done : List TimedMessage) → Playing (plan_lines p) done (lefts p (plan_lines p) ss)
      → done ++ sorted (joined (map (due None) ss)) ≡ piece (plan_lines p)
  ends_piece done playing =
      let after = released p None (plan_lines p) ss done count playing end_first in
      let empty : joined (lefts p (plan_lines p) (map (without_due None) ss)) ≡ [] =
      ap joined (sym (parts-back p None (plan_lines p) ss))
      ∙ empty_list (joined (map back_of (parts p None (plan_lines p) ss))) nothing_stays in
      sym (append-nil (done ++ sorted (joined (map (due None) ss))))
      ∙ ap (λ es. (done ++ sorted (joined (map (due None) ss))) ++ sorted es) (sym empty)
      ∙ after.whole
