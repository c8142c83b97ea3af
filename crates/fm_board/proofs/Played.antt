-- Each seat is part of a run of the core; once seat 0 has released all, the run has played the whole piece.
use Rattle.std.proofs.Common.{◌≡◌, ℕ, zero, suc, ◌-◌, ◌<◌, List, [], ◌∷◌, ◌++◌, length, get_or, Bool, true, false, refl, sym, ap, ◌∙◌, subst, arith, length-append, replicate, append-nil}
use Rattle.std.proofs.lemmas.List.{length-replicate, length-take}
use mathlib.Core.Option.{some}
use lib.ListN.{get_elem?}
use Rattle.fm_msg.specs.Event.{TimedMessage}
use Rattle.fm_line.specs.Line.{line, sum_below, total}
use Rattle.fm_line.specs.Piece.{piece, sorted}
use Rattle.fm_line.proofs.Pieces.{is_piece, length-piece}
use Rattle.fm_line.proofs.Sorting.{length-sorted}
use Rattle.fm_core.proofs.Elements.{same_all}
use Rattle.fm_core.proofs.Keeps as core
use Rattle.fm_core.proofs.May.{may_release}
use Rattle.fm_core.proofs.Opening.{opening_sound}
use Rattle.fm_core.proofs.Sums.{counted, sum_less, sum_same}
use Rattle.fm_core.specs.Effects.{Legal, after, run}
use Rattle.fm_core.specs.Invariant.{Sound, ValidSetting, of_process}
use Rattle.fm_core.specs.State.{Setting, State, cell, cell_in, desk, held_by, no_desk, root, unborn}
use Rattle.fm_core.specs.State as state
use Rattle.fm_core.specs.Tags.{has_left, is_ended}
use Rattle.fm_core.specs.Taking.{is_due}
use Rattle.fm_core.specs.declared.cell.Cell.{Cell}
use Rattle.fm_core.specs.declared.floor.Floor.TheVariants.{Done}
use Rattle.fm_core.specs.declared.step.Step.{Step}
use Rattle.fm_core.specs.declared.step.Step.TheVariants.{Release}
use Rattle.fm_core.specs.declared.tag.Tag.{Tag}
use Rattle.fm_core.specs.declared.tag.Tag.TheVariants.{Unborn, Home, Full, Out, Ended, EndedOut, Drained}
use Rattle.fm_program.proofs.Lines.{plan-lines-length}
use Rattle.fm_program.specs.Process.{plan_lines}
use Rattle.fm_board.specs.declared.about.About.{About}
use Rattle.fm_board.specs.declared.view.Mind.{Mind}
use Rattle.fm_board.specs.Played.{IsPlayed, IsWhole, PlaysWhole, Shows, ShowsZero, beginning_of, setting_of}
use Rattle.fm_board.specs.Minds.{fresh, settled}
use Rattle.fm_board.specs.Plays.{MayRelease}
use Rattle.fm_board.specs.Runs.{by_seat}
use Rattle.fm_board.specs.StandsFor.{HoldsIn, StandsForSome, Table, beginning, setting}
use Rattle.fm_board.specs.View.{lines_of, processes}
use Rattle.fm_board.proofs.Looks.{valid_of}
use Rattle.fm_board.proofs.Spellings.{one_floor}
use Rattle.fm_board.specs.Words.{floor_word}
use Rattle.fm_board.proofs.Runs.{begins_all, begins_more, legal_more, mine_more, run_more}

-- where the rule holds, the run of the table is such a run
pub is_played : (a : About) (s : Table) → StandsForSome a s → (id : ℕ) (m : Mind) → get_elem? s.views id ≡ some m → IsPlayed m
is_played a s k id m at =
    let q = k.history in
    let seat = k.stands.views.viewed id m at in
    let same : setting a ≡ setting_of m =
    (λ i. record { lines = plan_lines (sym seat.is.plan i); room = sym seat.room i; lead = sym seat.is.lead i }) in
    let start : beginning a ≡ beginning_of m =
    (λ i. state.opening (length (plan_lines (sym seat.is.plan i))) (sym seat.is.seats i)) in
    let ends : run (setting_of m) (beginning_of m) q.steps ≡ k.core = (λ i. run (sym same i) (sym start i) q.steps) ∙ q.ends in
    record {
      steps = q.steps;
      valid = subst ValidSetting same (valid_of a);
      legal = subst (λ (y : Setting × State). Legal y.0 y.1 q.steps) (λ i. (same i, start i)) q.legal;
      sound = subst (λ (y : Setting × State). Sound y.0 y.1) (λ i. (same i, sym ends i)) k.sound;
      mine = q.made id m at ∙ ap (λ (j : ℕ). by_seat j q.steps) (sym seat.is.number);
      seen = q.seen id m at;
      shows = subst (λ (h : State). Shows h m.view) (sym ends) (record {
        here = subst (λ (j : ℕ). j < length k.core.desks) (sym seat.is.number) seat.here;
        holds = subst (λ (j : ℕ). HoldsIn k.core j m.view.holds) (sym seat.is.number) seat.is.holds;
        sweep = seat.is.sweep ∙ ap (λ (j : ℕ). (desk k.core j).sweep) (sym seat.is.number);
        paced = seat.is.paced ∙ ap (λ (j : ℕ). (desk k.core j).paced) (sym seat.is.number);
        zero = λ e. let z = seat.zero (sym seat.is.number ∙ e) in record {
          due = z.due;
          visited = z.visited;
          gathered = z.gathered;
          released = z.released;
          published = z.published;
        };
      });
    }

-- and a release is one step more of it
pub settles_played : (m : Mind) → IsPlayed m → MayRelease m.view → IsPlayed (settled m)
settles_played m q may =
    let g : Setting = setting_of m in
    let h : State = run g (beginning_of m) q.steps in
    let z : ShowsZero h m.view = q.shows.zero may.conductor in
    let many : length h.cells ≡ processes m.view = q.sound.lined ∙ plan-lines-length m.view.plan in
    let x : Step = Release (length h.gather) in
    let allowed = may_release g h (length h.gather) (ap is_due (sym z.due) ∙ may.due)
    (λ p lt. ap (λ (us : List Bool). get_or us p false) (sym z.visited) ∙ may.visited p (omega (arith, many, lt))) refl in
    let ends : run g (beginning_of m) (q.steps ++ x ∷ []) ≡ after g h x = run_more g (beginning_of m) q.steps x in
    record {
      steps = q.steps ++ x ∷ [];
      valid = q.valid;
      legal = legal_more g (beginning_of m) q.steps x q.legal allowed;
      sound = subst (Sound g) (sym ends) (core.keeps g h x q.valid q.sound allowed);
      mine = ap (λ (n : ℕ). m.log.mine ++ Release n ∷ []) (ap length z.gathered)
          ∙ (ap (λ (l : List Step). l ++ x ∷ []) q.mine ∙ sym (mine_more m.view.number q.steps x (sym may.conductor)));
      seen = begins_more q.steps m.log.seen (x ∷ []) q.seen;
      shows = subst (λ (y : State). Shows y (settled m).view) (sym ends) (record {
        here = q.shows.here;
        holds = q.shows.holds;
        sweep = q.shows.sweep;
        paced = q.shows.paced;
        zero = λ e. record {
          due = refl;
          visited = z.visited;
          gathered = refl;
          released =
              let was = z.released in
              omega (arith, was, ap length z.gathered, length-sorted h.gather, length-append h.released (sorted h.gather));
          published = z.published;
        };
      });
    }

at_opening : (P : ℕ → Cell → Type 0) (n : ℕ) → P 0 root → ((q : ℕ) → P (suc q) unborn) → (p : ℕ)
    → P p (cell_in (root ∷ replicate (n - 1) unborn) p)
at_opening P n a b zero = a
at_opening P n a b (suc q) = subst (P (suc q)) (sym (same_all (n - 1) q unborn)) (b q)

-- a seat that made no step yet
pub begins_played : (a : About) (number made : ℕ) → number < a.seats → IsPlayed (fresh a.plan a.room a.lead a.seats number made)
begins_played a number made below =
    let n : ℕ = length (plan_lines a.plan) in
    let h : State = beginning a in
    let bare : (k p : ℕ) → held_by k (cell h p) ≡ false = (λ k. at_opening (λ p c. held_by k c ≡ false) n refl (λ q. refl)) in
    record {
      steps = [];
      valid = valid_of a;
      legal = tt;
      sound = opening_sound (setting a) a.seats (valid_of a) a.crew.0;
      mine = refl;
      seen = begins_all [];
      shows = record {
        here = rw length-replicate below;
        holds = λ p lt. bare number p;
        sweep = rw (same_all a.seats number no_desk) refl;
        paced = rw (same_all a.seats number no_desk) refl;
        zero = λ e. record {
          due = refl;
          visited = ap (λ (z : ℕ). replicate z false) (sym (plan-lines-length a.plan));
          gathered = refl;
          released = refl;
          published = refl;
        };
      };
    }

-- ---- the end

drained_tag : (t : Tag) → is_ended t ≡ true → (has_left t ≡ true → ⊥) → t ≡ Drained
drained_tag Unborn e never = absurd (cc)
drained_tag Home e never = absurd (cc)
drained_tag Full e never = absurd (cc)
drained_tag Out e never = absurd (cc)
drained_tag Ended e never = absurd (never refl)
drained_tag EndedOut e never = absurd (never refl)
drained_tag Drained e never = refl

-- a sound state in which all is done and released has played the whole piece
pub is_whole : (g : Setting) (h : State) → ValidSetting g → Sound g h → h.floor ≡ Done → length h.released ≡ length (piece g.lines)
    → IsWhole g h
is_whole g h valid ok done many = record {
  released =
      let is = ok.prefix (piece g.lines) (is_piece g.lines valid.lines) in whole h.released is.0 is.1 (sym many);
  drained = λ p lt. drained_tag (cell h p).tag (ok.done p done lt) (λ left.
      let fits = ok.fits p lt in
      let fewer = fits.left left in
      let most = fits.computed in
      let less = sum_less (length h.cells) p (λ q. (cell h q).taken) (λ q. length (line g.lines q).events)
      (λ q within. let f = ok.fits q within in let a = f.taken in let b = f.computed in omega arith) lt (omega arith) in
      let count = counted (length h.cells) (h.released ++ h.gather) ok.named in
      let each = sum_same (length h.cells) (λ q. length (of_process q (h.released ++ h.gather))) (λ q. (cell h q).taken) (λ q within.
      ap length (ok.kept q within) ∙ (length-take (cell h q).taken (line g.lines q).events
      ∙ (let f = ok.fits q within in let a = f.taken in let b = f.computed in omega arith))) in
      let same : sum_below (length h.cells) (λ q. length (line g.lines q).events) ≡ total g.lines =
      ap (λ (k : ℕ). sum_below k (λ q. length (line g.lines q).events)) ok.lined in
      absurd (omega (arith, less, count, each, same, many, length-append h.released h.gather, length-piece g.lines)));
}
  where
    whole : (xs rest : List TimedMessage) → {ys : List TimedMessage} → xs ++ rest ≡ ys → length ys ≡ length xs → xs ≡ ys
    whole xs [] is long = sym (append-nil xs) ∙ is
    whole xs (y ∷ rest) is long = absurd (omega (arith, ap length is, long, length-append xs (y ∷ rest)))

-- once seat 0 published that all is done and has released the whole piece, a run of the core has played it
pub plays_whole : (m : Mind) → IsPlayed m → m.view.number ≡ 0 → m.view.published ≡ Done
    → m.view.released ≡ length (piece (lines_of m.view)) → PlaysWhole m
plays_whole m q number done many =
    let z = q.shows.zero number in
    record {
      steps = q.steps;
      legal = q.legal;
      mine = q.mine;
      seen = q.seen;
      whole = is_whole (setting_of m) (run (setting_of m) (beginning_of m) q.steps) q.valid q.sound (sym z.published ∙ done)
          (sym z.released ∙ many);
    }

-- so has the run of a table whose word 0 says that all is done
pub done_whole : (a : About) (s : Table) (k : StandsForSome a s) → get_or s.words 0 0 ≡ floor_word Done
    → length k.core.released ≡ length (piece (plan_lines a.plan))
    → IsWhole (setting a) (run (setting a) (beginning a) k.history.steps)
done_whole a s k word many =
    let done = one_floor k.core.floor Done k.stands.words.low tt (sym k.stands.words.floor ∙ word) in
    subst (IsWhole (setting a)) (sym k.history.ends) (is_whole (setting a) k.core (valid_of a) k.sound done many)
