-- What a seat knows of the processes grows with each of its steps.
use Rattle.std.proofs.Common.{◌≡◌, ℕ, ◌≤◌, length, get_or, set, Bool, true, false, refl, sym, ap, ◌∙◌, subst, arith, min, length-set}
use Rattle.std.specs.Prelude.{if◌then◌else◌}
use Rattle.fm_core.specs.Tags.{is_ended, is_unborn}
use Rattle.fm_core.specs.declared.tag.Tag.{Tag}
use Rattle.fm_core.specs.declared.tag.Tag.TheVariants.{Out, Unborn}
use Rattle.fm_strand.specs.Course.{steps_of}
use Rattle.fm_board.specs.declared.about.About.{About}
use Rattle.fm_board.specs.declared.berth.Berth.{Berth}
use Rattle.fm_board.specs.declared.seen.Seen.{Seen}
use Rattle.fm_board.specs.declared.view.Log.{Log}
use Rattle.fm_board.specs.declared.view.Mind.{Mind}
use Rattle.fm_board.specs.declared.view.View.{View}
use Rattle.fm_board.specs.Answers.{Found, HasClaimed}
use Rattle.fm_board.specs.Knowing.{Knows}
use Rattle.fm_board.specs.Minds.{left_seen, spotted, turned}
use Rattle.fm_board.specs.Plays.{Tells}
use Rattle.fm_board.specs.Seats.{SeatState}
use Rattle.fm_board.proofs.Goings.{seen_fewer}
use Rattle.fm_board.proofs.Spellings.{set_or_same}
use Rattle.fm_line.specs.declared.limits.TheConstants.{LAST_TICK}

pub knows_none : (m : Mind) → Knows m m
knows_none m = record { left = λ p. omega arith; known = λ p. omega arith; over = λ p e. e; wide = λ n w. w; made = refl }

pub knows_then : (a b c : Mind) → Knows a b → Knows b c → Knows a c
knows_then a b c first second = record {
  left = λ p. let x = first.left p in let y = second.left p in omega (arith, x, y);
  known = λ p. let x = first.known p in let y = second.known p in omega (arith, x, y);
  over = λ p e. second.over p (first.over p e);
  wide = λ n w. second.wide n (first.wide n w);
  made = second.made ∙ first.made;
}

-- another view and another log change nothing of it
pub knows_stepped : (m : Mind) (v : View) (xs : Log) → Knows m (record m { view = v; log = xs })
knows_stepped m v xs = record {
  left = λ p. omega arith;
  known = λ p. omega arith;
  over = λ p e. e;
  wide = λ n w. record { left = w.left; known = w.known; over = w.over; low = w.low };
  made = refl;
}

seen_wide : (m : Mind) (p : ℕ) (t : Tag) → length (left_seen m p t) ≡ length m.left
seen_wide m p t = by_case (is_unborn t)
  where
    by_case : (b : Bool)
        → length (if b then m.left else set m.left p (min (get_or m.left p 0) (steps_of m.view.plan p))) ≡ length m.left
    by_case true = refl
    by_case false = length-set m.left p _

-- nor does it that the seat changed a word
turned_knows : (m n : Mind) → Knows m n → Knows m (turned n)
turned_knows m n k = record {
  left = k.left;
  known = k.known;
  over = k.over;
  wide = λ i w. let x = k.wide i w in record { left = x.left; known = x.known; over = x.over; low = x.low };
  made = k.made;
}

-- a word of the process that was found
pub spotted_knows : (m : Mind) (p : ℕ) (t : Tag) (c r : ℕ) (v : View) (xs : Log) → Tells m p t c
    → Knows m (spotted m p t c r v xs)
spotted_knows m p t c r v xs tells = record {
  left = seen_fewer m p t;
  known = set_or_same m.known p c 0 (λ j n. get_or m.known j 0 ≤ n) (λ j. omega arith) tells.on;
  over = set_or_same m.over p (is_ended t) false (λ j b. get_or m.over j false ≡ true → b ≡ true) (λ j e. e) tells.still;
  wide = λ n w. record {
    left = seen_wide m p t ∙ w.left;
    known = length-set m.known p c ∙ w.known;
    over = length-set m.over p (is_ended t) ∙ w.over;
    low = set_or_same m.known p c 0 (λ j n. n ≤ LAST_TICK) w.low tells.low;
  };
  made = refl;
}

pub found_knows : (old : SeatState) (p : ℕ) (s : Seen) (v : View) (xs : Log) (new : SeatState) → Found old p s v xs new
    → Knows old.mind new.mind
found_knows old p s v xs new found =
    subst (Knows old.mind) (sym (ap (λ (x : SeatState). x.mind) found.sight))
    (spotted_knows old.mind p s.tag s.clock _ v xs found.tells)

pub hands_knows : (a : About) (old : SeatState) (p : ℕ) (s : Seen) (b : Berth) (new : SeatState) → HasClaimed a old p s b new
    → Knows old.mind new.mind
hands_knows a old p s b new hands =
    subst (Knows old.mind) (sym (ap (λ (x : SeatState). x.mind) hands.sight))
    (turned_knows old.mind _ (spotted_knows old.mind p s.tag s.clock _ _ _ hands.tells))

-- a process that was not born, and is out now
pub born_knows : (m : Mind) (p c r : ℕ) (v : View) (xs : Log) → c ≤ LAST_TICK → Tells m p Unborn 0
    → Knows m (turned (spotted m p Out c r v xs))
born_knows m p c r v xs low tells = record {
  left = seen_fewer m p Out;
  known = set_or_same m.known p c 0 (λ j n. get_or m.known j 0 ≤ n) (λ j. omega arith)
      (let none_yet = tells.on in omega (arith, none_yet));
  over = set_or_same m.over p false false (λ j b. get_or m.over j false ≡ true → b ≡ true) (λ j e. e) (λ e. tells.still e);
  wide = λ n w. record {
    left = seen_wide m p Out ∙ w.left;
    known = length-set m.known p c ∙ w.known;
    over = length-set m.over p false ∙ w.over;
    low = set_or_same m.known p c 0 (λ j n. n ≤ LAST_TICK) w.low low;
  };
  made = refl;
}
