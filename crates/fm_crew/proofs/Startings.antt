-- What a seat knows after a start, and after a give.
use Rattle.std.proofs.Common.{◌≡◌, ℕ, zero, suc, ◌<◌, ◌≤◌, Bool, true, false, List, [], ◌∷◌, length, get_or, set, take, min, refl, sym, ap, subst, ◌∙◌, arith, get_or-set_same}
use Rattle.std.specs.Prelude.{if◌then◌else◌}
use Rattle.std.proofs.lemmas.Bool.{both_ways}
use Rattle.fm_line.specs.Line.{line}
use Rattle.fm_core.specs.Tags.{given_tag, is_ended, is_unborn}
use Rattle.fm_core.specs.declared.tag.Tag.{Tag}
use Rattle.fm_core.specs.declared.tag.Tag.TheVariants.{Out}
use Rattle.fm_core.proofs.Given.{given_ended}
use Rattle.fm_strand.specs.Course.{steps_of}
use Rattle.fm_strand.specs.Strand.{steps_left}
use Rattle.fm_board.specs.Answers.{Gave}
use Rattle.fm_board.specs.Knowing.{Knows}
use Rattle.fm_board.specs.Minds.{left_seen}
use Rattle.fm_board.specs.Plays.{Marked}
use Rattle.fm_board.specs.Seats.{SeatState}
use Rattle.fm_board.specs.Starting.{FindsEnds, Starts, predecessors_of}
use Rattle.fm_board.specs.View.{holding, is_over, lines_of}
use Rattle.fm_board.specs.declared.about.About.{About}
use Rattle.fm_board.specs.declared.berth.Berth.{Berth}
use Rattle.fm_board.specs.declared.claim.Started.{Started}
use Rattle.fm_board.specs.declared.claim.Started.TheVariants as started
use Rattle.fm_board.specs.declared.view.Mind.{Mind}
use Rattle.fm_board.proofs.Births.{start_low}
use Rattle.fm_board.proofs.Knowing.{born_knows, found_knows, knows_none, knows_then}

-- a number that was set is not above what it was set to
pub set_most : (xs : List ℕ) (i v : ℕ) → get_or (set xs i v) i 0 ≤ v
set_most [] i v = omega arith
set_most (x ∷ xs) zero v = omega arith
set_most (x ∷ xs) (suc i) v = set_most xs i v

-- a process that was seen born has no more steps left than its program has
pub seen_born : (m : Mind) (p : ℕ) (t : Tag) → is_unborn t ≡ false → get_or (left_seen m p t) p 0 ≤ steps_of m.view.plan p
seen_born m p t born =
    subst (λ (b : Bool). get_or (if b then m.left else set m.left p (min (get_or m.left p 0) (steps_of m.view.plan p))) p 0
    ≤ steps_of m.view.plan p) (sym born)
    (below _ (get_or m.left p 0) (steps_of m.view.plan p) (set_most m.left p (min (get_or m.left p 0) (steps_of m.view.plan p))))
  where
    below : (n x y : ℕ) → n ≤ min x y → n ≤ y
    below n x y less = omega arith

-- one that was seen unborn has as many as the seat knew of
pub seen_unborn : (m : Mind) (p : ℕ) (t : Tag) → is_unborn t ≡ true → left_seen m p t ≡ m.left
seen_unborn m p t is =
    ap (λ (b : Bool). if b then m.left else set m.left p (min (get_or m.left p 0) (steps_of m.view.plan p))) is

-- ---- starts

finds_know : (x : SeatState) (qs : List ℕ) (y : SeatState) → FindsEnds x qs y → Knows x.mind y.mind
finds_know x [] y are = subst (λ (z : SeatState). Knows x.mind z.mind) (sym are) (knows_none x.mind)
finds_know x (q ∷ qs) y are =
    knows_then x.mind are.0.mind y.mind (found_knows x q are.1.seen x.mind.view _ are.0 are.1.found) (finds_know are.0 qs y are.2)

pub starts_know : (a : About) (old new : SeatState) (p : ℕ) (r : Started) → Starts a old p r new → Knows old.mind new.mind
starts_know a old new p (started.Held b) is =
    let begins = is.begins in
    knows_then old.mind is.between.mind new.mind is.ended.seen.knows
    (subst (Knows is.between.mind) (sym (ap (λ (x : SeatState). x.mind) begins.sight))
    (born_knows is.between.mind p begins.hold.clock _ (holding is.between.mind.view begins.hold) _
    (let at = begins.is.at in let low = start_low a p in omega (arith, at, low)) begins.tells))
starts_know a old new p (started.NotYet q found) is = is.seen.knows
starts_know a old new p (started.Busy found) is = is.seen.knows

-- a process of which nothing stands in the way is born then
pub starts_born : (a : About) (old new : SeatState) (p : ℕ) (r : Started) → Starts a old p r new
    → Marked old.mind p (length (line (lines_of old.mind.view) p).predecessors)
    → get_or new.mind.left p 0 ≤ steps_of new.mind.view.plan p
starts_born a old new p (started.Held b) is marked =
    let begins = is.begins in
    subst (λ (m : Mind). get_or m.left p 0 ≤ steps_of m.view.plan p) (sym (ap (λ (x : SeatState). x.mind) begins.sight))
    (seen_born is.between.mind p Out refl)
starts_born a old new p (started.Busy found) is marked =
    subst (λ (m : Mind). get_or m.left p 0 ≤ steps_of m.view.plan p) (sym (ap (λ (x : SeatState). x.mind) is.born.found.sight))
    (seen_born is.between.mind p found.tag is.born.born)
starts_born a old new p (started.NotYet q found) is marked =
    let known : get_or old.mind.over q false ≡ true =
    ap (λ (z : ℕ). get_or old.mind.over z false) is.is ∙ marked is.nth is.within in
    let knows = finds_know old (take is.nth (predecessors_of old p)) is.before is.finds in
    let ended = is.live.found.tells.still (knows.over q known) in
    absurd (both_ways (is_ended found.tag) is.live.live ended)

-- ---- gives

pub gave_left : (a : About) (old new : SeatState) (b : Berth) → Gave a old b new
    → get_or new.mind.left b.process 0 ≤ steps_left a.plan b.strand
gave_left a old new b is =
    subst (λ (m : Mind). get_or m.left b.process 0 ≤ steps_left a.plan b.strand) (sym (ap (λ (x : SeatState). x.mind) is))
    (set_most old.mind.left b.process (steps_left a.plan b.strand))

pub gave_over : (a : About) (old new : SeatState) (b : Berth) → Gave a old b new → is_over old.mind.view.holds ≡ true
    → b.process < length old.mind.over → get_or new.mind.over b.process false ≡ true
gave_over a old new b is over near =
    subst (λ (m : Mind). get_or m.over b.process false ≡ true) (sym (ap (λ (x : SeatState). x.mind) is))
    (get_or-set_same old.mind.over b.process
    (is_ended (given_tag a.room (is_over old.mind.view.holds) (length b.outbox.events))) false near
    ∙ (given_ended a.room (length b.outbox.events) (is_over old.mind.view.holds) ∙ over))
