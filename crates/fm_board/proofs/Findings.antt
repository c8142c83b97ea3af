-- Words that a seat finds one after the other.
use Rattle.std.proofs.Common.{◌≡◌, ℕ, ◌+◌, ◌<◌, ◌≤◌, List, [], ◌∷◌, ◌++◌, length, take, get_or, set, max, map, Bool, true, false, None, refl, sym, ap, ◌∙◌, subst, arith, get_or-set_same}
use Rattle.std.proofs.lemmas.List.{take_all, take_more}
use Rattle.atomic_table.specs.Seated.{TableId}
use Rattle.fm_core.proofs.Elements.{take_none}
use Rattle.fm_core.specs.Tags.{is_ended}
use Rattle.fm_line.specs.Line.{greatest, line, start}
use Rattle.fm_program.specs.Parts.{PlanParts, process_program}
use Rattle.fm_program.specs.Process.{plan_lines}
use Rattle.fm_board.specs.declared.about.About.{About}
use Rattle.fm_board.specs.declared.seen.Seen.{Seen}
use Rattle.fm_board.specs.declared.view.Log.{Log}
use Rattle.fm_board.specs.declared.view.Mind.{Mind}
use Rattle.fm_board.specs.declared.view.View.{View}
use Rattle.fm_board.specs.Answers.{Found}
use Rattle.fm_board.specs.Minds.{recalled}
use Rattle.fm_board.specs.Plays.{Marked}
use Rattle.fm_board.specs.Seats.{IsOurs, SeatState}
use Rattle.fm_board.specs.Starting.{EndsFound, FindsEnd, FindsEnds, HasSeen, IsFirstLive, predecessors_of}
use Rattle.fm_board.specs.View.{lines_of, processes}
use Rattle.fm_board.proofs.Knowing.{found_knows, knows_none, knows_then}
use Rattle.fm_board.proofs.Births.{greatest_more, marked_more, ours_still, waits_are, waits_below}

-- ---- what a seat knows grows

pub seen_none : (x : SeatState) → HasSeen x x
seen_none x = record {
  table = refl;
  view = refl;
  made = refl;
  room = refl;
  knows = knows_none x.mind;
}

pub seen_then : (x y z : SeatState) → HasSeen x y → HasSeen y z → HasSeen x z
seen_then x y z before after = record {
  table = after.table ∙ before.table;
  view = after.view ∙ before.view;
  made = after.made ∙ before.made;
  room = after.room ∙ before.room;
  knows = knows_then x.mind y.mind z.mind before.knows after.knows;
}

-- a word that is found and is no look
pub seen_found : (x y : SeatState) (q : ℕ) (s : Seen) (xs : Log) → Found x q s x.mind.view xs y → HasSeen x y
seen_found x y q s xs found =
    let is = ap (λ (z : SeatState). z.mind) found.sight in
    record {
      table = ap (λ (z : SeatState). z.table) found.sight;
      view = ap (λ (m : Mind). m.view) is;
      made = ap (λ (m : Mind). m.made) is;
      room = ap (λ (m : Mind). m.room) is;
      knows = found_knows x q s x.mind.view xs y found;
    }

-- ---- the predecessors of a process

finds_last : (x y z : SeatState) (qs : List ℕ) (q : ℕ) → FindsEnds x qs y → FindsEnd y q z → FindsEnds x (qs ++ q ∷ []) z
finds_last x y z [] q are one = (z, subst (λ (w : SeatState). FindsEnd w q z) are one, refl)
finds_last x y z (p ∷ ps) q are one = (are.0, are.1, finds_last are.0 y z ps q are.2 one)

-- one more predecessor is found ended
pub finds_more : (x y z : SeatState) (ps : List ℕ) (n : ℕ) → n < length ps → FindsEnds x (take n ps) y → FindsEnd y (get_or ps n 0) z
    → FindsEnds x (take (n + 1) ps) z
finds_more x y z ps n less are one =
    subst (λ (qs : List ℕ). FindsEnds x qs z) (sym (take_more ps n 0 less)) (finds_last x y z (take n ps) (get_or ps n 0) are one)

-- the plan's list of predecessors is that of the view's line
pub waits_seen : (a : About) (t : TableId) (x : SeatState) (p : ℕ) (ps : List ℕ) → IsOurs t a x → ps ≡ (process_program a.plan p).predecessors
    → ps ≡ predecessors_of x p
waits_seen a t x p ps ours is = waits_are a p ps is ∙ ap (λ (q : PlanParts). (line (plan_lines q) p).predecessors) (sym ours.plan)

-- a predecessor is found before its end, those before it at their ends
pub first_live : (a : About) (t : TableId) (x y z : SeatState) (p q n : ℕ) (ps : List ℕ) (s : Seen) → IsOurs t a x
    → ps ≡ (process_program a.plan p).predecessors → n < length ps → FindsEnds x (take n ps) y → HasSeen x y → q ≡ get_or ps n 0
    → Found y q s y.mind.view (recalled y.mind q z.mind.log.seen s.tag) z → is_ended s.tag ≡ false → IsFirstLive x p q s z
first_live a t x y z p q n ps s ours waits less are seen is found live =
    let lists = waits_seen a t x p ps ours waits in
    record {
      nth = n;
      within = subst (λ (qs : List ℕ). n < length qs) lists less;
      is = is ∙ ap (λ (qs : List ℕ). get_or qs n 0) lists;
      before = y;
      finds = subst (λ (qs : List ℕ). FindsEnds x (take n qs) y) lists are;
      live = record { found = found; live = live };
      seen = seen_then x y z seen (seen_found y z q s (recalled y.mind q z.mind.log.seen s.tag) found);
    }

-- what is known once so many predecessors were found ended, the last of these ends at a tick
pub record FoundSoFar (a : About) (x : SeatState) (ps : List ℕ) (n tick : ℕ) (y : SeatState) : Type 0 where
  pub finds : FindsEnds x (take n ps) y
  pub seen : HasSeen x y
  pub marked : (i : ℕ) → i < n → get_or y.mind.over (get_or ps i 0) false ≡ true
  pub latest : tick ≡ greatest (map (λ q. (line (plan_lines a.plan) q).end) (take n ps))

pub found_none : (a : About) (x : SeatState) (ps : List ℕ) → FoundSoFar a x ps 0 0 x
found_none a x ps = record {
  finds = subst (λ (qs : List ℕ). FindsEnds x qs x) (sym (take_none ps)) refl;
  seen = seen_none x;
  marked = λ i less. absurd (omega arith);
  latest = ap (λ (qs : List ℕ). greatest (map (λ q. (line (plan_lines a.plan) q).end) qs)) (sym (take_none ps));
}

-- one more is found ended
pub found_one : (a : About) (t : TableId) (x y z : SeatState) (p n tick : ℕ) (ps : List ℕ) (s : Seen) → IsOurs t a x → p < processes x.mind.view
    → ps ≡ (process_program a.plan p).predecessors → n < length ps → FoundSoFar a x ps n tick y
    → Found y (get_or ps n 0) s y.mind.view (recalled y.mind (get_or ps n 0) z.mind.log.seen s.tag) z
    → length y.mind.over ≡ processes y.mind.view → is_ended s.tag ≡ true → FoundSoFar a x ps (n + 1) (max tick s.clock) z
found_one a t x y z p n tick ps s ours there waits less far found wide ended =
    let below = waits_below a p n ps waits less in
    let many : processes y.mind.view ≡ processes x.mind.view = ap processes far.seen.view in
    let near : get_or ps n 0 < length y.mind.over = omega (arith, below, many, there, wide) in
    let plans : y.mind.view.plan ≡ a.plan = ap (λ (v : View). v.plan) far.seen.view ∙ ours.plan in
    let clock : s.clock ≡ (line (plan_lines a.plan) (get_or ps n 0)).end =
    found.tells.end ended ∙ ap (λ (q : PlanParts). (line (plan_lines q) (get_or ps n 0)).end) plans in
    record {
      finds = finds_more x y z ps n less far.finds (record { seen = s; found = found; ended = ended });
      seen = seen_then x y z far.seen (seen_found y z (get_or ps n 0) s (recalled y.mind (get_or ps n 0) z.mind.log.seen s.tag) found);
      marked = marked_more y.mind z.mind ps n _ _ _ _ _ ended near far.marked (ap (λ (v : SeatState). v.mind) found.sight);
      latest = (λ k. max (far.latest k) (clock k)) ∙ sym (greatest_more (λ q. (line (plan_lines a.plan) q).end) ps n less);
    }

-- all are found ended, and the last of these ends is where the process starts
pub found_all : (a : About) (t : TableId) (x y : SeatState) (p n tick : ℕ) (ps : List ℕ) → IsOurs t a x
    → ps ≡ (process_program a.plan p).predecessors → length ps ≤ n → FoundSoFar a x ps n tick y
    → EndsFound x p y × (tick ≡ start (plan_lines a.plan) p)
found_all a t x y p n tick ps ours waits long far =
    let lists = waits_seen a t x p ps ours waits in
    let all = take_all n ps long in
    let now : ps ≡ predecessors_of y p = lists ∙ ap (λ (v : View). (line (lines_of v) p).predecessors) (sym far.seen.view) in (
      record {
        finds = subst (λ (qs : List ℕ). FindsEnds x qs y) (all ∙ lists) far.finds;
        seen = far.seen;
        marked = subst (λ (qs : List ℕ). (i : ℕ) → i < length qs → get_or y.mind.over (get_or qs i 0) false ≡ true) now
            (λ i less. far.marked i (omega (arith, less, long)));
      },
      far.latest ∙ ap (λ (qs : List ℕ). greatest (map (λ q. (line (plan_lines a.plan) q).end) qs)) (all ∙ waits_are a p ps waits),
    )

-- ---- what a call asks after words were found

pub ours_seen : (t : TableId) (a : About) (x y : SeatState) → IsOurs t a x → HasSeen x y → IsOurs t a y
ours_seen t a x y ours seen = ours_still t a x y ours seen.table seen.view seen.room

pub there_seen : (x y : SeatState) (p : ℕ) → p < processes x.mind.view → HasSeen x y → p < processes y.mind.view
there_seen x y p there seen = subst (λ (v : View). p < processes v) (sym seen.view) there

pub idle_seen : (x y : SeatState) → x.mind.view.holds ≡ None → HasSeen x y → y.mind.view.holds ≡ None
idle_seen x y idle seen = ap (λ (v : View). v.holds) seen.view ∙ idle

-- a process that was found ended is marked so
pub marked_now : (x y : SeatState) (p : ℕ) (s : Seen) (xs : Log) → Found x p s x.mind.view xs y → is_ended s.tag ≡ true
    → p < length x.mind.over
    → get_or y.mind.over p false ≡ true
marked_now x y p s xs found ended near =
    ap (λ (z : SeatState). get_or z.mind.over p false) found.sight
    ∙ (ap (λ (b : Bool). get_or (set x.mind.over p b) p false) ended ∙ get_or-set_same x.mind.over p true false near)

-- what a seat knows of predecessors that all ended
pub marks_of : (x y : SeatState) (p : ℕ) → y ≡ x → Marked x.mind p (length (predecessors_of x p))
    → Marked y.mind p (length (predecessors_of y p))
marks_of x y p is marks = subst (λ (z : SeatState). Marked z.mind p (length (predecessors_of z p))) (sym is) marks
