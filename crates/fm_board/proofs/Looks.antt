-- Looks and paces keep the rule.
use Rattle.std.proofs.Common.{◌≡◌, ◌⊎◌, ℕ, ◌<◌, ◌≤◌, List, length, get_or, set, true, false, Option, refl, sym, ap, ◌∙◌, subst, inl, inr, arith, eq-eqb, length-set, None}
use Rattle.std.specs.Prelude.{nat_eq}
use mathlib.Core.Option.{some}
use lib.ListN.{get_elem?}
use Rattle.std.proofs.lemmas.List.{set-get_or}
use Rattle.atomic_table.specs.Table.{keeps, stepped}
use Rattle.fm_line.specs.Line.{line}
use Rattle.fm_line.specs.declared.limits.TheConstants.{LAST_TICK}
use Rattle.fm_core.proofs.Booleans.{and_true}
use Rattle.fm_core.specs.Invariant.{ValidSetting}
use Rattle.fm_core.specs.State.{State, cell}
use Rattle.fm_core.specs.Tags.{is_ended, is_held, is_unborn}
use Rattle.fm_core.specs.declared.cell.Cell.{Cell}
use Rattle.fm_core.specs.declared.floor.Floor.{Floor}
use Rattle.fm_core.specs.declared.tag.Tag.{Tag}
use Rattle.fm_program.proofs.Lines.{plan-lines-length}
use Rattle.fm_program.specs.Parts.{PlanParts}
use Rattle.fm_program.specs.Process.{plan_lines}
use Rattle.fm_strand.proofs.ValidLemmas.{lines-valid}
use Rattle.fm_board.specs.declared.about.About.{About}
use Rattle.fm_board.specs.declared.deposit.Deposit.{Deposit}
use Rattle.fm_board.specs.declared.view.Log.{Log}
use Rattle.fm_board.specs.declared.view.Mind.{Mind}
use Rattle.fm_board.specs.declared.view.View.{View}
use Rattle.fm_board.specs.Minds.{spotted}
use Rattle.fm_board.specs.Plays.{Finds, Tells}
use Rattle.fm_board.specs.StandsFor.{HoldsIn, Housed, IsSeat, IsSightOfZero, IsViewOf, Spelt, StandsFor, StandsForSome, Table, count, halt_at, setting}
use Rattle.fm_board.specs.Minds as seat_minds
use Rattle.fm_board.specs.Words.{IsWord, spell, word_at, place_at}
use Rattle.fm_board.proofs.Frames.{halt_stays, Leaves, reseated, written_stays}
use Rattle.fm_strand.specs.Course.{steps_of}
use Rattle.std.proofs.lemmas.Bool.{both_ways}
use mathlib.Core.Logic.{dite}
use native.Mathlib.Decide.{ℕ_discrete}
use Rattle.fm_core.specs.State.{held_by}
use Rattle.fm_board.proofs.Looking.{tells}
use Rattle.fm_board.specs.Runs.{Extends}
use Rattle.fm_board.proofs.Spellings.{one_word, set_or_same, upper_low, yes_or_no}
use Rattle.fm_core.specs.declared.limits.TheConstants.{MAX_SEATS}

-- the setting of a board is valid
pub valid_of : (a : About) → ValidSetting (setting a)
valid_of a = record { lines = lines-valid a.plan a.fits; some_room = a.rooms.0 }

module _ (a : About) (s : Table) (k : StandsForSome a s) where
  abbrev h : State
  h = k.core

  pub lined : length h.cells ≡ count a
  lined = k.sound.lined ∙ plan-lines-length a.plan

  -- a clock is at most the last tick
  pub low : (p : ℕ) → p < length h.cells → (cell h p).clock ≤ LAST_TICK
  low p lt = by_case (yes_or_no (is_unborn (cell h p).tag))
    where
      by_case : (is_unborn (cell h p).tag ≡ true) ⊎ (is_unborn (cell h p).tag ≡ false) → (cell h p).clock ≤ LAST_TICK
      by_case (inl unborn) = let none_yet = (k.stands.words.shown p lt).unborn unborn in omega arith
      by_case (inr born) =
          let fits = k.sound.fits p lt in
          let timed = fits.timed born in
          let top = upper_low (plan_lines a.plan) (valid_of a).lines p (cell h p).computed fits.computed in omega (arith, timed, top)

  -- a seat that is shown is at most 16
  pub few : (p : ℕ) → p < length h.cells → (cell h p).seat < MAX_SEATS
  few p lt = by_case (yes_or_no (is_held (cell h p).tag))
    where
      by_case : (is_held (cell h p).tag ≡ true) ⊎ (is_held (cell h p).tag ≡ false) → (cell h p).seat < MAX_SEATS
      by_case (inl held) = let near = k.sound.seated p lt held in let crew = k.stands.crew in let most = a.crew.1 in omega arith
      by_case (inr free) = let none_yet = (k.stands.words.shown p lt).idle free in omega arith

  pub is_word : (p : ℕ) → p < length h.cells → IsWord (get_or s.words (word_at p) 0)
  is_word p lt =
      let shown = k.stands.words.shown p lt in (
        (cell h p).tag,
        (cell h p).clock,
        (cell h p).seat,
        record { low = low p lt; few = few p lt; idle = shown.idle; unborn = shown.unborn },
        k.stands.words.spelt p lt,
      )

  -- what the word of a process says is what the process is
  pub says : (p : ℕ) → p < length h.cells → (t : Tag) (c n : ℕ) → n < MAX_SEATS → get_or s.words (word_at p) 0 ≡ spell t c n
      → ((cell h p).tag ≡ t) × ((cell h p).clock ≡ c) × ((cell h p).seat ≡ n)
  says p lt t c n small e =
      one_word (cell h p).tag t (cell h p).clock c (cell h p).seat n (few p lt) small (sym (k.stands.words.spelt p lt) ∙ e)

  -- where there is no other seat, and this one holds nothing, nobody holds a process
  pub none_out : (id p : ℕ) (m : Mind) → get_elem? s.views id ≡ some m → IsSeat a h id m → p < length h.cells → m.made ≡ 1
      → m.view.number ≡ 0 → m.view.holds ≡ None → is_held (cell h p).tag ≡ false
  none_out id p m at seat lt one first none_held = by_case (yes_or_no (is_held (cell h p).tag))
    where
      zero_is : id ≡ 0
      zero_is = sym seat.is.number ∙ first

      many : length s.views ≡ 1
      many = sym (k.stands.views.made m (subst (λ (j : ℕ). get_elem? s.views j ≡ some m) zero_is at)) ∙ one

      free : (j : ℕ) → j < length h.desks → held_by j (cell h p) ≡ false
      free j below = dite (ℕ_discrete j 0)
          (λ e. subst (λ (i : ℕ). held_by i (cell h p) ≡ false) (zero_is ∙ sym e) (subst (HoldsIn h id) none_held seat.is.holds p lt))
          (λ d. (k.stands.views.unmade j (omega (arith, many, d)) below).free p lt)

      by_case : (is_held (cell h p).tag ≡ true) ⊎ (is_held (cell h p).tag ≡ false) → is_held (cell h p).tag ≡ false
      by_case (inr free_now) = free_now
      by_case (inl held) =
          let no = free (cell h p).seat (k.sound.seated p lt held) in
          let held_by_it : held_by (cell h p).seat (cell h p) ≡ true =
          and_true (is_held (cell h p).tag) (nat_eq (cell h p).seat (cell h p).seat) held (eq-eqb (cell h p).seat (cell h p).seat refl) in
          absurd (both_ways (held_by (cell h p).seat (cell h p)) no held_by_it)

  -- an unborn process has more steps left than its program has, and the seat knows of no fewer
  pub more_left : (id p : ℕ) (m : Mind) → get_elem? s.views id ≡ some m → p < length h.cells → is_unborn (cell h p).tag ≡ true
      → steps_of a.plan p < get_or m.left p 0
  more_left id p m at lt is =
      let all = k.going.unborn p lt is in
      let known = k.going.known id m at p (let n = lined in omega (arith, n, lt)) in omega (arith, all, known)

  -- what the word of a process tells a seat
  pub found_tells : (id p : ℕ) (m : Mind) → get_elem? s.views id ≡ some m → IsSeat a h id m → p < length h.cells
      → Tells m p (cell h p).tag (cell h p).clock
  found_tells id p m at seat lt =
      let known = tells (setting a) h (valid_of a).lines k.sound in
      record {
        on = seat.known p;
        still = seat.over p;
        end = λ ended. known.end p lt ended ∙ sym (ap (λ (q : PlanParts). (line (plan_lines q) p).end) seat.is.plan);
        done = λ zero_is done. let z = seat.zero (sym seat.is.number ∙ zero_is) in known.done p lt (sym z.published ∙ done);
        unborn = λ is. let all = more_left id p m at lt is in subst (λ (q : PlanParts). steps_of q p < get_or m.left p 0)
            (sym seat.is.plan) all;
        low = low p lt;
        alone = λ one first none_held. none_out id p m at seat lt one first none_held;
      }

  pub finds : (id p : ℕ) (m : Mind) (cs : List (ℕ × Option Deposit)) (f : Tag → ℕ → View) (g : Tag → Log)
      → get_elem? s.views id ≡ some m → IsSeat a h id m → p < length h.cells
      → Extends m.view.number m.log (g (cell h p).tag)
      → Finds (m, cs) p (get_or s.words (word_at p) 0) f g (
        spotted m p (cell h p).tag (cell h p).clock (get_or s.words (word_at p) 0) (f (cell h p).tag (cell h p).clock) (g (cell h p).tag),
        cs,
      )
  finds id p m cs f g at seat lt extends = record {
    word = is_word p lt;
    out = refl;
    wide = seat.wide ∙ ap (λ (q : PlanParts). length q.programs) (sym seat.is.plan);
    same = λ one first here. let zero_is : id ≡ 0 = sym seat.is.number ∙ first in
        let n = lined in
        ap (λ (j : ℕ). get_or s.words (word_at j) 0) (sym here)
        ∙ k.alone m (subst (λ (j : ℕ). get_elem? s.views j ≡ some m) zero_is at) one (omega (arith, here, lt, n));
    mind = λ t c n small e. let is = says p lt t c n small e in
        λ i. spotted m p (is.0 i) (is.1 i) (get_or s.words (word_at p) 0) (f (is.0 i) (is.1 i)) (g (is.0 i));
    tells = λ t c n small e. let is = says p lt t c n small e in
        subst (λ (y : Tag × ℕ). Tells m p y.0 y.1) (λ i. (is.0 i, is.1 i)) (found_tells id p m at seat lt);
    extends = extends;
  }

  -- a step that leaves the processes and the floor
  pub looks_on : (i id : ℕ) (m w : Mind) (cs : List (ℕ × Option Deposit)) (h' : State) → get_elem? s.views id ≡ some m → w.made ≡ m.made
      → w.view.holds ≡ m.view.holds → w.view.halted ≡ m.view.halted
      → Leaves h h' id → h'.cells ≡ h.cells → h'.floor ≡ h.floor → IsSeat a h' id w
      → StandsFor a (stepped s i (get_or s.words i 0) id cs w keeps) h'
  looks_on i id m w cs h' at made holds halted l cells floor mine = record {
    crew = l.desks ∙ k.stands.crew;
    words = subst (λ (y : List ℕ × List Cell × Floor). Spelt a y.0 y.1 y.2)
        (λ j. (sym (set-get_or s.words i 0) j, sym cells j, sym floor j)) k.stands.words;
    homes = subst (λ (cs' : List Cell). Housed a s.homes cs') (sym cells) k.stands.homes;
    views = reseated a h h' id l s.views m w at made mine k.stands.views;
    wrote = written_stays a s.words (set s.words i (get_or s.words i 0)) s.views id m w at
        (λ p j few. ap (λ (ws : List ℕ). get_or ws (place_at p j) 0) (set-get_or s.words i 0)) (λ x e. inr (sym holds ∙ e)) k.stands.wrote;
    halt = halt_stays a s.words (set s.words i (get_or s.words i 0)) s.views id m w at
        (ap (λ (ws : List ℕ). get_or ws (halt_at a) 0) (set-get_or s.words i 0)) halted k.stands.halt;
  }

-- a seat's own view, with the process p as the state has it
pub sees_now : (a : About) (h : State) (id p : ℕ) (m : Mind) (v : View) → id < length h.desks → IsViewOf a h id v → m.room ≡ a.room
    → (id ≡ 0 → IsSightOfZero (setting a) h v) → length m.over ≡ count a → ((q : ℕ) → get_or m.known q 0 ≤ (cell h q).clock)
    → ((q : ℕ) → get_or m.over q false ≡ true → is_ended (cell h q).tag ≡ true)
    → (t : Tag) (c r : ℕ) (l : Log) → c ≤ (cell h p).clock → (is_ended t ≡ true → is_ended (cell h p).tag ≡ true)
    → IsSeat a h id (spotted m p t c r v l)
sees_now a h id p m v here is room zero wide known over t c r l clock ended = record {
  here = here;
  is = is;
  room = room;
  zero = zero;
  wide = length-set m.over p (is_ended t) ∙ wide;
  known = set_or_same m.known p c 0 (λ q n. n ≤ (cell h q).clock) known clock;
  over = set_or_same m.over p (is_ended t) false (λ q b. b ≡ true → is_ended (cell h q).tag ≡ true) over ended;
}

-- nor does it matter that the seat changed the word
pub turned_seat : (a : About) (h : State) (id : ℕ) (m : Mind) → IsSeat a h id m → IsSeat a h id (seat_minds.turned m)
turned_seat a h id m q = record {
  here = q.here;
  is = q.is;
  room = q.room;
  zero = q.zero;
  wide = q.wide;
  known = q.known;
  over = q.over;
}
