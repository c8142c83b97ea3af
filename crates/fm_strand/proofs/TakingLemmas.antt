-- Note-offs that are next join those that wait.
use Rattle.std.proofs.Common.{◌≡◌, refl, sym, ◌∙◌, ap, subst, arith, ℕ, ◌+◌, ◌*◌, ◌<◌, ◌≤◌, List, [], ◌∷◌, ◌++◌, length, length-append, map, true, false, nat_le, nat_lt}
use Rattle.fm_line.specs.Runs.{AllFrom}
use Rattle.fm_line.specs.Sounds.{Sound, come_out_after, most_waiting}
use Rattle.fm_line.proofs.OutEager.{from_push}
use Rattle.fm_offs.specs.declared.note_off.NoteOff.{NoteOff}
use Rattle.fm_offs.specs.Stack.{off_sound}
use Rattle.fm_offs.proofs.RestLemmas.{rest-joins}
use Rattle.fm_program.specs.Parts.{PlanParts}
use Rattle.fm_player.specs.declared.pending.Pending.{Pending}
use Rattle.fm_player.specs.declared.player.Player.{Player}
use Rattle.fm_player.specs.Ahead.{TakesOff, event_sound, sounds}
use Rattle.fm_player.specs.Player as player
use Rattle.fm_player.specs.Sounding.{is_at_off, offs_left}
use Rattle.fm_player.proofs.FrameLemmas.{false_true}
use Rattle.fm_player.proofs.StockLemmas.{below_of, both, most_of}
use Rattle.fm_strand.specs.declared.strand.Strand.{Strand}
use Rattle.fm_strand.specs.Strand.{TakesOffs}

-- some were taken, and more may be next
pub record Taking (p : PlanParts) (old new : Strand) : Type 0 where
  pub process : new.process ≡ old.process
  pub given : new.given ≡ old.given
  pub same : new.player.process ≡ old.player.process
  pub course : player.InCourse p new.player
  pub comes : (e : ℕ) → come_out_after new.waiting (sounds p new.player) e ≡ come_out_after old.waiting (sounds p old.player) e
  pub steps : player.steps_left p new.player + length new.waiting ≡ player.steps_left p old.player + length old.waiting
  pub room : length new.waiting + offs_left new.player.note ≤ length old.waiting + offs_left old.player.note
  pub few : is_at_off new.player.note ≡ true → length new.waiting + offs_left new.player.note ≤ most_waiting
  pub late : (t : ℕ) → AllFrom t old.waiting → t ≤ player.clock_of p old.player
      → AllFrom t new.waiting × (t ≤ player.clock_of p new.player)
  pub note : is_at_off old.player.note ≡ false → new ≡ old

pub taking-none : (p : PlanParts) (s : Strand) → player.InCourse p s.player
    → (is_at_off s.player.note ≡ true → length s.waiting + offs_left s.player.note ≤ most_waiting) → Taking p s s
taking-none p s course few = record {
  process = refl;
  given = refl;
  same = refl;
  course = course;
  comes = λ e. refl;
  steps = refl;
  room = omega arith;
  few = few;
  late = λ t all below. (all, below);
  note = λ free. refl;
}

-- a note-off is next
pub record AtOff (n : Pending) : Type 0 where
  pub past : length n.keys.items ≤ n.given
  pub more : n.given < 2 * length n.keys.items

pub at-off : (n : Pending) → is_at_off n ≡ true → AtOff n
at-off n is =
    let split = both (nat_le (length n.keys.items) n.given) (nat_lt n.given (2 * length n.keys.items)) is in
    record { past = most_of _ _ split.0; more = below_of _ _ split.1 }

-- one less is left
off-less : (n m : Pending) → AtOff n → m ≡ record n { given = n.given + 1 } → offs_left m + 1 ≡ offs_left n
off-less n m at is =
    subst (λ (k : Pending). offs_left k + 1 ≡ offs_left n) (sym is) (let past = at.past in let more = at.more in omega arith)

one_more : (ws : List Sound) (x : Sound) → length (ws ++ x ∷ []) ≡ length ws + 1
one_more ws x = length-append ws (x ∷ [])

-- one more is taken
pub taking-more : (p : PlanParts) (old cur : Strand) (off : NoteOff) (left : Player) (ws : List Sound) → Taking p old cur
    → TakesOff p cur.player off left → ws ≡ cur.waiting ++ off_sound off ∷ []
    → Taking p old (record cur { player = left; waiting = ws })
taking-more p old cur off left ws so takes is =
    let at = at-off cur.player.note takes.at_off in
    let less = off-less cur.player.note left.note at takes.note in
    let one : length ws ≡ length cur.waiting + 1 = ap length is ∙ one_more cur.waiting (off_sound off) in
    let sum : length ws + offs_left left.note ≡ length cur.waiting + offs_left cur.player.note = omega arith in
    let made = takes.step.is.0 in
    let heard : sounds p cur.player ≡ off_sound off ∷ sounds p left =
    ap (map event_sound) takes.step.is.2 ∙ ap (λ (x : Sound). x ∷ sounds p left) takes.is in
    let at : takes.event.time ≡ off.tick = ap (λ (x : Sound). x.time) takes.is in
    let tick : player.clock_of p cur.player ≤ off.tick = (let late = takes.step.is.4 in omega arith) in
    record {
      process = so.process;
      given = so.given;
      same = takes.step.process ∙ so.same;
      course = takes.step.course;
      comes = λ e.
          ap (λ (xs : List Sound). come_out_after xs (sounds p left) e) is
          ∙ sym (rest-joins e cur.waiting (off_sound off) (sounds p left) refl)
          ∙ ap (λ (xs : List Sound). come_out_after cur.waiting xs e) (sym heard)
          ∙ so.comes e;
      steps = (let steps = so.steps in omega arith);
      room = (let room = so.room in omega arith);
      few = λ next. (let few = so.few takes.at_off in omega arith);
      late = λ t all below.
          let before = so.late t all below in (
            subst (AllFrom t) (sym is) (from_push t cur.waiting (off_sound off) before.0 (let now = before.1 in omega arith)),
            (let now = before.1 in let later = takes.step.clock in omega arith),
          );
      note = λ free. absurd (false_true (sym (ap (λ (s : Strand). is_at_off s.player.note) (so.note free) ∙ free) ∙ takes.at_off));
    }

pub taking-all : (p : PlanParts) (old new : Strand) → Taking p old new → is_at_off new.player.note ≡ false → TakesOffs p old new
taking-all p old new so free = record {
  process = so.process;
  given = so.given;
  same = so.same;
  course = so.course;
  joined = free;
  comes = so.comes;
  steps = so.steps;
  room = so.room;
  late = so.late;
  note = so.note;
}

-- where a note-off is next, one is left
pub offs-some : (n : Pending) → is_at_off n ≡ true → 0 < offs_left n
offs-some n is = let at = at-off n is in let past = at.past in let more = at.more in omega arith
