-- What a voice of a large score plays: how far it goes, and how many events it has.
use Rattle.std.proofs.Common.{◌≡◌, ◌∙◌, ◌+◌, ◌*◌, ℕ, Bool, Option, Some, None, option_map, add-zero, zero-add, add_assoc, append_assoc, subst, true, false, zero, suc, List, [], ◌∷◌, ◌++◌, length, map, refl, sym, ap, ap₂, arith, length-append, if◌then◌else◌}
use Rattle.std.specs.Prelude.{nat_eq}
use Rattle.fm_lex.specs.declared.spot.Spot.{Spot}
use Rattle.fm_value.specs.declared.node.Node.{Node}
use Rattle.std.specs.Option.{option_to_list}
use Rattle.fm_msg.specs.declared.msg.Msg.{Msg}
use Rattle.fm_msg.specs.Event.{TimedMessage}
use Rattle.fm_warp.specs.declared.part.Part.{Part}
use Rattle.fm_warp.specs.declared.side.Side.TheVariants.{Onset}
use Rattle.fm_warp.specs.Deformation.{at, placed, placed_end}
use Rattle.fm_line.specs.Marks.{Mark, events_in_turn, mapped, mark_event}
use Rattle.fm_meaning.specs.Played.{Made, and_then, in_block, made, passage_plays, plays, rounds}
use Rattle.fm_meaning.specs.Resolved.{Passage, Play, channel, done, drawn, item, loop, note, ticks, times, warp}
use Rattle.fm_meaning.specs.State.{Around, Now, looped}

-- ---- counting

-- how many events the marks of a process have
abbrev pub heard : ℕ → List Mark → ℕ
heard p ms = length (events_in_turn p ms)

turn_append : (p : ℕ) (xs ys : List Mark) → events_in_turn p (xs ++ ys) ≡ events_in_turn p xs ++ events_in_turn p ys
turn_append p [] ys = refl
turn_append p (x ∷ xs) ys = ap (λ (es : List TimedMessage). (if nat_eq x.process p then option_to_list (mark_event x) else []) ++ es)
    (turn_append p xs ys) ∙ sym (append_assoc (if nat_eq x.process p then option_to_list (mark_event x) else []) (events_in_turn p xs)
    (events_in_turn p ys))

-- of two lists of marks
pub heard_append : (p : ℕ) (xs ys : List Mark) → heard p (xs ++ ys) ≡ heard p xs + heard p ys
heard_append p xs ys = ap length (turn_append p xs ys) ∙ length-append (events_in_turn p xs) (events_in_turn p ys)

-- a deformation changes no number of events
pub heard_mapped : (p : ℕ) (f g : ℕ → ℕ) (ms : List Mark) → heard p (map (mapped f g) ms) ≡ heard p ms
heard_mapped p f g [] = refl
heard_mapped p f g (m ∷ ms) = go (nat_eq m.process p) m.msg (heard_mapped p f g ms)
  where
    one : (b : Bool) (msg : Option Msg) (events : List TimedMessage) (x y : Msg → TimedMessage) (more : List TimedMessage)
        → length events ≡ length more
        → length ((if b then option_to_list (option_map x msg) else []) ++ events)
        ≡ length ((if b then option_to_list (option_map y msg) else []) ++ more)
    one true None events x y more same = same
    one true (Some msg) events x y more same = ap suc same
    one false msg events x y more same = same

    go : (b : Bool) (msg : Option Msg) → heard p (map (mapped f g) ms) ≡ heard p ms → heard p (map (mapped f g) (m ∷ ms)) ≡ heard p (m ∷ ms)
    go b msg same = one (nat_eq m.process p) m.msg (events_in_turn p (map (mapped f g) ms)) _ _ (events_in_turn p ms) same

-- ---- a note

-- what a stretch of a process leaves as it was, how far it goes, and how many events it has
pub record Goes (n : Now) (m : Made) (ticks sounding : ℕ) : Type 0 where
  pub position : m.after.position ≡ n.position + ticks
  pub process : m.after.process ≡ n.process
  pub births : m.after.births ≡ n.births
  pub events : (p : ℕ) → heard p m.marks ≡ (if nat_eq n.process p then sounding else 0)

-- a note of one key that is drawn
abbrev pub one_note : Spot → List Node → Passage
one_note s nodes = item s (note (drawn nodes ∷ []) (ticks 120)) done

two_events : (b : Bool) (x y : TimedMessage) → length ((if b then x ∷ [] else []) ++ ((if b then y ∷ [] else []) ++ []))
    ≡ (if b then 2 else 0)
two_events true x y = refl
two_events false x y = refl

note_goes : (s : Spot) (nodes : List Node) (i : ℕ) (a : Around) (n : Now)
    → Goes n (in_block (looped i) (passage_plays (one_note s nodes) a) n) 120 2
note_goes s nodes i a n = record {
  position = refl;
  process = refl;
  births = refl;
  events = λ p. two_events (nat_eq n.process p) _ _;
}

-- one after the other
both : (n : Now) (first : Made) (later : Now → Made) (t u e f : ℕ) → Goes n first t e → Goes first.after (later first.after) u f
    → Goes n (and_then first later) (t + u) (e + f)
both n first later t u e f one two = record {
  position = two.position ∙ ap (λ k. k + u) one.position ∙ add_assoc n.position t u;
  process = two.process ∙ one.process;
  births = two.births ∙ one.births;
  events = λ p. heard_append p first.marks (later first.after).marks ∙ ap₂ (λ a b. a + b) (one.events p) (two.events p)
      ∙ ap (λ q. (if nat_eq n.process p then e else 0) + (if nat_eq q p then f else 0)) one.process ∙ added (nat_eq n.process p);
}
  where
    added : (b : Bool) → (if b then e else 0) + (if b then f else 0) ≡ (if b then e + f else 0)
    added true = refl
    added false = refl

-- the same numbers, told otherwise
pub goes_as : (n : Now) (m : Made) (t u e f : ℕ) → t ≡ u → e ≡ f → Goes n m t e → Goes n m u f
goes_as n m t u e f ticks_same events_same goes = subst (λ k. Goes n m k f) ticks_same (subst (λ k. Goes n m t k) events_same goes)

-- so many of them
rounds_go : (s : Spot) (nodes : List Node) (a : Around) (count i : ℕ) (n : Now)
    → Goes n (rounds (λ k. in_block (looped k) (passage_plays (one_note s nodes) a)) count i n) (120 * count) (2 * count)
rounds_go s nodes a zero i n = record {
  position = sym (add-zero n.position);
  process = refl;
  births = refl;
  events = λ p. none (nat_eq n.process p);
}
  where
    none : (b : Bool) → ◌≡◌ {A = ℕ} 0 (if b then 0 else 0)
    none true = refl
    none false = refl
rounds_go s nodes a (suc count) i n =
    goes_as n _ (120 + 120 * count) (120 * suc count) (2 + 2 * count) (2 * suc count) (omega arith) (omega arith)
    (both n (in_block (looped i) (passage_plays (one_note s nodes) a) n)
    (rounds (λ k. in_block (looped k) (passage_plays (one_note s nodes) a)) count (i + 1)) 120 (120 * count) 2 (2 * count)
    (note_goes s nodes i a n) (rounds_go s nodes a count (i + 1) _))

-- ---- a voice

nothing_goes : (n : Now) → Goes n (made [] n) 0 0
nothing_goes n = record { position = sym (add-zero n.position); process = refl; births = refl; events = λ p. none (nat_eq n.process p) }
  where
    none : (b : Bool) → ◌≡◌ {A = ℕ} 0 (if b then 0 else 0)
    none true = refl
    none false = refl

-- one statement alone
pub alone : (s : Spot) (play : Play) (a : Around) (n : Now) (t e : ℕ) → Goes n (plays play a n) t e
    → Goes n (passage_plays (item s play done) a n) t e
alone s play a n t e goes = goes_as n _ (t + 0) t (e + 0) e (omega arith) (omega arith)
    (both n (plays play a n) (passage_plays done a) t 0 e 0 goes (nothing_goes _))

-- a loop over the note
pub voice_goes : (s r : Spot) (nodes : List Node) (notes : ℕ) (a : Around) (n : Now)
    → Goes n (passage_plays (item s (loop (times notes) (one_note r nodes)) done) a n) (120 * notes) (2 * notes)
voice_goes s r nodes notes a n = alone s (loop (times notes) (one_note r nodes)) a n (120 * notes) (2 * notes)
    (rounds_go r nodes a notes 0 n)

-- a deformation, of a process at the beginning
pub warped_goes : (s : Spot) (parts : List Part) (body : Passage) (a : Around) (n : Now) (t e : ℕ)
    → Goes (record n { position = 0 }) (passage_plays body a (record n { position = 0 })) t e
    → Goes n (passage_plays (item s (warp parts body) done) a n) (at parts t) e
warped_goes s parts body a n t e goes = alone s (warp parts body) a n (at parts t) e (record {
  position = ap (λ k. n.position + at parts k) (goes.position ∙ zero-add t);
  process = goes.process;
  births = goes.births;
  events = λ p. heard_mapped p (placed Onset n.position parts) (placed_end n.position parts)
      (passage_plays body a (record n { position = 0 })).marks ∙ goes.events p;
})

-- a channel
pub channel_goes : (s : Spot) (number : ℕ) (body : Passage) (a : Around) (n : Now) (t e : ℕ)
    → Goes n (passage_plays body (record a { channel = number }) n) t e
    → Goes n (passage_plays (item s (channel number body) done) a n) t e
channel_goes s number body a n t e goes = alone s (channel number body) a n t e goes
