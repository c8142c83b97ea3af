-- Once a note has begun there is room for its note-offs.
use Rattle.std.proofs.Common.{◌≡◌, refl, sym, ◌∙◌, subst, arith, ℕ, zero, suc, ◌+◌, ◌*◌, ◌<◌, ◌≤◌, length, Bool, true, false, nat_le, nat_lt, ◌&&◌, inl, inr}
use Rattle.std.proofs.lemmas.Bool.{leb-true, ltb-true}
use Rattle.fm_line.specs.Sounds.{most_waiting}
use Rattle.fm_offs.specs.Stack.{HasRoom}
use Rattle.fm_program.specs.Parts.{PlanParts}
use Rattle.fm_player.specs.declared.pending.Pending.{Pending}
use Rattle.fm_player.specs.declared.player.Player.{Player}
use Rattle.fm_player.specs.Ahead.{NoteGoes, pitches_ahead}
use Rattle.fm_player.specs.Player as player
use Rattle.fm_player.specs.Sounding.{is_at_off, offs_left, ons_left}
use Rattle.fm_player.proofs.AheadLemmas.{ahead-on}
use Rattle.fm_player.proofs.SoundLemmas.{not_at_off}
use Rattle.fm_strand.specs.declared.strand.Strand.{Strand}
use Rattle.fm_strand.proofs.TakingLemmas.{at-off}
use Rattle.fm_strand.specs.Strand.{InCourse}

-- a note of which nothing was given is at no note-off
pub none-at-off : (n : Pending) → n.given ≡ 0 → is_at_off n ≡ false
none-at-off n none = at (nat_le (length n.keys.items) n.given) refl (nat_lt n.given (2 * length n.keys.items)) refl
  where
    at : (a : Bool) → nat_le (length n.keys.items) n.given ≡ a → (b : Bool) → nat_lt n.given (2 * length n.keys.items) ≡ b
        → (a && b) ≡ false
    at true past true more = absurd (let over = leb-true _ _ past in let below = ltb-true _ _ more in omega arith)
    at true past false more = refl
    at false past b more = refl

-- once a note has begun there is room for its note-offs
pub offs-room : (p : PlanParts) (s : Strand) (mid : Player) (k : ℕ) → InCourse p s → k ≡ pitches_ahead p s.player
    → HasRoom (player.clock_of p s.player) k s.waiting → NoteGoes s.player.note mid.note → 0 < mid.note.given
    → length s.waiting + offs_left mid.note ≤ most_waiting
offs-room p s mid k course ahead room (inl (more, is)) begun =
    let n = s.player.note in
    let left : n.given < length n.keys.items = not_at_off n course.joined more in
    let count : k ≡ ons_left n = ahead ∙ sym (ahead-on p s.player (omega arith)) in
    let all : length s.waiting + length n.keys.items ≤ most_waiting = at n.given refl left count in
    subst (λ (m : Pending). length s.waiting + offs_left m ≤ most_waiting) (sym is) (omega arith)
  where
    at : (g : ℕ) → s.player.note.given ≡ g → s.player.note.given < length s.player.note.keys.items → k ≡ ons_left s.player.note
        → length s.waiting + length s.player.note.keys.items ≤ most_waiting
    at zero none below count = let few = room.room in omega arith
    at (suc g) some below count = let few = course.room (omega arith) in omega arith
offs-room p s mid k course ahead room (inr (all, inl same)) begun =
    subst (λ (m : Pending). length s.waiting + offs_left m ≤ most_waiting) (sym same) (let few = course.few in omega arith)
offs-room p s mid k course ahead room (inr (all, inr fresh)) begun = absurd (omega arith)

begun_at_off : (n : Pending) → is_at_off n ≡ true → 0 < n.given
begun_at_off n is = let at = at-off n is in let past = at.past in let more = at.more in omega arith

-- the room that its note-offs need
pub offs-fit : (p : PlanParts) (s : Strand) (mid : Player) (k : ℕ) → InCourse p s → k ≡ pitches_ahead p s.player
    → HasRoom (player.clock_of p s.player) k s.waiting → NoteGoes s.player.note mid.note → is_at_off mid.note ≡ true
    → length s.waiting + offs_left mid.note ≤ most_waiting
offs-fit p s mid k course ahead room goes at = offs-room p s mid k course ahead room goes (begun_at_off mid.note at)
