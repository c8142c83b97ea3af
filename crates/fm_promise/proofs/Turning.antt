-- What is played with articulations of at most 100 percent: its marks end with their durations, in their order.
use Rattle.std.proofs.Common.{◌≡◌, ℕ, ◌+◌, ◌*◌, ◌<◌, ◌≤◌, ◌⊎◌, inl, inr, Bool, true, false, List, [], ◌∷◌, ◌++◌, map, length, refl, ap, sym, ◌∙◌, subst, arith, true≢false}
use Rattle.std.proofs.Math.Nat.{mul-le-mul_right, div-mul-le_self, mul_comm}
use Rattle.std.specs.Prelude.{Some, min, ℤ}
use Rattle.std.specs.List.{AllByRecursion}
use Rattle.fm_msg.specs.declared.msg.Msg.{Msg}
use Rattle.fm_msg.specs.declared.msg.Msg.TheVariants.{On, Off}
use Rattle.fm_tick.specs.declared.tick.TheConstants.{MAX_TICK}
use Rattle.fm_warp.specs.declared.part.Part.{Part}
use Rattle.fm_warp.specs.declared.side.Side.TheVariants.{Onset, Ending}
use Rattle.fm_warp.specs.Deformation.{at, placed, placed_end}
use Rattle.fm_warp.proofs.DeformationLemmas.{sum_from-mono, sum_from-ending}
use Rattle.fm_pattern.specs.NoteEnd.{note_end}
use Rattle.fm_line.specs.Marks.{Mark, mapped}
use Rattle.fm_line.specs.Sounds.{is_note_off}
use Rattle.fm_meaning.specs.Rules.{usual_gate, usual_velocity}
use Rattle.fm_meaning.specs.Resolved.{DataSource, LengthSource, PointKind, control, program, bend, Quality, articulation, loudness}
use Rattle.fm_meaning.specs.State.{OpenBlock, Around, Now, Drawing, taken, amount_drawn, keys_drawn, span_drawn}
use Rattle.fm_meaning.specs.Played.{Made, made, mark_at, sent, in_block, note_plays, point_plays, point_message}
use Rattle.fm_promise.proofs.Lists.{each_append, each_mapped, each_weaken}
use Rattle.fm_promise.proofs.Playable.{most_entry}
use Rattle.fm_promise.proofs.Drawing.{AreWithin, next_within, closed_open, Stays, stays_then, amount_stays, keys_stay, taken_stays, span_stays}
use Rattle.fm_promise.proofs.Good.{Standing, standing}
use Rattle.fm_promise.proofs.Sending.{standing_same, sent_after, IsSent, are_sent}
use Rattle.fm_promise.proofs.Following.{TwoMaps, Inside, inside_wider, inside_mapped, Follows, Later, InOrder, order_append, order_mapped, follow_apart}

-- the greatest entries where no articulation is above the whole duration
abbrev pub in_turn : ℕ → Quality → ℕ
in_turn longest = most_entry longest 100

-- a process that is the given one, or got its number between two numbers of processes
abbrev pub IsOwn : (low high p q : ℕ) → Type 0
IsOwn low high p q = (q ≡ p) ⊎ ((low ≤ q) × (q < high))

-- what was played from a standing, where notes end with their durations
pub record Turned (longest : ℕ) (s : Standing) (m : Made) : Type 0 where
  pub rises : s.position ≤ m.after.position
  pub inside : AllByRecursion (Inside s.position m.after.position) m.marks
  pub order : InOrder m.marks
  pub grows : length s.births ≤ length m.after.births
  pub numbers : AllByRecursion (λ x. IsOwn (length s.births) (length m.after.births) s.process x.process) m.marks
  pub stands : IsOwn (length s.births) (length m.after.births) s.process m.after.process
  pub blocks : AreWithin (in_turn longest) m.after.blocks

-- ---- numbers of processes

-- with more processes behind
own_up : (low mid high p q : ℕ) → mid ≤ high → IsOwn low mid p q → IsOwn low high p q
own_up low mid high p q up (inl is) = inl is
own_up low mid high p q up (inr range) = inr (range.0, omega (arith, range.1, up))

-- what is own to a process that is own
own_then : (low mid high p r q : ℕ) → low ≤ mid → mid ≤ high → IsOwn low mid p r → IsOwn mid high r q → IsOwn low high p q
own_then low mid high p r q down up first (inr range) = inr (omega (arith, range.0, down), range.1)
own_then low mid high p r q down up (inl is) (inl same) = inl (same ∙ is)
own_then low mid high p r q down up (inr range) (inl same) = inr (omega (arith, range.0, same), omega (arith, range.1, up, same))

-- ---- one after the other

-- nothing played
pub idle : (longest : ℕ) (s : Standing) (k : Now) → s.position ≤ k.position → s.process ≡ k.process → s.births ≡ k.births
    → AreWithin (in_turn longest) k.blocks → Turned longest s (made [] k)
idle longest s k low process births blocks = record {
  rises = low;
  inside = tt;
  order = tt;
  grows = omega (arith, ap length births);
  numbers = tt;
  stands = inl (sym process);
  blocks = blocks;
}

-- what is played, and what is played from there
pub turned_then : (longest : ℕ) (s : Standing) (m k : Made) → Turned longest s m → Turned longest (standing m.after) k
    → Turned longest s (made (m.marks ++ k.marks) k.after)
turned_then longest s m k g h = record {
  rises = omega (arith, g.rises, h.rises);
  inside = each_append (Inside s.position k.after.position) m.marks k.marks
      (each_weaken (Inside s.position m.after.position) (Inside s.position k.after.position)
      (inside_wider s.position m.after.position s.position k.after.position (omega arith) h.rises) m.marks g.inside)
      (each_weaken (Inside m.after.position k.after.position) (Inside s.position k.after.position)
      (inside_wider m.after.position k.after.position s.position k.after.position g.rises (omega arith)) k.marks h.inside);
  order = order_append m.marks k.marks g.order h.order
      (follow_apart s.position m.after.position k.after.position m.marks k.marks g.inside h.inside);
  grows = omega (arith, g.grows, h.grows);
  numbers = each_append Own m.marks k.marks
      (each_weaken (λ x. IsOwn (length s.births) (length m.after.births) s.process x.process) Own
      (λ x is. own_up (length s.births) (length m.after.births) (length k.after.births) s.process x.process h.grows is) m.marks g.numbers)
      (each_weaken (λ x. IsOwn (length m.after.births) (length k.after.births) m.after.process x.process) Own
      (λ x is. onward x.process is) k.marks h.numbers);
  stands = onward k.after.process h.stands;
  blocks = h.blocks;
}
  where
    Own : Mark → Type 0
    Own x = IsOwn (length s.births) (length k.after.births) s.process x.process

    onward : (q : ℕ) → IsOwn (length m.after.births) (length k.after.births) m.after.process q
        → IsOwn (length s.births) (length k.after.births) s.process q
    onward q is =
        own_then (length s.births) (length m.after.births) (length k.after.births) s.process m.after.process q g.grows h.grows g.stands is

-- ---- messages at one position

-- messages of one kind
abbrev AllEnd : Bool → List Msg → Type 0
AllEnd off ms = AllByRecursion (λ x. is_note_off x ≡ off) ms

-- two note-offs with one ending, or two marks that end where they begin
chord_follows : (off : Bool) (position ending : ℕ) (x y : Mark) → (off ≡ false → ending ≡ position)
    → IsSent off position ending x → IsSent off position ending y → Follows x y
chord_follows true position ending x y steady first second = record {
  begins = omega (arith, first.onset, second.onset);
  ends = inr (record { first = first.kind; second = second.kind; order = omega (arith, first.end, second.end) });
}
chord_follows false position ending x y steady first second = record {
  begins = omega (arith, first.onset, second.onset);
  ends = inl (omega (arith, first.end, second.onset, steady refl));
}

-- messages of one kind, sent, and then on to a position
sent_turned : (longest : ℕ) (off : Bool) (ms : List Msg) (ending q : ℕ) (n : Now) → AllEnd off ms → (off ≡ false → ending ≡ n.position)
    → n.position ≤ q → ending ≤ q → AreWithin (in_turn longest) n.blocks
    → Turned longest (standing n) (made (sent ms ending n).marks (record n { index = n.index + length ms; position = q }))
sent_turned longest off [] ending q n kind steady low over blocks =
    idle longest (standing n) (record n { index = n.index + 0; position = q }) low refl refl blocks
sent_turned longest off (m ∷ ms) ending q n kind steady low over blocks =
    let rest = sent_turned longest off ms ending q (record n { index = n.index + 1 }) kind.1 steady low over blocks in
    record {
      rises = low;
      inside = (record { from = omega arith; to = low; ends = over; steady = λ is. steady (sym kind.0 ∙ is) }, rest.inside);
      order = (
        each_weaken (IsSent off n.position ending) (Later (mark_at n (Some m) ending))
            (λ y is _. chord_follows off n.position ending (mark_at n (Some m) ending) y steady
            (record { kind = kind.0; onset = refl; end = refl }) is) (sent ms ending (record n { index = n.index + 1 })).marks
            (are_sent off ms ending (record n { index = n.index + 1 }) kind.1),
        rest.order,
      );
      grows = omega arith;
      numbers = (inl refl, rest.numbers);
      stands = inl refl;
      blocks = blocks;
    }

-- note-ons
ons_begin : (ch velocity : ℕ) (ks : List ℕ) → AllEnd false (map (λ k. On ch k velocity) ks)
ons_begin ch velocity [] = tt
ons_begin ch velocity (k ∷ ks) = (refl, ons_begin ch velocity ks)

-- note-offs
offs_end : (ch : ℕ) (ks : List ℕ) → AllEnd true (map (Off ch) ks)
offs_end ch [] = tt
offs_end ch (k ∷ ks) = (refl, offs_end ch ks)

-- ---- notes and points

-- a note ends no later than its duration
ends_within : (position ticks gate : ℕ) → gate ≤ 100 → note_end position ticks gate ≤ position + ticks
ends_within position ticks gate is =
    omega (arith, div-mul-le_self (ticks * gate) 100, mul-le-mul_right ticks is, mul_comm ticks gate)

-- note-ons, note-offs and the way to the next position
chord_turned : (longest : ℕ) (ons offs : List Msg) (e t : ℕ) (k : Now) → AllEnd false ons → AllEnd true offs → e ≤ k.position + t
    → AreWithin (in_turn longest) k.blocks
    → Turned longest (standing k)
    (made ((sent ons k.position k).marks ++ (sent offs e (sent ons k.position k).after).marks)
    (record (sent offs e (sent ons k.position k).after).after { position = k.position + t }))
chord_turned longest ons offs e t k on_kind off_kind over blocks =
    subst (λ a. Turned longest (standing k)
    (made ((sent ons k.position k).marks ++ (sent offs e a).marks) (record (sent offs e a).after { position = k.position + t })))
    (sym (sent_after ons k.position k))
    (subst (λ a. Turned longest (standing k)
    (made ((sent ons k.position k).marks ++ (sent offs e middle).marks) (record a { position = k.position + t })))
    (sym (sent_after offs e middle))
    (turned_then longest (standing k) (made (sent ons k.position k).marks middle) (made (sent offs e middle).marks last)
    (sent_turned longest false ons k.position k.position k on_kind (λ _. refl) (omega arith) (omega arith) blocks)
    (sent_turned longest true offs e (k.position + t) middle off_kind (λ is. absurd (true≢false is)) (omega arith) over blocks)))
  where
    middle : Now
    middle = record k { index = k.index + length ons; position = k.position }

    last : Now
    last = record middle { index = middle.index + length offs; position = k.position + t }

-- a note
pub note_turned : (longest : ℕ) (draws : List DataSource) (span : LengthSource) (a : Around) (n : Now)
    → AreWithin (in_turn longest) n.blocks → Turned longest (standing n) (note_plays draws span a n)
note_turned longest draws span a n blocks =
    subst (λ s. Turned longest s (note_plays draws span a n)) (standing_same n begun through)
    (chord_turned longest (map (λ key. On a.channel key velocity.value) keys.value) (map (Off a.channel) keys.value)
    (note_end begun.position ticks.value gate.value) ticks.value begun
    (ons_begin a.channel velocity.value keys.value) (offs_end a.channel keys.value)
    (ends_within begun.position ticks.value gate.value gate_in) (through.blocks (in_turn longest) blocks))
  where
    keys : Drawing (List ℕ)
    keys = keys_drawn draws n

    ticks : Drawing ℕ
    ticks = span_drawn span keys.after

    gate : Drawing ℕ
    gate = taken articulation usual_gate ticks.after

    velocity : Drawing ℕ
    velocity = taken loudness usual_velocity gate.after

    begun : Now
    begun = velocity.after

    to_gate : Stays n ticks.after
    to_gate = stays_then n keys.after ticks.after (keys_stay draws n) (span_stays span keys.after)

    to_velocity : Stays n gate.after
    to_velocity = stays_then n ticks.after gate.after to_gate (taken_stays articulation usual_gate ticks.after)

    through : Stays n begun
    through = stays_then n gate.after begun to_velocity (taken_stays loudness usual_velocity gate.after)

    gate_in : gate.value ≤ 100
    gate_in =
        next_within (in_turn longest) articulation usual_gate ticks.after.blocks (omega arith)
        (to_gate.blocks (in_turn longest) blocks)

-- a rest
pub rest_turned : (longest : ℕ) (span : LengthSource) (n : Now) → AreWithin (in_turn longest) n.blocks
    → Turned longest (standing n)
    (made [] (record (span_drawn span n).after { position = (span_drawn span n).after.position + (span_drawn span n).value }))
rest_turned longest span n blocks =
    let d = span_drawn span n in
    let s = span_stays span n in
    idle longest (standing n) (record d.after { position = d.after.position + d.value }) (omega (arith, s.position))
    (sym s.process) (sym s.births) (s.blocks (in_turn longest) blocks)

-- a point is no note-off
point_begins : (point : PointKind) (ch : ℕ) (v : ℤ) → is_note_off (point_message point ch v) ≡ false
point_begins (control c) ch v = refl
point_begins program ch v = refl
point_begins bend ch v = refl

-- a point
pub point_turned : (longest : ℕ) (point : PointKind) (draw : DataSource) (a : Around) (n : Now) → AreWithin (in_turn longest) n.blocks
    → Turned longest (standing n) (point_plays point draw a n)
point_turned longest point draw a n blocks =
    let v = amount_drawn draw n in
    let s = amount_stays draw n in
    subst (λ t. Turned longest t (point_plays point draw a n)) (standing_same n v.after s)
    (sent_turned longest false (point_message point a.channel v.value ∷ []) v.after.position v.after.position v.after
    (point_begins point a.channel v.value, tt) (λ _. refl) (omega arith) (omega arith) (s.blocks (in_turn longest) blocks))

-- ---- blocks and deformations

-- a block round what is played
pub in_block_turned : (longest : ℕ) (block : OpenBlock) (inside : Now → Made) (n : Now)
    → Turned longest (standing n) (inside (record n { blocks = block ∷ n.blocks })) → Turned longest (standing n) (in_block block inside n)
in_block_turned longest block inside n g = record {
  rises = g.rises;
  inside = g.inside;
  order = g.order;
  grows = g.grows;
  numbers = g.numbers;
  stands = g.stands;
  blocks = closed_open (in_turn longest) (inside (record n { blocks = block ∷ n.blocks })).after.blocks g.blocks;
}

-- the maps of a deformation that begins at an origin
placed_two : (o : ℕ) (parts : List Part) → TwoMaps (placed Onset o parts) (placed_end o parts)
placed_two o parts = record {
  onsets = λ x y le. omega (arith, sum_from-mono Onset parts 0 x y le);
  endings = λ x y le. omega (arith, sum_from-mono Ending parts 0 (min x MAX_TICK) (min y MAX_TICK) (omega (arith, le)));
  below = λ x.
      omega (arith, sum_from-ending parts 0 (min x MAX_TICK), sum_from-mono Onset parts 0 (min x MAX_TICK) x (omega arith));
}

-- a deformation
pub warp_turned : (longest : ℕ) (parts : List Part) (n : Now) (m : Made) → Turned longest (standing (record n { position = 0 })) m
    → Turned longest (standing n) (made (map (mapped (placed Onset n.position parts) (placed_end n.position parts)) m.marks)
    (record m.after { position = n.position + at parts m.after.position }))
warp_turned longest parts n m g = record {
  rises = omega arith;
  inside = each_mapped (Inside 0 m.after.position) (Inside n.position (n.position + at parts m.after.position)) (mapped f h)
      (λ x is. inside_wider (f 0) (f m.after.position) n.position (n.position + at parts m.after.position) (omega arith) (omega arith)
      (mapped f h x) (inside_mapped f h 0 m.after.position (placed_two n.position parts) x is)) m.marks g.inside;
  order = order_mapped f h m.marks (placed_two n.position parts) g.order;
  grows = g.grows;
  numbers = each_mapped Own Own (mapped f h) (λ x is. is) m.marks g.numbers;
  stands = g.stands;
  blocks = g.blocks;
}
  where
    f : ℕ → ℕ
    f = placed Onset n.position parts

    h : ℕ → ℕ
    h = placed_end n.position parts

    Own : Mark → Type 0
    Own x = IsOwn (length n.births) (length m.after.births) n.process x.process
