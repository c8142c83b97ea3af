-- A record whose fields can stand is made of its parts.
use Rattle.std.proofs.Common.{◌≡◌, ℕ, zero, suc, ◌+◌, ◌-◌, ◌*◌, ◌/◌, ◌%◌, ◌<◌, ◌≤◌, List, [], ◌∷◌, ◌++◌, take, drop, length, Bool, true, false, Option, Some, None, refl, sym, ◌∙◌, ap, subst, arith, length-append, length-drop, length-take}
use Rattle.std.specs.Prelude.{if◌then◌else◌, not, nat_eq}
use Rattle.std.proofs.lemmas.Bool.{eqb-true, eqb-false, le-ltb, ltb-false}
use Rattle.std.proofs.lemmas.List.{append_cancel_left, drop-drop, take-append-drop, take_all}
use Rattle.std.proofs.Math.Dec.{eqb-suc-zero}
use Rattle.std.proofs.Math.Seq.{take-append_seam}
use Rattle.fm_core.proofs.Booleans.{both, either_false, false_from, if_false, neither, not_false}
use Rattle.fm_buffer.specs.declared.outbox.TheConstants.{MAX_ROOM}
use Rattle.fm_core.specs.declared.limits.TheConstants.{MAX_LEAD, MAX_SEATS}
use Rattle.fm_lex.specs.declared.lexer.TheConstants.{MAX_TEXT}
use Rattle.fm_record.specs.Head.{AreParts, IsHead, bad_field, has_magic, head_bytes}
use Rattle.fm_record.specs.declared.limits.TheConstants.{MAX_RECORD}
use Rattle.fm_record.specs.Reading.{byte_at, four_at}
use Rattle.fm_record.specs.StepBytes.{four}
use Rattle.fm_record.proofs.ReadingLemmas.{four_back, four_pair, take_firsts}

not_then : (b : Bool) (k : ℕ) (x : Option ℕ) → (if b then Some k else x) ≡ None → (b ≡ false) × (x ≡ None)
not_then true k x e = absurd cc
not_then false k x e = (refl, e)

-- what holds of the fields of a record of which each can stand
pub record CanStand (bs : List ℕ) : Type 0 where
  pub magic : has_magic bs ≡ true
  pub some_seats : 1 ≤ byte_at bs 4
  pub few_seats : byte_at bs 4 ≤ MAX_SEATS
  pub some_room : 1 ≤ byte_at bs 5
  pub small_room : byte_at bs 5 ≤ MAX_ROOM
  pub short_lead : four_at bs 6 ≤ MAX_LEAD
  pub short_text : four_at bs 10 ≤ MAX_TEXT
  pub whole : 14 + four_at bs 10 ≤ length bs

positive : (n : ℕ) → nat_eq n 0 ≡ false → 1 ≤ n
positive zero e = absurd (eqb-false 0 0 e refl)
positive (suc n) e = omega arith

pub can_stand : (bs : List ℕ) → bad_field bs ≡ None → CanStand bs
can_stand bs none =
    let a = not_then (not (has_magic bs)) 0 _ none in
    let b = not_then _ 4 _ a.1 in
    let c = not_then _ 5 _ b.1 in
    let d = not_then _ 6 _ c.1 in
    let e = not_then _ 10 _ d.1 in
    let seats = either_false _ _ b.0 in
    let room = either_false _ _ c.0 in
    let lead = either_false _ _ d.0 in
    let size = either_false _ _ e.0 in
    let text = either_false _ _ size.1 in
    record {
      magic = not_false (has_magic bs) a.0;
      some_seats = positive _ seats.0;
      few_seats = ltb-false _ _ seats.1;
      some_room = positive _ room.0;
      small_room = ltb-false _ _ room.1;
      short_lead = ltb-false _ _ lead.1;
      short_text = ltb-false _ _ text.0;
      whole = ltb-false _ _ text.1;
    }

-- the text of a record
abbrev pub text_of : List ℕ → List ℕ
text_of bs = take (four_at bs 10) (drop 14 bs)

pub length-text : (bs : List ℕ) → CanStand bs → length (text_of bs) ≡ four_at bs 10
length-text bs can = let whole = can.whole in omega (arith, length-take (four_at bs 10) (drop 14 bs), length-drop 14 bs)

pub stands_head : (bs : List ℕ) → CanStand bs → IsHead (byte_at bs 4) (byte_at bs 5) (four_at bs 6) (text_of bs)
stands_head bs can = record {
  some_seats = can.some_seats;
  few_seats = can.few_seats;
  some_room = can.some_room;
  small_room = can.small_room;
  short_lead = can.short_lead;
  short_text = let short = can.short_text in omega (arith, length-text bs can, short);
}

head_list : (a b c d m1 m2 m3 m4 s r : ℕ) (lead size lead' size' : List ℕ) → a ≡ m1 → b ≡ m2 → c ≡ m3 → d ≡ m4
    → lead ≡ lead' → size ≡ size'
    → a ∷ b ∷ c ∷ d ∷ s ∷ r ∷ lead ++ size ≡ m1 ∷ m2 ∷ m3 ∷ m4 ∷ s ∷ r ∷ lead' ++ size'
head_list a b c d m1 m2 m3 m4 s r lead size lead' size' ea eb ec ed el es = rw (ea, eb, ec, ed, el, es) refl

-- a record of which each field can stand is made of its parts
pub stands_parts : (bs : List ℕ) → ((i : ℕ) → byte_at bs i < 256) → CanStand bs
    → bs ≡ head_bytes (byte_at bs 4) (byte_at bs 5) (four_at bs 6) (text_of bs) ++ drop (14 + four_at bs 10) bs
stands_parts bs bytes can =
    let whole = can.whole in
    let m1 = both _ _ can.magic in
    let m2 = both _ _ m1.1 in
    let m3 = both _ _ m2.1 in
    let n = four_at bs 10 in
    let front : take 14 bs ≡ 70 ∷ 77 ∷ 82 ∷ 49 ∷ byte_at bs 4 ∷ byte_at bs 5 ∷ four (four_at bs 6) ++ four n =
    take_firsts 14 bs (omega arith)
    ∙ head_list (byte_at bs 0) (byte_at bs 1) (byte_at bs 2) (byte_at bs 3) 70 77 82 49 (byte_at bs 4) (byte_at bs 5)
    (byte_at bs 6 ∷ byte_at bs 7 ∷ byte_at bs 8 ∷ byte_at bs 9 ∷ [])
    (byte_at bs 10 ∷ byte_at bs 11 ∷ byte_at bs 12 ∷ byte_at bs 13 ∷ [])
    (four (four_at bs 6)) (four n) (eqb-true _ _ m1.0) (eqb-true _ _ m2.0) (eqb-true _ _ m3.0) (eqb-true _ _ m3.1)
    (sym (four_pair (byte_at bs 6) (byte_at bs 7) (byte_at bs 8) (byte_at bs 9) (bytes 7) (bytes 8) (bytes 9)))
    (sym (four_pair (byte_at bs 10) (byte_at bs 11) (byte_at bs 12) (byte_at bs 13) (bytes 11) (bytes 12) (bytes 13))) in
    let rest : drop 14 bs ≡ text_of bs ++ drop (14 + n) bs =
    sym (take-append-drop n (drop 14 bs)) ∙ ap (λ (xs : List ℕ). text_of bs ++ xs) (drop-drop n 14 bs) in
    sym (take-append-drop 14 bs)
    ∙ ap (λ (xs : List ℕ). xs ++ drop 14 bs) front
    ∙ ap (λ (xs : List ℕ). 70 ∷ 77 ∷ 82 ∷ 49 ∷ byte_at bs 4 ∷ byte_at bs 5 ∷ four (four_at bs 6) ++ four n ++ xs) rest
    ∙ ap (λ (k : ℕ). 70 ∷ 77 ∷ 82 ∷ 49 ∷ byte_at bs 4 ∷ byte_at bs 5 ∷ four (four_at bs 6) ++ four k
    ++ (text_of bs ++ drop (14 + n) bs)) (sym (length-text bs can))

minus_head : (n : ℕ) → 14 + n - 14 ≡ n
minus_head n = omega arith

module _ (bs : List ℕ) (s r l n : ℕ) (es : s ≡ byte_at bs 4) (er : r ≡ byte_at bs 5) (el : l ≡ four_at bs 6) (en : n ≡ four_at bs 10)
    (none : bad_field bs ≡ None) where
  -- the parts that are read are within their limits
  pub header_limits : length bs ≤ MAX_RECORD
      → AreParts s r l (take (14 + n - 14) (drop 14 bs)) (take (length bs - (14 + n)) (drop (14 + n) bs))
  header_limits few = record {
    head = rw (es, er, el, minus_head n, en) (stands_head bs (can_stand bs none));
    short = omega (arith, few, length-take (length bs - (14 + n)) (drop (14 + n) bs));
  }

  -- and they are all that the record is made of
  pub header_parts : ((i : ℕ) → byte_at bs i < 256)
      → bs ≡ head_bytes s r l (take (14 + n - 14) (drop 14 bs)) ++ take (length bs - (14 + n)) (drop (14 + n) bs)
  header_parts bytes =
      let rest : take (length bs - (14 + n)) (drop (14 + n) bs) ≡ drop (14 + n) bs =
      take_all (length bs - (14 + n)) (drop (14 + n) bs) (omega (arith, length-drop (14 + n) bs)) in
      rw (rest, minus_head n, es, er, el, en) (stands_parts bs bytes (can_stand bs none))

-- ---- what was written can stand

not_zero : (n : ℕ) → 1 ≤ n → nat_eq n 0 ≡ false
not_zero zero some = absurd (omega arith)
not_zero (suc n) some = eqb-suc-zero n

-- where each field can stand, none is bad
pub stands_none : (bs : List ℕ) → CanStand bs → bad_field bs ≡ None
stands_none bs can =
    let whole = can.whole in
    if_false (not (has_magic bs)) (Some 0) _ (false_from (has_magic bs) can.magic)
    ∙ if_false _ (Some 4) _ (neither _ _ (not_zero _ can.some_seats) (le-ltb MAX_SEATS (byte_at bs 4) can.few_seats))
    ∙ if_false _ (Some 5) _ (neither _ _ (not_zero _ can.some_room) (le-ltb MAX_ROOM (byte_at bs 5) can.small_room))
    ∙ if_false _ (Some 6) _
    (neither _ _ (le-ltb (length bs) 10 (omega (arith, whole))) (le-ltb MAX_LEAD (four_at bs 6) can.short_lead))
    ∙ if_false _ (Some 10) None
    (neither _ _ (le-ltb (length bs) 14 (omega (arith, whole)))
    (neither _ _ (le-ltb MAX_TEXT (four_at bs 10) can.short_text) (le-ltb (length bs) (14 + four_at bs 10) whole)))

-- the fields of a record that was written
pub head_stands : (s r l : ℕ) (t steps : List ℕ) → IsHead s r l t → CanStand (head_bytes s r l t ++ steps)
head_stands s r l t steps is =
    let short_lead = is.short_lead in
    let short_text = is.short_text in
    let lead = four_back l (omega (arith, short_lead)) in
    let size = four_back (length t) (omega (arith, short_text)) in
    record {
      magic = refl;
      some_seats = is.some_seats;
      few_seats = is.few_seats;
      some_room = is.some_room;
      small_room = is.small_room;
      short_lead = omega (arith, lead, short_lead);
      short_text = omega (arith, size, short_text);
      whole = omega (arith, size, length-append t steps);
    }

pub head_back : (s r l : ℕ) (t steps : List ℕ) → IsHead s r l t → bad_field (head_bytes s r l t ++ steps) ≡ None
head_back s r l t steps is = stands_none (head_bytes s r l t ++ steps) (head_stands s r l t steps is)

-- the parts of a record that was written are read from it
lead_back : (s r l : ℕ) (t steps : List ℕ) → IsHead s r l t → four_at (head_bytes s r l t ++ steps) 6 ≡ l
lead_back s r l t steps is = let short = is.short_lead in four_back l (omega (arith, short))

text_back : (s r l : ℕ) (t steps : List ℕ) → IsHead s r l t → text_of (head_bytes s r l t ++ steps) ≡ t
text_back s r l t steps is =
    let short = is.short_text in
    ap (λ (n : ℕ). take n (t ++ steps)) (four_back (length t) (omega (arith, short)))
    ∙ take-append_seam t steps

-- a record's parts are the only ones of its bytes
pub one_head : (s r l a b c : ℕ) (t u xs ys : List ℕ) → IsHead s r l t → IsHead a b c u
    → head_bytes s r l t ++ xs ≡ head_bytes a b c u ++ ys → (s ≡ a) × (r ≡ b) × (l ≡ c) × (t ≡ u) × (xs ≡ ys)
one_head s r l a b c t u xs ys is other same =
    let seats : s ≡ a = ap (λ (bs : List ℕ). byte_at bs 4) same in
    let room : r ≡ b = ap (λ (bs : List ℕ). byte_at bs 5) same in
    let lead : l ≡ c = sym (lead_back s r l t xs is) ∙ ap (λ (bs : List ℕ). four_at bs 6) same ∙ lead_back a b c u ys other in
    let text : t ≡ u = sym (text_back s r l t xs is) ∙ ap text_of same ∙ text_back a b c u ys other in
    let rest : t ++ xs ≡ u ++ ys = ap (λ (bs : List ℕ). drop 14 bs) same in
    (seats, room, lead, text, append_cancel_left u xs ys (subst (λ (v : List ℕ). v ++ xs ≡ u ++ ys) text rest))
