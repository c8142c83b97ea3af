-- What is read has the form.
use Rattle.std.proofs.Common.{◌≡◌, ◌⊎◌, inl, inr, ℕ, zero, suc, ◌+◌, ◌-◌, ◌*◌, ◌%◌, ◌<◌, ◌≤◌, Bool, true, false, ◌||◌, cond, ltb, nat_eq, List, [], ◌∷◌, ◌++◌, length, take, drop, Option, Some, None, Ok, refl, sym, ◌∙◌, ap, subst, arith, length-append, append_assoc}
use Rattle.std.proofs.lemmas.List.{take_at, take-append-drop, length-take}
use Rattle.std.proofs.lemmas.Bool.Decides.{nat_tests}
use Rattle.fm_smf.specs.VariableLength.{spelt_after}
use Rattle.fm_read.specs.Reading.{Read, cut, ◌>>=◌, Pair, front, quantity_from, read_quantity, past_data, past_message, past_text, past_meta, has_one, read_channel, read_event, read_entry, in_force}
use Rattle.fm_read.specs.Tracks.{ends_track, then_entries, entries_from, entries}
use Rattle.fm_read.specs.Form.{EndsLast, Spells, IsMessage, IsText, IsEvent, IsEntry, IsTrack}
use Rattle.fm_read.specs.Form.IsEvent.{own, again, sysex, meta}
use Rattle.fm_read.proofs.EndsLemmas.{bind_ok, ok_is}

-- bytes with a property were taken from the front
pub record Took (P : List ℕ → Type 0) (bytes rest : List ℕ) : Type 0 where
  pub taken : List ℕ
  pub parts : bytes ≡ taken ++ rest
  pub is : P taken

pub took_is : {P : List ℕ → Type 0} (bytes a b : List ℕ) → a ≡ b → Took P bytes a → Took P bytes b
took_is {P = P} bytes a b same t = subst (λ z. Took P bytes z) same t

-- whichever way a test went, with how it went
pub tested : {A P : Type 0} (b : Bool) (x y : Read A) (z : A) → cond b x y ≡ Ok z → (b ≡ true → x ≡ Ok z → P) →
    (b ≡ false → y ≡ Ok z → P) → P
tested true x y z e f g = f refl e
tested false x y z e f g = g refl e

-- the front of what was taken
pub took_front : {P : List ℕ → Type 0} (bytes rest : List ℕ) (t : Took P bytes rest) → front bytes rest ≡ t.taken
took_front bytes rest t =
    let count : length bytes - length rest ≡ length t.taken = omega (arith, ap length t.parts, length-append t.taken rest) in
    rw (count, t.parts) (take_at t.taken rest (length t.taken) refl)

-- ---- quantities

-- a quantity of at most so many bytes behind a value
abbrev SpellsFrom : ℕ → ℕ → ℕ → List ℕ → Type 0
SpellsFrom more before value bytes = EndsLast bytes × (length bytes ≤ more + 1) × (spelt_after before bytes ≡ value)

longer : (byte : ℕ) (bytes : List ℕ) → 128 ≤ byte → EndsLast bytes → EndsLast (byte ∷ bytes)
longer byte [] large form = absurd form
longer byte (next ∷ bytes) large form = (large, form)

quantity_took_from : (more before : ℕ) (bytes : List ℕ) (x : ℕ × List ℕ) → quantity_from more before bytes ≡ Ok x →
    Took (SpellsFrom more before x.0) bytes x.1
unfolding quantity_from
quantity_took_from more before [] x e = absurd cc
quantity_took_from more before (byte ∷ rest) x e =
    tested (ltb byte 128) _ _ x e
    (λ is same.
    let small : byte < 128 = grind (arith, nat_tests) in
    let one : Took (SpellsFrom more before (before * 128 + byte % 128)) (byte ∷ rest) rest =
    record { taken = byte ∷ []; parts = refl; is = (small, omega arith, refl) } in
    subst (λ (z : ℕ × List ℕ). Took (SpellsFrom more before z.0) (byte ∷ rest) z.1) (ok_is _ x same) one)
    (λ is same. tested (nat_eq more 0) _ _ x same
    (λ none wrong. absurd cc)
    (λ none goes.
    let large : 128 ≤ byte = grind (arith, nat_tests) in
    let some : 0 < more = grind (arith, nat_tests) in
    let later = quantity_took_from (more - 1) (before * 128 + byte % 128) rest x goes in
    record {
      taken = byte ∷ later.taken;
      parts = ap (λ (z : List ℕ). byte ∷ z) later.parts;
      is = (longer byte later.taken large later.is.0, omega (arith, later.is.1), later.is.2);
    }))

pub quantity_took : (bytes : List ℕ) (x : ℕ × List ℕ) → read_quantity bytes ≡ Ok x → Took (λ t. Spells t x.0) bytes x.1
unfolding read_quantity
quantity_took bytes x e =
    let t = quantity_took_from 3 0 bytes x e in
    record { taken = t.taken; parts = t.parts; is = record { form = t.is.0; few = omega (arith, t.is.1); is = t.is.2 } }

-- ---- events

-- a data byte was taken
pub record Datum (bytes rest : List ℕ) : Type 0 where
  pub byte : ℕ
  pub parts : bytes ≡ byte ∷ rest
  pub below : byte < 128

pub data_took : (bytes rest : List ℕ) → past_data bytes ≡ Ok rest → Datum bytes rest
unfolding past_data
data_took [] x e = absurd cc
data_took (byte ∷ rest) x e =
    tested (ltb byte 128) _ _ x e
    (λ is same.
    let small : byte < 128 = grind (arith, nat_tests) in
    record { byte = byte; parts = ap (λ (z : List ℕ). byte ∷ z) (ok_is rest x same); below = small })
    (λ is wrong. absurd cc)

pub message_took : (status : ℕ) (bytes rest : List ℕ) → past_message status bytes ≡ Ok rest → Took (IsMessage status) bytes rest
unfolding past_message
message_took status bytes x e =
    let b = bind_ok (past_data bytes) (λ rest. cond (has_one status) (Ok rest) (past_data rest)) x e in
    let first = data_took bytes b.0 b.1 in
    tested (has_one status) _ _ x b.2
    (λ one same. record {
      taken = first.byte ∷ [];
      parts = first.parts ∙ ap (λ (z : List ℕ). first.byte ∷ z) (ok_is b.0 x same);
      is = record { count = rw one refl; below = (first.below, tt) };
    })
    (λ two goes.
    let second = data_took b.0 x goes in
    record {
      taken = first.byte ∷ second.byte ∷ [];
      parts = first.parts ∙ ap (λ (z : List ℕ). first.byte ∷ z) second.parts;
      is = record { count = rw two refl; below = (first.below, (second.below, tt)) };
    })

pub text_took : (bytes rest : List ℕ) → past_text bytes ≡ Ok rest → Took IsText bytes rest
unfolding past_text
text_took bytes x e =
    let b = bind_ok (read_quantity bytes) (λ n. cond (ltb (length n.1) n.0) cut (Ok (drop n.0 n.1))) x e in
    let first = quantity_took bytes b.0 b.1 in
    tested (ltb (length b.0.1) b.0.0) _ _ x b.2
    (λ short wrong. absurd cc)
    (λ short same.
    let long : b.0.0 ≤ length b.0.1 = grind (arith, nat_tests) in
    let count : length (take b.0.0 b.0.1) ≡ b.0.0 = omega (arith, length-take b.0.0 b.0.1) in
    took_is bytes (drop b.0.0 b.0.1) x (ok_is _ x same) (record {
      taken = first.taken ++ take b.0.0 b.0.1;
      parts = first.parts ∙ ap (λ (z : List ℕ). first.taken ++ z) (sym (take-append-drop b.0.0 b.0.1))
          ∙ sym (append_assoc first.taken (take b.0.0 b.0.1) (drop b.0.0 b.0.1));
      is = record { count = first.taken; text = take b.0.0 b.0.1; parts = refl; spells = subst (Spells first.taken) (sym count) first.is };
    }))

-- what is taken behind a byte
took_behind : {P Q : List ℕ → Type 0} (byte : ℕ) (bytes rest : List ℕ) → ((t : List ℕ) → P t → Q (byte ∷ t)) → Took P bytes rest →
    Took Q (byte ∷ bytes) rest
took_behind byte bytes rest f t = record { taken = byte ∷ t.taken; parts = ap (λ (z : List ℕ). byte ∷ z) t.parts; is = f t.taken t.is }

abbrev EventTook : Option ℕ → List ℕ → ℕ × List ℕ → Type 0
EventTook running bytes x = Took (IsEvent running x.0) bytes x.1

-- with a status that is known
with_status : (running : Option ℕ) (status : ℕ) (bytes : List ℕ) (r : Read (List ℕ)) (x : ℕ × List ℕ) →
    (r >>= λ rest. Ok (status, rest)) ≡ Ok x → ((rest : List ℕ) → r ≡ Ok rest → Took (IsEvent running status) bytes rest) →
    EventTook running bytes x
with_status running status bytes r x e f =
    let b = bind_ok r (λ rest. Ok (status, rest)) x e in
    subst (EventTook running bytes) (ok_is _ x b.2) (f b.0 b.1)

again_took : (running : Option ℕ) (bytes : List ℕ) (x : ℕ × List ℕ) → read_channel running bytes ≡ Ok x → EventTook running bytes x
unfolding read_channel
again_took None bytes x e = absurd cc
again_took (Some status) bytes x e =
    with_status (Some status) status bytes (past_message status bytes) x e (λ rest is.
    let t = message_took status bytes rest is in record { taken = t.taken; parts = t.parts; is = again refl t.is })

own_took : (running : Option ℕ) (status : ℕ) (bytes : List ℕ) (x : ℕ × List ℕ) → 128 ≤ status → status < 240 →
    read_channel (Some status) bytes ≡ Ok x → EventTook running (status ∷ bytes) x
unfolding read_channel
own_took running status bytes x low high e =
    with_status running status (status ∷ bytes) (past_message status bytes) x e (λ rest is.
    took_behind status bytes rest (λ t form. own t refl low high form) (message_took status bytes rest is))

sysex_took : (running : Option ℕ) (status : ℕ) (bytes : List ℕ) (x : ℕ × List ℕ) → (status ≡ 240) ⊎ (status ≡ 247) →
    (past_text bytes >>= λ rest. Ok (status, rest)) ≡ Ok x → EventTook running (status ∷ bytes) x
sysex_took running status bytes x kind e =
    with_status running status (status ∷ bytes) (past_text bytes) x e (λ rest is.
    took_behind status bytes rest (λ t form. sysex t refl kind form) (text_took bytes rest is))

meta_took : (running : Option ℕ) (status : ℕ) (bytes : List ℕ) (x : ℕ × List ℕ) → status ≡ 255 →
    (past_meta bytes >>= λ rest. Ok (status, rest)) ≡ Ok x → EventTook running (status ∷ bytes) x
unfolding past_meta
meta_took running status bytes x is e =
    with_status running status (status ∷ bytes) (past_meta bytes) x e (λ rest same.
    let b = bind_ok (past_data bytes) (λ more. past_text more) rest same in
    let kind = data_took bytes b.0 b.1 in
    let t = text_took b.0 rest b.2 in
    record {
      taken = status ∷ kind.byte ∷ t.taken;
      parts = ap (λ (z : List ℕ). status ∷ z) kind.parts ∙ ap (λ (z : List ℕ). status ∷ kind.byte ∷ z) t.parts;
      is = meta kind.byte t.taken (ap (λ (n : ℕ). n ∷ kind.byte ∷ t.taken) is) is kind.below t.is;
    })

pub event_took : (running : Option ℕ) (bytes : List ℕ) (x : ℕ × List ℕ) → read_event running bytes ≡ Ok x → EventTook running bytes x
unfolding read_event
event_took running [] x e = absurd cc
event_took running (byte ∷ rest) x e =
    tested (ltb byte 128) _ _ x e
    (λ is same. again_took running (byte ∷ rest) x same)
    (λ is a. let low : 128 ≤ byte = grind (arith, nat_tests) in
    tested (ltb byte 240) _ _ x a
    (λ below same. let high : byte < 240 = grind (arith, nat_tests) in own_took running byte rest x low high same)
    (λ below b. tested (nat_eq byte 255) _ _ x b
    (λ last same. let is_last : byte ≡ 255 = grind (arith, nat_tests) in meta_took running byte rest x is_last same)
    (λ last d. tested (nat_eq byte 240 || nat_eq byte 247) _ _ x d
    (λ system same. sysex_took running byte rest x (one_of (nat_eq byte 240) (nat_eq byte 247) refl refl system) same)
    (λ system wrong. absurd cc))))
  where
    one_of : (a b : Bool) → nat_eq byte 240 ≡ a → nat_eq byte 247 ≡ b → (a || b) ≡ true → (byte ≡ 240) ⊎ (byte ≡ 247)
    one_of true b first second is = let same : byte ≡ 240 = grind (arith, nat_tests) in inl same
    one_of false true first second is = let same : byte ≡ 247 = grind (arith, nat_tests) in inr same
    one_of false false first second is = absurd cc

-- ---- entries and tracks

-- an entry, and that its bytes and what follows are the bytes
pub entry_took : (running : Option ℕ) (bytes : List ℕ) (x : Pair × List ℕ) → read_entry running bytes ≡ Ok x → IsEntry running x.0
unfolding read_entry
entry_took running bytes x e =
    let a = bind_ok (read_quantity bytes) _ x e in
    let lead = quantity_took bytes a.0 a.1 in
    let b = bind_ok (read_event running a.0.1) _ x a.2 in
    let event = event_took running a.0.1 b.0 b.1 in
    subst (λ (z : Pair × List ℕ). IsEntry running z.0) (ok_is _ x b.2) (record {
      delta = subst (λ z. Spells z a.0.0) (sym (took_front bytes a.0.1 lead)) lead.is;
      event = subst (λ z. IsEvent running b.0.0 z) (sym (took_front a.0.1 b.0.1 event)) event.is;
    })

-- an entry that isn't the last, in front of a track
pub goes_on : (running : Option ℕ) (e : Pair) (es : List Pair) → IsEntry running e → ends_track e.bytes ≡ false →
    IsTrack (in_force e.status) es →
    IsTrack running (e ∷ es)
goes_on running e [] here more later = absurd later
goes_on running e (next ∷ es) here more later = (here, more, later)

track_then : (running : Option ℕ) (e : Pair) (rest : List ℕ) (r : Read (List Pair)) (es : List Pair) → IsEntry running e →
    ((more : List Pair) → r ≡ Ok more → IsTrack (in_force e.status) more) → then_entries e rest r ≡ Ok es → IsTrack running es
track_then running e rest r es here later is =
    tested (ends_track e.bytes) _ _ es is
    (λ ends last. tested (nat_eq (length rest) 0) _ _ es last
    (λ none same. subst (IsTrack running) (ok_is (e ∷ []) es same) (here, ends))
    (λ none wrong. absurd cc))
    (λ ends more.
    let b = bind_ok r (λ more. Ok (e ∷ more)) es more in
    subst (IsTrack running) (ok_is (e ∷ b.0) es b.2) (goes_on running e b.0 here ends (later b.0 b.1)))

track_took_from : (k : ℕ) (running : Option ℕ) (bytes : List ℕ) (es : List Pair) → entries_from k running bytes ≡ Ok es → IsTrack running es
unfolding entries_from
track_took_from k running [] es e = absurd cc
track_took_from (suc k) running (byte ∷ rest) es e = track_took_from k running rest es e
track_took_from zero running (byte ∷ rest) es e =
    let b = bind_ok (read_entry running (byte ∷ rest)) (λ x.
    then_entries x.0 x.1 (entries_from (length rest - length x.1) (in_force x.0.status) rest)) es e in
    track_then running b.0.0 b.0.1 _ es (entry_took running (byte ∷ rest) b.0 b.1)
    (λ more is. track_took_from (length rest - length b.0.1) (in_force b.0.0.status) rest more is) b.2

pub track_took : (running : Option ℕ) (body : List ℕ) (es : List Pair) → entries running body ≡ Ok es → IsTrack running es
track_took running body es e = track_took_from 0 running body es e
