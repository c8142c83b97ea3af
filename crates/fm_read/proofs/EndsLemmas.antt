-- Each reader takes some bytes from the front.
use Rattle.std.proofs.Common.{◌≡◌, ℕ, ◌+◌, ◌-◌, ◌*◌, ◌%◌, ◌<◌, Bool, true, false, ◌||◌, cond, ltb, nat_eq, List, [], ◌∷◌, ◌++◌, length, take, drop, Option, Some, None, Ok, Err, refl, sym, ◌∙◌, ap, subst, arith, append_assoc, length-append}
use Rattle.std.proofs.lemmas.List.{take_at, drop_at, take-append-drop}
use Rattle.fm_read.specs.declared.fault.Stop.{Stop}
use Rattle.fm_read.specs.Reading.{Read, cut, ◌>>=◌, Pair, front, quantity_from, read_quantity, past_data, past_message, past_text, past_meta, has_one, read_channel, read_event, read_entry}

-- some bytes were taken from the front, and this is what follows them
pub record Ends (bytes rest : List ℕ) : Type 0 where
  pub taken : List ℕ
  pub some : 0 < length taken
  pub parts : bytes ≡ taken ++ rest

-- the value of a step that did not fail
pub bind_ok : {A B : Type 0} (r : Read A) (f : A → Read B) (y : B) → (r >>= f) ≡ Ok y → (x : A) × (r ≡ Ok x) × (f x ≡ Ok y)
bind_ok (Ok x) f y e = (x, refl, e)
bind_ok (Err d) f y e = absurd cc

-- whichever way a test went
pub either_way : {A P : Type 0} (b : Bool) (x y : Read A) (z : A) → cond b x y ≡ Ok z → (x ≡ Ok z → P) → (y ≡ Ok z → P) → P
either_way true x y z e f g = f e
either_way false x y z e f g = g e

abbrev done : {A : Type 0} → A → Read A
done x = Ok x

pub ok_is : {A : Type 0} (x y : A) → done x ≡ done y → x ≡ y
ok_is x y e = cc

abbrev pub failed : {A : Type 0} → Stop → Read A
failed s = Err s

pub failed_is : {A : Type 0} (s t : Stop) → failed {A = A} s ≡ failed {A = A} t → s ≡ t
failed_is s t e = cc

pub ends_byte : (byte : ℕ) (rest : List ℕ) → Ends (byte ∷ rest) rest
ends_byte byte rest = record { taken = byte ∷ []; some = omega arith; parts = refl }

pub ends_then : (a b c : List ℕ) → Ends a b → Ends b c → Ends a c
ends_then a b c p q = record {
  taken = p.taken ++ q.taken;
  some = omega (arith, p.some, length-append p.taken q.taken);
  parts = p.parts ∙ ap (λ (z : List ℕ). p.taken ++ z) q.parts ∙ sym (append_assoc p.taken q.taken c);
}

pub ends_drop : (n : ℕ) (a b : List ℕ) → Ends a b → Ends a (drop n b)
ends_drop n a b p = record {
  taken = p.taken ++ take n b;
  some = omega (arith, p.some, length-append p.taken (take n b));
  parts = p.parts ∙ ap (λ (z : List ℕ). p.taken ++ z) (sym (take-append-drop n b)) ∙ sym (append_assoc p.taken (take n b) (drop n b));
}

pub ends_shorter : (a b : List ℕ) → Ends a b → length b < length a
ends_shorter a b p = omega (arith, p.some, ap length p.parts, length-append p.taken b)

-- the front is what was taken
pub ends_front : (a b : List ℕ) → Ends a b → front a b ++ b ≡ a
ends_front a b p =
    let count : length a - length b ≡ length p.taken = omega (arith, ap length p.parts, length-append p.taken b) in
    rw (count, p.parts, take_at p.taken b (length p.taken) refl) refl

-- and what follows is the rest
pub ends_rest : (a b : List ℕ) → Ends a b → drop (length a - length b) a ≡ b
ends_rest a b p =
    let count : length a - length b ≡ length p.taken = omega (arith, ap length p.parts, length-append p.taken b) in
    rw (count, p.parts, drop_at p.taken b (length p.taken) refl) refl

-- ---- readers

pub quantity_ends : (more before : ℕ) (bytes : List ℕ) (x : ℕ × List ℕ) → quantity_from more before bytes ≡ Ok x → Ends bytes x.1
unfolding quantity_from
quantity_ends more before [] x e = absurd cc
quantity_ends more before (byte ∷ rest) x e =
    either_way (ltb byte 128) _ _ x e
    (λ is. subst (λ (z : ℕ × List ℕ). Ends (byte ∷ rest) z.1) (ok_is _ _ is) (ends_byte byte rest))
    (λ is. either_way (nat_eq more 0) _ _ x is
    (λ no. absurd cc)
    (λ go. ends_then _ _ _ (ends_byte byte rest) (quantity_ends (more - 1) (before * 128 + byte % 128) rest x go)))

pub quantity_at_ends : (bytes : List ℕ) (x : ℕ × List ℕ) → read_quantity bytes ≡ Ok x → Ends bytes x.1
unfolding read_quantity
quantity_at_ends bytes x e = quantity_ends 3 0 bytes x e

pub data_ends : (bytes rest : List ℕ) → past_data bytes ≡ Ok rest → Ends bytes rest
unfolding past_data
data_ends [] x e = absurd cc
data_ends (byte ∷ rest) x e =
    either_way (ltb byte 128) _ _ x e
    (λ is. subst (λ (z : List ℕ). Ends (byte ∷ rest) z) (ok_is _ _ is) (ends_byte byte rest))
    (λ no. absurd cc)

pub message_ends : (status : ℕ) (bytes rest : List ℕ) → past_message status bytes ≡ Ok rest → Ends bytes rest
unfolding past_message
message_ends status bytes x e =
    let b = bind_ok (past_data bytes) (λ rest. cond (has_one status) (Ok rest) (past_data rest)) x e in
    let first = data_ends bytes b.0 b.1 in
    either_way (has_one status) _ _ x b.2
    (λ is. subst (λ (z : List ℕ). Ends bytes z) (ok_is _ _ is) first)
    (λ go. ends_then _ _ _ first (data_ends b.0 x go))

pub text_ends : (bytes rest : List ℕ) → past_text bytes ≡ Ok rest → Ends bytes rest
unfolding past_text
text_ends bytes x e =
    let b = bind_ok (read_quantity bytes) (λ n. cond (ltb (length n.1) n.0) cut (Ok (drop n.0 n.1))) x e in
    let first = quantity_at_ends bytes b.0 b.1 in
    either_way (ltb (length b.0.1) b.0.0) _ _ x b.2
    (λ no. absurd cc)
    (λ is. subst (λ (z : List ℕ). Ends bytes z) (ok_is _ _ is) (ends_drop b.0.0 _ _ first))

pub meta_ends : (bytes rest : List ℕ) → past_meta bytes ≡ Ok rest → Ends bytes rest
unfolding past_meta
meta_ends bytes x e =
    let b = bind_ok (past_data bytes) (λ rest. past_text rest) x e in
    ends_then _ _ _ (data_ends bytes b.0 b.1) (text_ends b.0 x b.2)

with_status : (status : ℕ) (bytes : List ℕ) (r : Read (List ℕ)) (x : ℕ × List ℕ) → (r >>= λ rest. Ok (status, rest)) ≡ Ok x →
    ((rest : List ℕ) → r ≡ Ok rest → Ends bytes rest) → Ends bytes x.1
with_status status bytes r x e ends =
    let b = bind_ok r (λ rest. Ok (status, rest)) x e in
    subst (λ (z : ℕ × List ℕ). Ends bytes z.1) (ok_is _ _ b.2) (ends b.0 b.1)

pub channel_ends : (running : Option ℕ) (bytes : List ℕ) (x : ℕ × List ℕ) → read_channel running bytes ≡ Ok x → Ends bytes x.1
unfolding read_channel
channel_ends None bytes x e = absurd cc
channel_ends (Some status) bytes x e = with_status status bytes (past_message status bytes) x e (message_ends status bytes)

pub event_ends : (running : Option ℕ) (bytes : List ℕ) (x : ℕ × List ℕ) → read_event running bytes ≡ Ok x → Ends bytes x.1
unfolding read_event
event_ends running [] x e = absurd cc
event_ends running (byte ∷ rest) x e =
    let first = ends_byte byte rest in
    either_way (ltb byte 128) _ _ x e
    (λ is. channel_ends running (byte ∷ rest) x is)
    (λ a. either_way (ltb byte 240) _ _ x a
    (λ is. ends_then _ _ _ first (channel_ends (Some byte) rest x is))
    (λ b. either_way (nat_eq byte 255) _ _ x b
    (λ is. ends_then _ _ _ first (with_status byte rest (past_meta rest) x is (meta_ends rest)))
    (λ d. either_way (nat_eq byte 240 || nat_eq byte 247) _ _ x d
    (λ is. ends_then _ _ _ first (with_status byte rest (past_text rest) x is (text_ends rest)))
    (λ no. absurd cc))))

-- what an entry takes is its delta's bytes and its event's
pub record EntryEnds (bytes : List ℕ) (e : Pair) (rest : List ℕ) : Type 0 where
  pub ends : Ends bytes rest
  pub joined_entries : (e.lead ++ e.bytes) ++ rest ≡ bytes

pub entry_ends : (running : Option ℕ) (bytes : List ℕ) (x : Pair × List ℕ) → read_entry running bytes ≡ Ok x → EntryEnds bytes x.0 x.1
unfolding read_entry
entry_ends running bytes x e =
    let a = bind_ok (read_quantity bytes) _ x e in
    let lead = quantity_at_ends bytes a.0 a.1 in
    let b = bind_ok (read_event running a.0.1) _ x a.2 in
    let event = event_ends running a.0.1 b.0 b.1 in
    subst (λ (z : Pair × List ℕ). EntryEnds bytes z.0 z.1) (ok_is _ _ b.2) (record {
      ends = ends_then _ _ _ lead event;
      joined_entries = append_assoc (front bytes a.0.1) (front a.0.1 b.0.1) b.0.1
          ∙ ap (λ (z : List ℕ). front bytes a.0.1 ++ z) (ends_front a.0.1 b.0.1 event) ∙ ends_front bytes a.0.1 lead;
    })
