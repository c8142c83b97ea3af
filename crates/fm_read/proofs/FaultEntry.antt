-- Why bytes begin with no entry.
use Rattle.std.proofs.Common.{◌≡◌, ◌≢◌, ◌⊎◌, inl, inr, ℕ, ◌<◌, ◌≤◌, Bool, true, false, ◌||◌, ltb, nat_eq, List, [], ◌∷◌, ◌++◌, length, Option, Some, None, Ok, Err, refl, sym, ◌∙◌, ap, subst, arith, length-append, append_assoc}
use Rattle.std.proofs.lemmas.List.{append-nil}
use Rattle.std.proofs.lemmas.Bool.Decides.{nat_tests}
use Rattle.fm_read.specs.declared.fault.ReadKind.{ReadKind}
use Rattle.fm_read.specs.declared.fault.ReadKind.TheVariants.{BadStatus, NoStatus}
use Rattle.fm_read.specs.declared.fault.Stop.{Stop}
use Rattle.fm_read.specs.Reading.{Read, ◌>>=◌, read_quantity, past_data, past_message, past_text, past_meta, read_channel, read_event, read_entry}
use Rattle.fm_read.specs.Form.{Spells, IsMessage, IsText, IsEvent}
use Rattle.fm_read.specs.Form.IsEvent.{own, again, sysex, meta}
use Rattle.fm_read.specs.FaultForm.{QuantityDue, BadByte, NoEntry, cut_stop}
use Rattle.fm_read.specs.FaultForm.QuantityDue.{at_delta, behind_sysex, behind_type}
use Rattle.fm_read.specs.FaultForm.DataDue.{behind_status, behind_data, behind_meta}
use Rattle.fm_read.specs.FaultForm.BadByte.{fourth, datum, status, no_status}
use Rattle.fm_read.specs.FaultForm.NoEntry.{cut_off, bad}
use Rattle.fm_read.proofs.FormTook.{Datum, quantity_took, data_took}
use Rattle.fm_read.proofs.FaultFails.{Fails, fails_behind, step_fails, stop_is, fell, SpellsSome, Fourth, quantity_fails, NoDatum, data_fails, BadDatum, message_fails, text_fails}
use Rattle.fm_read.proofs.FaultFails.Fails.{short, at_byte}

-- an event of some status
abbrev EventSome : Option ℕ → List ℕ → Type 0
EventSome running bytes = (kind : ℕ) × IsEvent running kind bytes

-- a byte that is bad behind a delta time and these
abbrev BadBehind : Option ℕ → List ℕ → ℕ → ReadKind → Type 0
BadBehind running before byte kind = (lead : List ℕ) (delta : ℕ) → Spells lead delta → BadByte running (lead ++ before) byte kind

-- an event of this kind was read, and this follows it
abbrev seen : ℕ → List ℕ → Read (ℕ × List ℕ)
seen kind after = Ok (kind, after)

-- ---- events

-- a message without its status byte has a first data byte
again_fails : (running : Option ℕ) (first : ℕ) (rest : List ℕ) (s : Stop) → first < 128 → read_channel running (first ∷ rest) ≡ Err s →
    Fails (EventSome running) (BadBehind running) (first ∷ rest) s
unfolding read_channel
again_fails None first rest s small e =
    let is : record { kind = NoStatus; left = length (first ∷ rest) } ≡ s = stop_is {A = ℕ × List ℕ} _ s e in
    at_byte [] rest first refl
    (λ lead delta spells. no_status delta (subst (λ z. Spells z delta) (sym (append-nil lead)) spells) small refl
    (ap (λ z. z.kind) (sym is)))
    (ap (λ z. z.left) (sym is))
again_fails (Some now) first rest s small e =
    step_fails (past_message now (first ∷ rest)) (seen now) s e
    (λ stops. of_message (message_fails now (first ∷ rest) s stops))
    (λ x is wrong. absurd cc)
  where
    of_message : Fails (IsMessage now) (BadDatum now) (first ∷ rest) s →
        Fails (EventSome (Some now)) (BadBehind (Some now)) (first ∷ rest) s
    of_message (short more some form is) = short more some (now, again refl form) is
    of_message (at_byte [] more byte parts bad_is left) =
        let same : first ≡ byte = ap (λ (z : List ℕ). first_of z) parts in absurd (omega (arith, bad_is.large))
      where
        first_of : List ℕ → ℕ
        first_of [] = 0
        first_of (x ∷ xs) = x
    of_message (at_byte (a ∷ before) more byte parts bad_is left) =
        at_byte (a ∷ before) more byte parts
        (λ lead delta spells. datum
        (behind_data lead before delta now a refl spells refl bad_is.given bad_is.few) bad_is.large bad_is.kind_is) left

own_fails : (running : Option ℕ) (now : ℕ) (rest : List ℕ) (s : Stop) → 128 ≤ now → now < 240 → read_channel (Some now) rest ≡ Err s →
    Fails (EventSome running) (BadBehind running) (now ∷ rest) s
unfolding read_channel
own_fails running now rest s low high e =
    step_fails (past_message now rest) (seen now) s e
    (λ stops. fails_behind (now ∷ []) rest s (λ t form. (now, own t refl low high form))
    (λ t byte kind is lead delta spells. datum (behind_status lead t delta now refl spells low high is.given is.few) is.large is.kind_is)
    (message_fails now rest s stops))
    (λ x is wrong. absurd cc)

-- bit 7 in the fourth byte of the length behind a delta time and these
length_bad : (running : Option ℕ) (before : List ℕ) → ((lead : List ℕ) (delta : ℕ) → Spells lead delta → QuantityDue (lead ++ before)) →
    (t : List ℕ) (byte : ℕ) (kind : ReadKind) → Fourth t byte kind → BadBehind running (before ++ t) byte kind
length_bad running before due t byte kind is lead delta spells =
    fourth (lead ++ before) is.a is.b is.d
    (ap (λ z. lead ++ (before ++ z)) is.parts ∙ sym (append_assoc lead before (is.a ∷ is.b ∷ is.d ∷ []))) (due lead delta spells)
    is.first is.second is.third is.large is.kind_is

sysex_fails : (running : Option ℕ) (now : ℕ) (rest : List ℕ) (s : Stop) → (now ≡ 240) ⊎ (now ≡ 247) →
    (past_text rest >>= seen now) ≡ Err s → Fails (EventSome running) (BadBehind running) (now ∷ rest) s
sysex_fails running now rest s kind e =
    step_fails (past_text rest) (seen now) s e
    (λ stops. fails_behind (now ∷ []) rest s (λ t form. (now, sysex t refl kind form))
    (length_bad running (now ∷ []) (λ lead delta spells. behind_sysex lead delta now refl spells kind))
    (text_fails rest s stops))
    (λ x is wrong. absurd cc)

-- the least text
no_text : IsText (0 ∷ [])
no_text = record { count = 0 ∷ []; text = []; parts = refl; spells = record { form = omega arith; few = omega arith; is = refl } }

meta_fails : (running : Option ℕ) (rest : List ℕ) (s : Stop) → (past_meta rest >>= seen 255) ≡ Err s →
    Fails (EventSome running) (BadBehind running) (255 ∷ rest) s
unfolding past_meta
meta_fails running rest s e =
    step_fails (past_data rest >>= λ more. past_text more) (seen 255) s e
    (λ stops. step_fails (past_data rest) (λ more. past_text more) s stops
    (λ kind. of_kind (data_fails rest s kind))
    (λ after is text. of_text after (data_took rest after is) (text_fails after s text)))
    (λ x is wrong. absurd cc)
  where
    of_kind : NoDatum rest s →
        Fails (EventSome running) (BadBehind running) (255 ∷ rest) s
    of_kind (inl x) =
        short (1 ∷ 0 ∷ [])
        (omega arith) (255, meta 1 (0 ∷ []) (ap (λ (z : List ℕ). 255 ∷ (z ++ 1 ∷ 0 ∷ [])) x.0) refl (omega arith) no_text) x.1
    of_kind (inr x) =
        at_byte (255 ∷ []) x.1 x.0 (ap (λ (z : List ℕ). 255 ∷ z) x.2)
        (λ lead delta spells. datum (behind_meta lead delta refl spells) x.3 (ap (λ z. z.kind) x.4)) (ap (λ z. z.left) x.4)

    of_text : (after : List ℕ) → Datum rest after → Fails IsText Fourth after s →
        Fails (EventSome running) (BadBehind running) (255 ∷ rest) s
    of_text after kind fails =
        subst (λ (z : List ℕ). Fails (EventSome running) (BadBehind running) (255 ∷ z) s) (sym kind.parts)
        (fails_behind (255 ∷ kind.byte ∷ []) after s (λ t form. (255, meta kind.byte t refl refl kind.below form))
        (length_bad running (255 ∷ kind.byte ∷ []) (λ lead delta spells. behind_type lead delta kind.byte refl spells kind.below)) fails)

event_fails : (running : Option ℕ) (bytes : List ℕ) (s : Stop) → read_event running bytes ≡ Err s →
    Fails (EventSome running) (BadBehind running) bytes s
unfolding read_event
event_fails running [] s e =
    short (255 ∷ 1 ∷ 0 ∷ []) (omega arith) (255, meta 1 (0 ∷ []) refl refl (omega arith) no_text)
    (sym (stop_is {A = ℕ × List ℕ} cut_stop s e))
event_fails running (byte ∷ rest) s e =
    fell (ltb byte 128) _ _ s e
    (λ is same. let small : byte < 128 = grind (arith, nat_tests) in again_fails running byte rest s small same)
    (λ is a. let low : 128 ≤ byte = grind (arith, nat_tests) in
    fell (ltb byte 240) _ _ s a
    (λ below same. let high : byte < 240 = grind (arith, nat_tests) in own_fails running byte rest s low high same)
    (λ below b. let high : 240 ≤ byte = grind (arith, nat_tests) in
    fell (nat_eq byte 255) _ _ s b
    (λ last same. let is_last : byte ≡ 255 = grind (arith, nat_tests) in
    subst (λ (n : ℕ). Fails (EventSome running) (BadBehind running) (n ∷ rest) s) (sym is_last)
    (meta_fails running rest s (subst (λ (n : ℕ). (past_meta rest >>= seen n) ≡ Err s) is_last same)))
    (λ last d. fell (nat_eq byte 240 || nat_eq byte 247) _ _ s d
    (λ system same. sysex_fails running byte rest s (one_of (nat_eq byte 240) (nat_eq byte 247) refl refl system) same)
    (λ system stops.
    let is : record { kind = BadStatus; left = length (byte ∷ rest) } ≡ s = stop_is {A = ℕ × List ℕ} _ s stops in
    let others = none_of (nat_eq byte 240) (nat_eq byte 247) refl refl system in
    at_byte [] rest byte refl
    (λ lead delta spells. status delta (subst (λ z. Spells z delta) (sym (append-nil lead)) spells) high others.0 others.1
    (not_is 255 last) (ap (λ z. z.kind) (sym is)))
    (ap (λ z. z.left) (sym is))))))
  where
    one_of : (a b : Bool) → nat_eq byte 240 ≡ a → nat_eq byte 247 ≡ b → (a || b) ≡ true → (byte ≡ 240) ⊎ (byte ≡ 247)
    one_of true b first second is = let same : byte ≡ 240 = grind (arith, nat_tests) in inl same
    one_of false true first second is = let same : byte ≡ 247 = grind (arith, nat_tests) in inr same
    one_of false false first second is = absurd cc

    not_is : (n : ℕ) → nat_eq byte n ≡ false → byte ≢ n
    not_is n other = grind (arith, nat_tests)

    none_of : (a b : Bool) → nat_eq byte 240 ≡ a → nat_eq byte 247 ≡ b → (a || b) ≡ false → (byte ≢ 240) × (byte ≢ 247)
    none_of true b first second is = absurd cc
    none_of false true first second is = absurd cc
    none_of false false first second is = (not_is 240 first, not_is 247 second)

-- ---- entries

-- a delta time whose last byte is to come
of_delta : (running : Option ℕ) (bytes : List ℕ) (s : Stop) → Fails SpellsSome Fourth bytes s → NoEntry running bytes s
of_delta running bytes s (short more some form is) =
    cut_off (more ++ 255 ∷ 1 ∷ 0 ∷ []) (record { delta = form.0; status = 255; lead = bytes ++ more; bytes = 255 ∷ 1 ∷ 0 ∷ [] })
    (omega (arith, length-append more (255 ∷ 1 ∷ 0 ∷ [])))
    (record { delta = form.1; event = meta 1 (0 ∷ []) refl refl (omega arith) no_text })
    (sym (append_assoc bytes more (255 ∷ 1 ∷ 0 ∷ []))) is
of_delta running bytes s (at_byte before rest byte parts is left) =
    bad before rest byte parts (fourth [] is.a is.b is.d is.parts (at_delta refl) is.first is.second is.third is.large is.kind_is) left

-- an event behind its delta time
of_event : (running : Option ℕ) (lead bytes : List ℕ) (delta : ℕ) (s : Stop) → Spells lead delta →
    Fails (EventSome running) (BadBehind running) bytes s → NoEntry running (lead ++ bytes) s
of_event running lead bytes delta s spells (short more some form is) =
    cut_off more (record { delta = delta; status = form.0; lead = lead; bytes = bytes ++ more }) some
    (record { delta = spells; event = form.1 }) (append_assoc lead bytes more) is
of_event running lead bytes delta s spells (at_byte before rest byte parts is left) =
    bad (lead ++ before) rest byte (ap (λ (z : List ℕ). lead ++ z) parts ∙ sym (append_assoc lead before (byte ∷ rest)))
    (is lead delta spells) left

pub entry_fails : (running : Option ℕ) (bytes : List ℕ) (s : Stop) → read_entry running bytes ≡ Err s → NoEntry running bytes s
unfolding read_entry
entry_fails running bytes s e =
    step_fails (read_quantity bytes) _ s e
    (λ stops. of_delta running bytes s (quantity_fails bytes s stops))
    (λ x is more.
    let t = quantity_took bytes x is in
    step_fails (read_event running x.1) _ s more
    (λ stops. subst (λ (z : List ℕ). NoEntry running z s) (sym t.parts)
    (of_event running t.taken x.1 x.0 s t.is (event_fails running x.1 s stops)))
    (λ y there wrong. absurd cc))
