-- Where reading fails, one byte is bad, or the bytes could go on.
use Rattle.std.proofs.Common.{◌≡◌, ◌⊎◌, inl, inr, ℕ, suc, ◌+◌, ◌-◌, ◌*◌, ◌%◌, ◌<◌, ◌≤◌, Bool, true, false, cond, ltb, nat_eq, List, [], ◌∷◌, ◌++◌, length, drop, replicate, Ok, Err, refl, sym, ◌∙◌, ap, subst, arith, length-append, append_assoc}
use Rattle.std.proofs.lemmas.List.{length-replicate}
use Rattle.std.proofs.lemmas.Bool.Decides.{nat_tests}
use Rattle.fm_read.specs.declared.fault.ReadKind.{ReadKind}
use Rattle.fm_read.specs.declared.fault.ReadKind.TheVariants.{BadQuantity, BadData}
use Rattle.fm_read.specs.declared.fault.Stop.{Stop}
use Rattle.fm_read.specs.Reading.{Read, cut, ◌>>=◌, quantity_from, read_quantity, past_data, past_message, past_text, has_one}
use Rattle.fm_read.specs.Form.{Spells, AreData, data_count, IsMessage, IsText}
use Rattle.fm_read.specs.FaultForm.{cut_stop}
use Rattle.fm_read.proofs.FormTook.{Datum, quantity_took, data_took}

-- reading failed: with some bytes more they would have the form, or a byte is bad
pub data Fails (Form : List ℕ → Type 0) (Bad : List ℕ → ℕ → ReadKind → Type 0) (bytes : List ℕ) (s : Stop) : Type 0 where
  short : (more : List ℕ) → 0 < length more → Form (bytes ++ more) → s ≡ cut_stop → Fails Form Bad bytes s
  at_byte : (before rest : List ℕ) (byte : ℕ) → bytes ≡ before ++ byte ∷ rest → Bad before byte s.kind → s.left ≡ length (byte ∷ rest) →
      Fails Form Bad bytes s

-- behind other bytes
pub fails_behind : {F G : List ℕ → Type 0} {B C : List ℕ → ℕ → ReadKind → Type 0} (front bytes : List ℕ) (s : Stop) →
    ((t : List ℕ) → F t → G (front ++ t)) → ((t : List ℕ) (byte : ℕ) (kind : ReadKind) → B t byte kind → C (front ++ t) byte kind) →
    Fails F B bytes s → Fails G C (front ++ bytes) s
fails_behind {G = G} front bytes s f g (short more some form is) =
    short more some (subst G (sym (append_assoc front bytes more)) (f (bytes ++ more) form)) is
fails_behind front bytes s f g (at_byte before rest byte parts bad left) =
    at_byte (front ++ before) rest byte
    (ap (λ (z : List ℕ). front ++ z) parts ∙ sym (append_assoc front before (byte ∷ rest))) (g before byte s.kind bad) left

abbrev pub stopped : {A : Type 0} → Stop → Read A
stopped s = Err s

pub stop_is : {A : Type 0} (t s : Stop) → stopped {A = A} t ≡ stopped {A = A} s → t ≡ s
stop_is t s e = cc

-- a fault of a step, or of what goes on behind it
pub step_fails : {A B P : Type 0} (r : Read A) (f : A → Read B) (s : Stop) → (r >>= f) ≡ Err s → (r ≡ Err s → P) →
    ((x : A) → r ≡ Ok x → f x ≡ Err s → P) → P
step_fails (Ok x) f s e stops goes = goes x refl e
step_fails {B = B} (Err t) f s e stops goes = stops (ap stopped (stop_is {A = B} t s e))

-- whichever way a test went, with how it went
pub fell : {A P : Type 0} (b : Bool) (x y : Read A) (s : Stop) → cond b x y ≡ Err s → (b ≡ true → x ≡ Err s → P) →
    (b ≡ false → y ≡ Err s → P) → P
fell true x y s e f g = f refl e
fell false x y s e f g = g refl e

-- ---- quantities

abbrev pub SpellsSome : List ℕ → Type 0
SpellsSome bytes = (value : ℕ) × Spells bytes value

-- bit 7 in a fourth byte
pub record Fourth (before : List ℕ) (byte : ℕ) (kind : ReadKind) : Type 0 where
  pub a : ℕ
  pub b : ℕ
  pub d : ℕ
  pub parts : before ≡ a ∷ b ∷ d ∷ []
  pub first : 128 ≤ a
  pub second : 128 ≤ b
  pub third : 128 ≤ d
  pub large : 128 ≤ byte
  pub kind_is : kind ≡ BadQuantity

-- a byte of a quantity that failed has bit 7
abbrev HighThen : (more before byte : ℕ) (rest : List ℕ) (s : Stop) → Type 0
HighThen more before byte rest s = (128 ≤ byte) × (quantity_from more before (byte ∷ rest) ≡ Err s)

high : (more before byte : ℕ) (rest : List ℕ) (s : Stop) → quantity_from (suc more) before (byte ∷ rest) ≡ Err s →
    (128 ≤ byte) × (quantity_from more (before * 128 + byte % 128) rest ≡ Err s)
unfolding quantity_from
high more before byte rest s e =
    fell (ltb byte 128) _ _ s e
    (λ is wrong. absurd cc)
    (λ is a. fell (nat_eq (suc more) 0) _ _ s a
    (λ none wrong. let no_way : suc more ≡ 0 = grind (arith, nat_tests) in absurd (omega arith))
    (λ none b.
    let large : 128 ≤ byte = grind (arith, nat_tests) in
    let same : suc more - 1 ≡ more = omega arith in
    (large, ap (λ n. quantity_from n (before * 128 + byte % 128) rest) (sym same) ∙ b)))

last_high : (before byte : ℕ) (rest : List ℕ) (s : Stop) → quantity_from 0 before (byte ∷ rest) ≡ Err s →
    (128 ≤ byte) × (record { kind = BadQuantity; left = length (byte ∷ rest) } ≡ s)
unfolding quantity_from
last_high before byte rest s e =
    fell (ltb byte 128) _ _ s e
    (λ is wrong. absurd cc)
    (λ is a. let large : 128 ≤ byte = grind (arith, nat_tests) in (large, stop_is {A = ℕ × List ℕ} _ s a))

none_left : (more before : ℕ) (s : Stop) → quantity_from more before [] ≡ Err s → s ≡ cut_stop
unfolding quantity_from
none_left more before s e = sym (stop_is {A = ℕ × List ℕ} cut_stop s e)

pub quantity_fails : (bytes : List ℕ) (s : Stop) → read_quantity bytes ≡ Err s → Fails SpellsSome Fourth bytes s
unfolding read_quantity
quantity_fails [] s e =
    short (0 ∷ []) (omega arith) (_, record { form = omega arith; few = omega arith; is = refl }) (none_left 3 0 s e)
quantity_fails (a ∷ []) s e =
    let one = high 2 0 a [] s e in
    short (0 ∷ []) (omega arith) (_, record { form = (one.0, omega arith); few = omega arith; is = refl }) (none_left 2 _ s one.1)
quantity_fails (a ∷ b ∷ []) s e =
    let one = high 2 0 a _ s e in
    let two = high 1 _ b [] s one.1 in
    short (0 ∷ []) (omega arith) (_, record { form = (one.0, (two.0, omega arith)); few = omega arith; is = refl }) (none_left 1 _ s two.1)
quantity_fails (a ∷ b ∷ d ∷ []) s e =
    let one = high 2 0 a _ s e in
    let two = high 1 _ b _ s one.1 in
    let three = high 0 _ d [] s two.1 in
    short (0 ∷ []) (omega arith) (_, record { form = (one.0, (two.0, (three.0, omega arith))); few = omega arith; is = refl })
    (none_left 0 _ s three.1)
quantity_fails (a ∷ b ∷ d ∷ byte ∷ rest) s e =
    let one = high 2 0 a _ s e in
    let two = high 1 _ b _ s one.1 in
    let three = high 0 _ d _ s two.1 in
    let four = last_high _ byte rest s three.1 in
    at_byte (a ∷ b ∷ d ∷ []) rest byte refl
    (record {
      a = a;
      b = b;
      d = d;
      parts = refl;
      first = one.0;
      second = two.0;
      third = three.0;
      large = four.0;
      kind_is = ap (λ z. z.kind) (sym four.1);
    })
    (ap (λ z. z.left) (sym four.1))

-- ---- events

-- a data byte is to come, or there is none at the front
abbrev pub NoDatum : List ℕ → Stop → Type 0
NoDatum bytes s =
    ((bytes ≡ []) × (s ≡ cut_stop))
    ⊎ ((byte : ℕ) × (rest : List ℕ) × (bytes ≡ byte ∷ rest) × (128 ≤ byte) × (s ≡ record { kind = BadData; left = length (byte ∷ rest) }))

pub data_fails : (bytes : List ℕ) (s : Stop) → past_data bytes ≡ Err s →
    NoDatum bytes s
unfolding past_data
data_fails [] s e = inl (refl, sym (stop_is {A = List ℕ} cut_stop s e))
data_fails (byte ∷ rest) s e =
    fell (ltb byte 128) _ _ s e
    (λ is wrong. absurd cc)
    (λ is a.
    let large : 128 ≤ byte = grind (arith, nat_tests) in inr (byte, rest, refl, large, sym (stop_is {A = List ℕ} _ s a)))

-- bit 7 in a data byte of a channel message, behind these
pub record BadDatum (status : ℕ) (before : List ℕ) (byte : ℕ) (kind : ReadKind) : Type 0 where
  pub given : AreData before
  pub few : length before < data_count status
  pub large : 128 ≤ byte
  pub kind_is : kind ≡ BadData

at_least_one : (status : ℕ) → 0 < data_count status
at_least_one status = by_count (has_one status)
  where
    by_count : (b : Bool) → 0 < cond b 1 2
    by_count true = omega arith
    by_count false = omega arith

pub message_fails : (status : ℕ) (bytes : List ℕ) (s : Stop) → past_message status bytes ≡ Err s →
    Fails (IsMessage status) (BadDatum status) bytes s
unfolding past_message
message_fails status bytes s e =
    step_fails (past_data bytes) (λ rest. cond (has_one status) (Ok rest) (past_data rest)) s e
    (λ stops. first (data_fails bytes s stops))
    (λ rest is more. fell (has_one status) _ _ s more
    (λ one wrong. absurd cc)
    (λ two stops. second (data_took bytes rest is) two (data_fails rest s stops)))
  where
    zeros : (b : Bool) → has_one status ≡ b → IsMessage status (cond b (0 ∷ []) (0 ∷ 0 ∷ []))
    zeros true one = record { count = rw one refl; below = (omega arith, tt) }
    zeros false two = record { count = rw two refl; below = (omega arith, (omega arith, tt)) }

    some : (b : Bool) → 0 < length {A = ℕ} (cond b (0 ∷ []) (0 ∷ 0 ∷ []))
    some true = omega arith
    some false = omega arith

    first : NoDatum bytes s →
        Fails (IsMessage status) (BadDatum status) bytes s
    first (inl x) =
        short (cond (has_one status) (0 ∷ []) (0 ∷ 0 ∷ [])) (some (has_one status))
        (subst (λ (z : List ℕ). IsMessage status (z ++ cond (has_one status) (0 ∷ []) (0 ∷ 0 ∷ []))) (sym x.0)
        (zeros (has_one status) refl)) x.1
    first (inr x) =
        at_byte [] x.1 x.0 x.2
        (record { given = tt; few = at_least_one status; large = x.3; kind_is = ap (λ z. z.kind) x.4 }) (ap (λ z. z.left) x.4)

    second : {rest : List ℕ} → Datum bytes rest → has_one status ≡ false →
        NoDatum rest s →
        Fails (IsMessage status) (BadDatum status) bytes s
    second datum two (inl x) =
        short (0 ∷ []) (omega arith)
        (subst (λ (z : List ℕ). IsMessage status (z ++ 0 ∷ [])) (sym (datum.parts ∙ ap (λ (z : List ℕ). datum.byte ∷ z) x.0))
        (record { count = rw two refl; below = (datum.below, (omega arith, tt)) })) x.1
    second datum two (inr x) =
        at_byte (datum.byte ∷ []) x.1 x.0 (datum.parts ∙ ap (λ (z : List ℕ). datum.byte ∷ z) x.2)
        (record { given = (datum.below, tt); few = rw two (omega arith); large = x.3; kind_is = ap (λ z. z.kind) x.4 })
        (ap (λ z. z.left) x.4)

-- a length, and as many zeros
text_of : (count : List ℕ) (n : ℕ) → Spells count n → IsText (count ++ replicate n 0)
text_of count n spells =
    record { count = count; text = replicate n 0; parts = refl; spells = subst (Spells count) (sym (length-replicate n 0)) spells }

pub text_fails : (bytes : List ℕ) (s : Stop) → past_text bytes ≡ Err s → Fails IsText Fourth bytes s
unfolding past_text
text_fails bytes s e =
    step_fails (read_quantity bytes) (λ n. cond (ltb (length n.1) n.0) cut (Ok (drop n.0 n.1))) s e
    (λ stops. of_count (quantity_fails bytes s stops))
    (λ x is more. fell (ltb (length x.1) x.0) _ _ s more
    (λ few stops.
    let less : length x.1 < x.0 = grind (arith, nat_tests) in
    let t = quantity_took bytes x is in
    let all : length (x.1 ++ replicate (x.0 - length x.1) 0) ≡ x.0 =
    omega (arith, length-append x.1 (replicate (x.0 - length x.1) 0), length-replicate {A = ℕ} (x.0 - length x.1) 0) in
    short (replicate (x.0 - length x.1) 0) (omega (arith, length-replicate {A = ℕ} (x.0 - length x.1) 0)) (record {
      count = t.taken;
      text = x.1 ++ replicate (x.0 - length x.1) 0;
      parts = ap (λ (z : List ℕ). z ++ replicate (x.0 - length x.1) 0) t.parts ∙ append_assoc t.taken x.1 (replicate (x.0 - length x.1) 0);
      spells = subst (Spells t.taken) (sym all) t.is;
    }) (sym (stop_is {A = List ℕ} cut_stop s stops)))
    (λ few wrong. absurd cc))
  where
    of_count : Fails SpellsSome Fourth bytes s → Fails IsText Fourth bytes s
    of_count (short more some form is) =
        short (more ++ replicate form.0 0) (omega (arith, length-append more (replicate form.0 0)))
        (subst IsText (append_assoc bytes more (replicate form.0 0)) (text_of (bytes ++ more) form.0 form.1)) is
    of_count (at_byte before rest byte parts bad left) = at_byte before rest byte parts bad left
