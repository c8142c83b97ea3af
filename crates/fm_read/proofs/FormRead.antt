-- What has the form is read.
use Rattle.std.proofs.Common.{◌≡◌, ◌⊎◌, inl, inr, ℕ, ◌+◌, ◌-◌, ◌*◌, ◌%◌, ◌<◌, ◌≤◌, Bool, true, false, ltb, nat_eq, List, [], ◌∷◌, ◌++◌, length, Option, Some, Ok, refl, sym, ◌∙◌, ap, arith, lt-ltb, le-ltb, length-append, append_assoc}
use Rattle.std.proofs.lemmas.List.{drop_at}
use Rattle.std.proofs.lemmas.Bool.Decides.{nat_tests}
use Rattle.fm_smf.specs.VariableLength.{spelt_after}
use Rattle.fm_read.specs.Reading.{Pair, quantity_from, read_quantity, past_message, past_text, past_meta, has_one, read_event, read_entry, in_force}
use Rattle.fm_read.specs.Tracks.{entries, joined_entries}
use Rattle.fm_read.specs.Form.{EndsLast, Spells, data_count, AreData, IsMessage, IsText, IsEvent, IsEntry, IsTrack}
use Rattle.fm_read.specs.Form.IsEvent.{own, again, sysex, meta}
use Rattle.fm_read.proofs.WrittenLemmas.{two_written, one_written, own_status, data_written, running_status, front_written}
use Rattle.fm_read.proofs.TrackWritten.{one_more, last_one}

-- ---- quantities

quantity_read_from : (bytes : List ℕ) (more before : ℕ) (rest : List ℕ) → EndsLast bytes → length bytes ≤ more + 1 →
    quantity_from more before (bytes ++ rest) ≡ Ok (spelt_after before bytes, rest)
unfolding quantity_from
quantity_read_from [] more before rest form few = absurd form
quantity_read_from (byte ∷ []) more before rest form few = rw (lt-ltb byte 128 form) refl
quantity_read_from (byte ∷ next ∷ bytes) more before rest form few =
    let some : nat_eq more 0 ≡ false = grind (arith, nat_tests) in
    rw (le-ltb byte 128 form.0, some)
    (quantity_read_from (next ∷ bytes) (more - 1) (before * 128 + byte % 128) rest form.1 (omega arith))

pub quantity_read : (bytes rest : List ℕ) (n : ℕ) → Spells bytes n → read_quantity (bytes ++ rest) ≡ Ok (n, rest)
unfolding read_quantity
quantity_read bytes rest n spells =
    quantity_read_from bytes 3 0 rest spells.form (omega (arith, spells.few)) ∙ ap (λ (m : ℕ). Ok (m, rest)) spells.is

-- ---- events

pub message_read : (status : ℕ) (bytes rest : List ℕ) → IsMessage status bytes → past_message status (bytes ++ rest) ≡ Ok rest
message_read status bytes rest is = by_count bytes (has_one status) refl is.count is.below
  where
    by_count : (bytes : List ℕ) (one : Bool) → has_one status ≡ one → length bytes ≡ data_count status → AreData bytes →
        past_message status (bytes ++ rest) ≡ Ok rest
    by_count (a ∷ []) true flag count below = one_written status a rest flag below.0
    by_count (a ∷ b ∷ []) false flag count below = two_written status a b rest flag below.0 below.1.0
    by_count [] true flag count below = let n : length {A = ℕ} [] ≡ 1 = rw flag at count in absurd (omega arith)
    by_count [] false flag count below = let n : length {A = ℕ} [] ≡ 2 = rw flag at count in absurd (omega arith)
    by_count (a ∷ []) false flag count below = let n : length (a ∷ []) ≡ 2 = rw flag at count in absurd (omega arith)
    by_count (a ∷ b ∷ more) true flag count below = let n : length (a ∷ b ∷ more) ≡ 1 = rw flag at count in absurd (omega arith)
    by_count (a ∷ b ∷ d ∷ more) false flag count below = let n : length (a ∷ b ∷ d ∷ more) ≡ 2 = rw flag at count in absurd (omega arith)

pub text_read : (bytes rest : List ℕ) → IsText bytes → past_text (bytes ++ rest) ≡ Ok rest
unfolding past_text
text_read bytes rest is =
    let long : ltb (length (is.text ++ rest)) (length is.text) ≡ false = le-ltb _ _ (omega (arith, length-append is.text rest)) in
    let parts : bytes ++ rest ≡ is.count ++ (is.text ++ rest) = ap (λ z. z ++ rest) is.parts ∙ append_assoc is.count is.text rest in
    rw (parts, quantity_read is.count (is.text ++ rest) (length is.text) is.spells, long, drop_at is.text rest (length is.text) refl) refl

channel_read : (status : ℕ) (bytes rest : List ℕ) → IsMessage status bytes → read_event (Some status) (bytes ++ rest) ≡ Ok (status, rest)
channel_read status [] rest is = absurd (none (has_one status) refl)
  where
    none : (one : Bool) → has_one status ≡ one → ⊥
    none true flag = let n : length {A = ℕ} [] ≡ 1 = rw flag at is.count in absurd (omega arith)
    none false flag = let n : length {A = ℕ} [] ≡ 2 = rw flag at is.count in absurd (omega arith)
channel_read status (first ∷ bytes) rest is =
    running_status status first (bytes ++ rest) rest is.below.0 (message_read status (first ∷ bytes) rest is)

sysex_read : (running : Option ℕ) (status : ℕ) (text rest : List ℕ) → (status ≡ 240) ⊎ (status ≡ 247) → IsText text →
    read_event running (status ∷ text ++ rest) ≡ Ok (status, rest)
unfolding read_event
sysex_read running status text rest (inl is) form = rw (is, text_read text rest form) refl
sysex_read running status text rest (inr is) form = rw (is, text_read text rest form) refl

meta_read : (running : Option ℕ) (kind : ℕ) (text rest : List ℕ) → kind < 128 → IsText text →
    read_event running (255 ∷ kind ∷ text ++ rest) ≡ Ok (255, rest)
unfolding read_event past_meta
meta_read running kind text rest small form = rw (data_written kind (text ++ rest) small, text_read text rest form) refl

pub event_read : (running : Option ℕ) (status : ℕ) (bytes rest : List ℕ) → IsEvent running status bytes →
    read_event running (bytes ++ rest) ≡ Ok (status, rest)
event_read running status bytes rest (own given parts low high is) =
    ap (λ z. read_event running (z ++ rest)) parts
    ∙ own_status running status (given ++ rest) rest low high (message_read status given rest is)
event_read running status bytes rest (again force is) = ap (λ r. read_event r (bytes ++ rest)) force ∙ channel_read status bytes rest is
event_read running status bytes rest (sysex text parts kind form) =
    ap (λ z. read_event running (z ++ rest)) parts ∙ sysex_read running status text rest kind form
event_read running status bytes rest (meta kind text parts is small form) =
    ap (λ z. read_event running (z ++ rest)) parts ∙ meta_read running kind text rest small form ∙ ap (λ (n : ℕ). Ok (n, rest)) (sym is)

-- ---- entries and tracks

pub entry_read : (running : Option ℕ) (e : Pair) (rest : List ℕ) → IsEntry running e →
    read_entry running ((e.lead ++ e.bytes) ++ rest) ≡ Ok (e, rest)
unfolding read_entry
entry_read running e rest is =
    rw (
      append_assoc e.lead e.bytes rest,
      quantity_read e.lead (e.bytes ++ rest) e.delta is.delta,
      event_read running e.status e.bytes rest is.event,
      front_written e.lead (e.bytes ++ rest),
      front_written e.bytes rest,
    ) refl

pub track_read : (running : Option ℕ) (es : List Pair) → IsTrack running es → entries running (joined_entries es) ≡ Ok es
track_read running [] is = absurd is
track_read running (e ∷ []) is = last_one running (joined_entries (e ∷ [])) e (entry_read running e [] is.0) is.1
track_read running (e ∷ next ∷ es) is =
    one_more running (joined_entries (e ∷ next ∷ es)) (joined_entries (next ∷ es)) e (next ∷ es)
    (entry_read running e (joined_entries (next ∷ es)) is.0) is.1
    (track_read (in_force e.status) (next ∷ es) is.2)
