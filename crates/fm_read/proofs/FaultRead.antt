-- A bad byte is refused at its position, and bytes that could go on at their end.
use Rattle.std.proofs.Common.{◌≡◌, ◌≢◌, ◌⊎◌, inl, inr, ℕ, ◌<◌, ◌≤◌, Bool, true, false, cond, nat_eq, List, [], ◌∷◌, ◌++◌, length, Option, Some, None, Ok, Err, refl, sym, ◌∙◌, ap, arith, lt-ltb, le-ltb, length-append, append_assoc}
use Rattle.std.proofs.lemmas.List.{append-nil}
use Rattle.std.proofs.lemmas.Bool.Decides.{nat_tests}
use Rattle.fm_read.specs.declared.fault.ReadKind.{ReadKind}
use Rattle.fm_read.specs.declared.fault.ReadKind.TheVariants.{BadQuantity, BadStatus, BadData, NoStatus}
use Rattle.fm_read.specs.declared.fault.Stop.{Stop}
use Rattle.fm_read.specs.Reading.{Read, stop, ◌>>=◌, Pair, read_quantity, past_data, past_message, past_text, past_meta, has_one, read_channel, read_event, read_entry}
use Rattle.fm_read.specs.Form.{Spells, AreData, data_count, IsEntry}
use Rattle.fm_read.specs.FaultForm.{QuantityDue, DataDue, BadByte, NoEntry, cut_stop}
use Rattle.fm_read.specs.FaultForm.QuantityDue.{at_delta, behind_sysex, behind_type}
use Rattle.fm_read.specs.FaultForm.DataDue.{behind_status, behind_data, behind_meta}
use Rattle.fm_read.specs.FaultForm.BadByte.{fourth, datum, status, no_status}
use Rattle.fm_read.specs.FaultForm.NoEntry.{cut_off, bad}
use Rattle.fm_read.proofs.EndsLemmas.{entry_ends, ok_is}
use Rattle.fm_read.proofs.Quantities.{quantity_begun, quantity_more, quantity_bad}
use Rattle.fm_read.proofs.WrittenLemmas.{data_written}
use Rattle.fm_read.proofs.FormRead.{quantity_read, entry_read}
use Rattle.fm_read.proofs.FormTook.{entry_took}
use Rattle.fm_read.proofs.FaultFails.{stopped}
use Rattle.fm_read.proofs.FaultEntry.{entry_fails}

-- ---- quantities

pub fourth_read : (a b d byte : ℕ) (rest : List ℕ) → 128 ≤ a → 128 ≤ b → 128 ≤ d → 128 ≤ byte →
    read_quantity (a ∷ b ∷ d ∷ byte ∷ rest) ≡ stop BadQuantity (length (byte ∷ rest))
fourth_read a b d byte rest p q r t =
    sym (quantity_begun _) ∙ quantity_more 3 0 a _ _ refl p (omega arith) ∙ quantity_more 2 _ b _ _ refl q (omega arith)
    ∙ quantity_more 1 _ d _ _ refl r (omega arith) ∙ quantity_bad _ byte _ rest refl t ∙ ap (stop BadQuantity) (omega arith)

text_stops : (bytes : List ℕ) (s : Stop) → read_quantity bytes ≡ Err s → past_text bytes ≡ Err s
unfolding past_text
text_stops bytes s is = rw is refl

-- ---- data bytes

data_bad : (byte : ℕ) (rest : List ℕ) → 128 ≤ byte → past_data (byte ∷ rest) ≡ stop BadData (length (byte ∷ rest))
unfolding past_data
data_bad byte rest large = rw (le-ltb byte 128 large) refl

message_bad : (kind : ℕ) (given rest : List ℕ) (byte : ℕ) → AreData given → length given < data_count kind → 128 ≤ byte →
    past_message kind (given ++ byte ∷ rest) ≡ stop BadData (length (byte ∷ rest))
unfolding past_message
message_bad kind [] rest byte are few large = rw (data_bad byte rest large) refl
message_bad kind (a ∷ []) rest byte are few large = by_count (has_one kind) refl
  where
    by_count : (one : Bool) → has_one kind ≡ one →
        (past_data (a ∷ byte ∷ rest) >>= λ more. cond (has_one kind) (Ok more) (past_data more)) ≡ stop BadData (length (byte ∷ rest))
    by_count true flag = let n : length (a ∷ []) < 1 = rw flag at few in absurd (omega arith)
    by_count false flag = rw (data_written a (byte ∷ rest) are.0, flag) (data_bad byte rest large)
message_bad kind (a ∷ b ∷ given) rest byte are few large = absurd (by_count (has_one kind) few)
  where
    by_count : (one : Bool) → length (a ∷ b ∷ given) < cond one 1 2 → ⊥
    by_count true few = omega arith
    by_count false few = omega arith

-- ---- events

-- behind a status byte
own_stops : (running : Option ℕ) (kind : ℕ) (bytes : List ℕ) (s : Stop) → 128 ≤ kind → kind < 240 → past_message kind bytes ≡ Err s →
    read_event running (kind ∷ bytes) ≡ Err s
unfolding read_event read_channel
own_stops running kind bytes s low high is = rw (le-ltb kind 128 low, lt-ltb kind 240 high, is) refl

again_stops : (kind first : ℕ) (bytes : List ℕ) (s : Stop) → first < 128 → past_message kind (first ∷ bytes) ≡ Err s →
    read_event (Some kind) (first ∷ bytes) ≡ Err s
unfolding read_event read_channel
again_stops kind first bytes s small is = rw (lt-ltb first 128 small, is) refl

sysex_stops : (running : Option ℕ) (kind : ℕ) (bytes : List ℕ) (s : Stop) → (kind ≡ 240) ⊎ (kind ≡ 247) → past_text bytes ≡ Err s →
    read_event running (kind ∷ bytes) ≡ Err s
unfolding read_event
sysex_stops running kind bytes s (inl same) is = rw (same, is) refl
sysex_stops running kind bytes s (inr same) is = rw (same, is) refl

meta_stops : (running : Option ℕ) (kind : ℕ) (bytes : List ℕ) (s : Stop) → kind < 128 → past_text bytes ≡ Err s →
    read_event running (255 ∷ kind ∷ bytes) ≡ Err s
unfolding read_event past_meta
meta_stops running kind bytes s small is = rw (data_written kind bytes small, is) refl

type_bad : (running : Option ℕ) (byte : ℕ) (rest : List ℕ) → 128 ≤ byte →
    read_event running (255 ∷ byte ∷ rest) ≡ stop BadData (length (byte ∷ rest))
unfolding read_event past_meta
type_bad running byte rest large = rw (data_bad byte rest large) refl

no_status_bad : (running : Option ℕ) (byte : ℕ) (rest : List ℕ) → byte < 128 → running ≡ None →
    read_event running (byte ∷ rest) ≡ stop NoStatus (length (byte ∷ rest))
unfolding read_event read_channel
no_status_bad running byte rest small none = rw (none, lt-ltb byte 128 small) refl

status_bad : (running : Option ℕ) (byte : ℕ) (rest : List ℕ) → 240 ≤ byte → byte ≢ 240 → byte ≢ 247 → byte ≢ 255 →
    read_event running (byte ∷ rest) ≡ stop BadStatus (length (byte ∷ rest))
unfolding read_event
status_bad running byte rest high a b d =
    let one : nat_eq byte 255 ≡ false = grind (arith, nat_tests) in
    let two : nat_eq byte 240 ≡ false = grind (arith, nat_tests) in
    let three : nat_eq byte 247 ≡ false = grind (arith, nat_tests) in
    rw (le-ltb byte 128 (omega arith), le-ltb byte 240 high, one, two, three) refl

-- ---- entries

delta_stops : (running : Option ℕ) (bytes : List ℕ) (s : Stop) → read_quantity bytes ≡ Err s → read_entry running bytes ≡ Err s
unfolding read_entry
delta_stops running bytes s is = rw is refl

event_stops : (running : Option ℕ) (lead bytes : List ℕ) (delta : ℕ) (s : Stop) → Spells lead delta → read_event running bytes ≡ Err s →
    read_entry running (lead ++ bytes) ≡ Err s
unfolding read_entry
event_stops running lead bytes delta s spells is = rw (quantity_read lead bytes delta spells, is) refl

pub bad_read : (running : Option ℕ) (before rest : List ℕ) (byte : ℕ) (kind : ReadKind) → BadByte running before byte kind →
    read_entry running (before ++ byte ∷ rest) ≡ stop kind (length (byte ∷ rest))
bad_read running before rest byte kind (fourth due a b d parts is p q r t kind_is) =
    rw kind_is (ap (λ (z : List ℕ). read_entry running (z ++ byte ∷ rest)) parts
    ∙ ap (read_entry running) (append_assoc due (a ∷ b ∷ d ∷ []) (byte ∷ rest)) ∙ by_due due is)
  where
    text : past_text (a ∷ b ∷ d ∷ byte ∷ rest) ≡ stop BadQuantity (length (byte ∷ rest))
    text = text_stops _ _ (fourth_read a b d byte rest p q r t)

    by_due : (due : List ℕ) → QuantityDue due →
        read_entry running (due ++ a ∷ b ∷ d ∷ byte ∷ rest) ≡ stop BadQuantity (length (byte ∷ rest))
    by_due due (at_delta is) =
        ap (λ (z : List ℕ). read_entry running (z ++ a ∷ b ∷ d ∷ byte ∷ rest)) is
        ∙ delta_stops running _ _ (fourth_read a b d byte rest p q r t)
    by_due due (behind_sysex lead delta now is spells sort) =
        ap (λ (z : List ℕ). read_entry running (z ++ a ∷ b ∷ d ∷ byte ∷ rest)) is
        ∙ ap (read_entry running) (append_assoc lead (now ∷ []) (a ∷ b ∷ d ∷ byte ∷ rest))
        ∙ event_stops running lead _ delta _ spells (sysex_stops running now _ _ sort text)
    by_due due (behind_type lead delta sort is spells small) =
        ap (λ (z : List ℕ). read_entry running (z ++ a ∷ b ∷ d ∷ byte ∷ rest)) is
        ∙ ap (read_entry running) (append_assoc lead (255 ∷ sort ∷ []) (a ∷ b ∷ d ∷ byte ∷ rest))
        ∙ event_stops running lead _ delta _ spells (meta_stops running sort _ _ small text)
bad_read running before rest byte kind (datum is large kind_is) = rw kind_is (by_due is)
  where
    by_due : DataDue running before → read_entry running (before ++ byte ∷ rest) ≡ stop BadData (length (byte ∷ rest))
    by_due (behind_status lead given delta now is spells low high are few) =
        ap (λ (z : List ℕ). read_entry running (z ++ byte ∷ rest)) is
        ∙ ap (read_entry running) (append_assoc lead (now ∷ given) (byte ∷ rest))
        ∙ event_stops running lead _ delta _ spells (own_stops running now _ _ low high (message_bad now given rest byte are few large))
    by_due (behind_data lead given delta now first is spells force are few) =
        ap (λ (z : List ℕ). read_entry running (z ++ byte ∷ rest)) is
        ∙ ap (read_entry running) (append_assoc lead (first ∷ given) (byte ∷ rest))
        ∙ ap (λ r. read_entry r (lead ++ ((first ∷ given) ++ (byte ∷ rest)))) force
        ∙ event_stops (Some now) lead _ delta _ spells
        (again_stops now first _ _ are.0 (message_bad now (first ∷ given) rest byte are few large))
    by_due (behind_meta lead delta is spells) =
        ap (λ (z : List ℕ). read_entry running (z ++ byte ∷ rest)) is
        ∙ ap (read_entry running) (append_assoc lead (255 ∷ []) (byte ∷ rest))
        ∙ event_stops running lead _ delta _ spells (type_bad running byte rest large)
bad_read running before rest byte kind (status delta spells high a b d kind_is) =
    rw kind_is (event_stops running before _ delta _ spells (status_bad running byte rest high a b d))
bad_read running before rest byte kind (no_status delta spells small none kind_is) =
    rw kind_is (event_stops running before _ delta _ spells (no_status_bad running byte rest small none))

-- bytes that could go on to be an entry are cut
pub cut_read : (running : Option ℕ) (bytes more : List ℕ) (e : Pair) → 0 < length more → IsEntry running e →
    bytes ++ more ≡ e.lead ++ e.bytes →
    read_entry running bytes ≡ Err cut_stop
cut_read running bytes more e some is parts = by_read (read_entry running bytes) refl
  where
    whole : read_entry running (bytes ++ more) ≡ Ok (e, [])
    whole = ap (read_entry running) (parts ∙ sym (append-nil (e.lead ++ e.bytes))) ∙ entry_read running e [] is

    by_read : (r : Read (Pair × List ℕ)) → read_entry running bytes ≡ r → r ≡ Err cut_stop
    by_read (Ok x) read =
        let first = entry_ends running bytes x read in
        let again : read_entry running (bytes ++ more) ≡ Ok (x.0, x.1 ++ more) =
        ap (read_entry running) (ap (λ (z : List ℕ). z ++ more) (sym first.joined_entries) ∙ append_assoc (x.0.lead ++ x.0.bytes) x.1 more)
        ∙ entry_read running x.0 (x.1 ++ more) (entry_took running bytes x read) in
        let one : Pair × List ℕ = (x.0, x.1 ++ more) in
        let two : Pair × List ℕ = (e, []) in
        let same : one ≡ two = ok_is one two (sym again ∙ whole) in
        absurd (omega (arith, some, length-append x.1 more, ap (λ z. length z.1) same))
    by_read (Err s) read = by_fault (entry_fails running bytes s read)
      where
        by_fault : NoEntry running bytes s → stopped {A = Pair × List ℕ} s ≡ stopped cut_stop
        by_fault (cut_off more2 e2 some2 is2 parts2 same) = ap (stopped {A = Pair × List ℕ}) same
        by_fault (bad before rest byte parts2 bad_is left) =
            let again : read_entry running (bytes ++ more) ≡ stop s.kind (length (byte ∷ (rest ++ more))) =
            ap (read_entry running) (ap (λ (z : List ℕ). z ++ more) parts2 ∙ append_assoc before (byte ∷ rest) more)
            ∙ bad_read running before (rest ++ more) byte s.kind bad_is in
            absurd (cc (sym again ∙ whole))

-- what is no entry is refused so
pub no_entry_read : (running : Option ℕ) (bytes : List ℕ) (s : Stop) → NoEntry running bytes s → read_entry running bytes ≡ Err s
no_entry_read running bytes s (cut_off more e some is parts same) = cut_read running bytes more e some is parts ∙ ap stopped (sym same)
no_entry_read running bytes s (bad before rest byte parts is left) =
    ap (read_entry running) parts ∙ bad_read running before rest byte s.kind is ∙ ap (stop s.kind) (sym left)
