-- What is written is read back: a quantity, a message, a filler, a whole track.
use Rattle.std.proofs.Common.{◌≡◌, ℕ, ◌+◌, ◌-◌, ◌*◌, ◌/◌, ◌%◌, ◌<◌, ◌≤◌, Bool, true, false, ltb, List, ◌∷◌, ◌++◌, length, drop, Option, Some, Ok, refl, sym, ◌∙◌, ap, arith, lt-ltb, le-ltb, length-append}
use Rattle.std.proofs.lemmas.List.{take_at, drop_at}
use Rattle.std.proofs.lemmas.Bool.Decides.{nat_tests}
use Rattle.fm_msg.specs.declared.msg.Msg.{Msg}
use Rattle.fm_msg.specs.declared.msg.Msg.TheVariants.{On, Off, Control, Program, Bend}
use Rattle.fm_msg.specs.Message.{message_bytes, is_in_range}
use Rattle.fm_smf.specs.VariableLength.{vlq}
use Rattle.fm_smf.specs.declared.limits.TheConstants.{MAX_QUANTITY}
use Rattle.fm_read.specs.Reading.{front, read_quantity, past_data, past_message, past_text, past_meta, has_one, read_channel, read_event, read_entry}
use Rattle.fm_smf.specs.Track.{status_of}
use Rattle.fm_read.proofs.Quantities.{quantity_begun, quantity_last, quantity_more}

-- ---- quantities

pub one_byte : (n : ℕ) (rest : List ℕ) → n < 128 → read_quantity (n ∷ rest) ≡ Ok (n, rest)
one_byte n rest small =
    sym (quantity_begun (n ∷ rest)) ∙ quantity_last 3 0 n _ rest refl small ∙ ap (λ (m : ℕ). Ok (m, rest)) (omega arith)

two_bytes : (a b n : ℕ) (rest : List ℕ) → 128 ≤ a → b < 128 → (a % 128) * 128 + b ≡ n →
    read_quantity (a ∷ b ∷ rest) ≡ Ok (n, rest)
two_bytes a b n rest large small is =
    sym (quantity_begun _) ∙ quantity_more 3 0 a _ _ refl large (omega arith)
    ∙ quantity_last _ _ b _ rest refl small ∙ ap (λ (m : ℕ). Ok (m, rest)) (omega arith)

three_bytes : (a b d n : ℕ) (rest : List ℕ) → 128 ≤ a → 128 ≤ b → d < 128 → ((a % 128) * 128 + b % 128) * 128 + d ≡ n →
    read_quantity (a ∷ b ∷ d ∷ rest) ≡ Ok (n, rest)
three_bytes a b d n rest large large2 small is =
    sym (quantity_begun _) ∙ quantity_more 3 0 a _ _ refl large (omega arith) ∙ quantity_more 2 _ b _ _ refl large2 (omega arith)
    ∙ quantity_last _ _ d _ rest refl small ∙ ap (λ (m : ℕ). Ok (m, rest)) (omega arith)

four_bytes : (a b d e n : ℕ) (rest : List ℕ) → 128 ≤ a → 128 ≤ b → 128 ≤ d → e < 128 →
    (((a % 128) * 128 + b % 128) * 128 + d % 128) * 128 + e ≡ n → read_quantity (a ∷ b ∷ d ∷ e ∷ rest) ≡ Ok (n, rest)
four_bytes a b d e n rest large large2 large3 small is =
    sym (quantity_begun _) ∙ quantity_more 3 0 a _ _ refl large (omega arith) ∙ quantity_more 2 _ b _ _ refl large2 (omega arith)
    ∙ quantity_more 1 _ d _ _ refl large3 (omega arith)
    ∙ quantity_last _ _ e _ rest refl small ∙ ap (λ (m : ℕ). Ok (m, rest)) (omega arith)

-- a written quantity is read back
pub quantity_written : (n : ℕ) (rest : List ℕ) → n ≤ MAX_QUANTITY → read_quantity (vlq n ++ rest) ≡ Ok (n, rest)
unfolding vlq
quantity_written n rest small = by_size (ltb n 128) (ltb n 16384) (ltb n 2097152) refl refl refl
  where
    by_size : (a b d : Bool) → ltb n 128 ≡ a → ltb n 16384 ≡ b → ltb n 2097152 ≡ d → read_quantity (vlq n ++ rest) ≡ Ok (n, rest)
    by_size true b d p q r = rw p (one_byte n rest (grind (arith, nat_tests)))
    by_size false true d p q r =
        let low : 128 ≤ n = grind (arith, nat_tests) in
        let high : n < 16384 = grind (arith, nat_tests) in
        rw (p, q) (two_bytes _ _ n rest (omega arith) (omega arith) (omega arith))
    by_size false false true p q r =
        let low : 16384 ≤ n = grind (arith, nat_tests) in
        let high : n < 2097152 = grind (arith, nat_tests) in
        rw (p, q, r) (three_bytes _ _ _ n rest (omega arith) (omega arith) (omega arith) (omega arith))
    by_size false false false p q r =
        let low : 2097152 ≤ n = grind (arith, nat_tests) in
        rw (p, q, r) (four_bytes _ _ _ _ n rest (omega arith) (omega arith) (omega arith) (omega arith) (omega arith))

-- ---- events

pub data_written : (byte : ℕ) (rest : List ℕ) → byte < 128 → past_data (byte ∷ rest) ≡ Ok rest
unfolding past_data
data_written byte rest small = rw (lt-ltb byte 128 small) refl

pub two_written : (status key value : ℕ) (rest : List ℕ) → has_one status ≡ false → key < 128 → value < 128 →
    past_message status (key ∷ value ∷ rest) ≡ Ok rest
unfolding past_message
two_written status key value rest two k v = rw (data_written key (value ∷ rest) k, two) (data_written value rest v)

pub one_written : (status key : ℕ) (rest : List ℕ) → has_one status ≡ true → key < 128 → past_message status (key ∷ rest) ≡ Ok rest
unfolding past_message
one_written status key rest one k = rw (data_written key rest k, one) refl

-- a message with a status byte of its own
pub own_status : (running : Option ℕ) (status : ℕ) (bytes rest : List ℕ) → 128 ≤ status → status < 240 →
    past_message status bytes ≡ Ok rest →
    read_event running (status ∷ bytes) ≡ Ok (status, rest)
unfolding read_event read_channel
own_status running status bytes rest low high e = rw (le-ltb status 128 low, lt-ltb status 240 high, e) refl

-- a text shorter than 128 bytes
text_written : (count : ℕ) (text rest : List ℕ) → count < 128 → length text ≡ count → past_text (count ∷ text ++ rest) ≡ Ok rest
unfolding past_text
text_written count text rest small is =
    let long : ltb (length (text ++ rest)) count ≡ false = le-ltb _ _ (omega (arith, length-append text rest)) in
    rw (one_byte count (text ++ rest) small, long, drop_at text rest count is) refl

-- a meta event with a text shorter than 128 bytes
pub meta_written : (running : Option ℕ) (kind count : ℕ) (text rest : List ℕ) → kind < 128 → count < 128 → length text ≡ count →
    read_event running (255 ∷ kind ∷ count ∷ text ++ rest) ≡ Ok (255, rest)
unfolding read_event past_meta
meta_written running kind count text rest k small is =
    rw (data_written kind (count ∷ text ++ rest) k, text_written count text rest small is) refl

-- a message in range is read back
pub message_written : (running : Option ℕ) (m : Msg) (rest : List ℕ) → is_in_range m ≡ true →
    read_event running (message_bytes m ++ rest) ≡ Ok (status_of m, rest)
message_written running (On channel key velocity) rest fits =
    let a : channel < 16 = grind (arith, nat_tests) in
    let b : key < 128 = grind (arith, nat_tests) in
    let d : velocity < 128 = grind (arith, nat_tests) in
    own_status running (144 + channel) _ rest (omega arith) (omega arith)
    (two_written (144 + channel) key velocity rest (grind (arith, nat_tests)) b d)
message_written running (Off channel key) rest fits =
    let a : channel < 16 = grind (arith, nat_tests) in
    let b : key < 128 = grind (arith, nat_tests) in
    own_status running (128 + channel) _ rest (omega arith) (omega arith)
    (two_written (128 + channel) key 64 rest (grind (arith, nat_tests)) b (omega arith))
message_written running (Control channel controller value) rest fits =
    let a : channel < 16 = grind (arith, nat_tests) in
    let b : controller < 128 = grind (arith, nat_tests) in
    let d : value < 128 = grind (arith, nat_tests) in
    own_status running (176 + channel) _ rest (omega arith) (omega arith)
    (two_written (176 + channel) controller value rest (grind (arith, nat_tests)) b d)
message_written running (Program channel program) rest fits =
    let a : channel < 16 = grind (arith, nat_tests) in
    let b : program < 128 = grind (arith, nat_tests) in
    own_status running (192 + channel) _ rest (omega arith) (omega arith)
    (one_written (192 + channel) program rest (grind (arith, nat_tests)) b)
message_written running (Bend channel bend) rest fits =
    let a : channel < 16 = grind (arith, nat_tests) in
    let b : bend < 16384 = grind (arith, nat_tests) in
    own_status running (224 + channel) _ rest (omega arith) (omega arith)
    (two_written (224 + channel) (bend % 128) (bend / 128) rest (grind (arith, nat_tests)) (omega arith) (omega arith))

-- under running status its data bytes are enough
pub running_status : (status first : ℕ) (bytes rest : List ℕ) → first < 128 → past_message status (first ∷ bytes) ≡ Ok rest →
    read_event (Some status) (first ∷ bytes) ≡ Ok (status, rest)
unfolding read_event read_channel
running_status status first bytes rest small e = rw (lt-ltb first 128 small, e) refl

pub data_is_read : (m : Msg) (rest : List ℕ) → is_in_range m ≡ true →
    read_event (Some (status_of m)) (drop 1 (message_bytes m) ++ rest) ≡ Ok (status_of m, rest)
data_is_read (On channel key velocity) rest fits =
    let a : channel < 16 = grind (arith, nat_tests) in
    let b : key < 128 = grind (arith, nat_tests) in
    let d : velocity < 128 = grind (arith, nat_tests) in
    running_status (144 + channel) key _ rest b (two_written (144 + channel) key velocity rest (grind (arith, nat_tests)) b d)
data_is_read (Off channel key) rest fits =
    let a : channel < 16 = grind (arith, nat_tests) in
    let b : key < 128 = grind (arith, nat_tests) in
    running_status (128 + channel) key _ rest b (two_written (128 + channel) key 64 rest (grind (arith, nat_tests)) b (omega arith))
data_is_read (Control channel controller value) rest fits =
    let a : channel < 16 = grind (arith, nat_tests) in
    let b : controller < 128 = grind (arith, nat_tests) in
    let d : value < 128 = grind (arith, nat_tests) in
    running_status (176 + channel) controller _ rest b (two_written (176 + channel) controller value rest (grind (arith, nat_tests)) b d)
data_is_read (Program channel program) rest fits =
    let a : channel < 16 = grind (arith, nat_tests) in
    let b : program < 128 = grind (arith, nat_tests) in
    running_status (192 + channel) program _ rest b (one_written (192 + channel) program rest (grind (arith, nat_tests)) b)
data_is_read (Bend channel bend) rest fits =
    let a : channel < 16 = grind (arith, nat_tests) in
    running_status (224 + channel) (bend % 128) _ rest (omega arith)
    (two_written (224 + channel) (bend % 128) (bend / 128) rest (grind (arith, nat_tests)) (omega arith)
    (let b : bend < 16384 = grind (arith, nat_tests) in omega arith))

-- ---- entries

pub front_written : (xs rest : List ℕ) → front (xs ++ rest) rest ≡ xs
front_written xs rest =
    let count : length (xs ++ rest) - length rest ≡ length xs = omega (arith, length-append xs rest) in
    rw (count, take_at xs rest (length xs) refl) refl

-- a quantity and an event are an entry
pub entry_written : (running : Option ℕ) (ticks status : ℕ) (event rest : List ℕ) → ticks ≤ MAX_QUANTITY →
    read_event running (event ++ rest) ≡ Ok (status, rest) →
    read_entry running (vlq ticks ++ (event ++ rest))
    ≡ Ok (record { delta = ticks; status = status; lead = vlq ticks; bytes = event }, rest)
unfolding read_entry
entry_written running ticks status event rest small e =
    rw (quantity_written ticks (event ++ rest) small, e, front_written (vlq ticks) (event ++ rest), front_written event rest) refl
