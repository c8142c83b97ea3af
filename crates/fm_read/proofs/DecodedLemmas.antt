-- A written message, with its status byte or without it, is decoded.
use Rattle.std.proofs.Common.{◌≡◌, ◌+◌, ◌*◌, ◌/◌, ◌%◌, ◌<◌, Bool, true, false, cond, drop, Some, None, refl, ◌∙◌, ap, arith, lt-ltb, le-ltb}
use Rattle.std.proofs.lemmas.Bool.Decides.{nat_tests}
use Rattle.fm_msg.specs.declared.msg.Msg.{Msg}
use Rattle.fm_msg.specs.declared.msg.Msg.TheVariants.{On, Off, Control, Program, Bend}
use Rattle.fm_msg.specs.Message.{is_in_range, message_bytes}
use Rattle.fm_smf.specs.Track.{status_of}
use Rattle.fm_read.specs.Decoded.{of_one, of_two, of_data, data_bytes, in_range, message_from}

-- the data bytes of a message spell it
data_spells : (m : Msg) → is_in_range m ≡ true → of_data (status_of m) (drop 1 (message_bytes m)) ≡ Some m
data_spells (On channel key velocity) fits =
    let a : channel < 16 = grind (arith, nat_tests) in
    let kind : (144 + channel) / 16 ≡ 9 = omega arith in
    let at : (144 + channel) % 16 ≡ channel = omega arith in
    ap (λ k. of_two k ((144 + channel) % 16) key velocity) kind ∙ ap (λ n. Some (On n key velocity)) at
data_spells (Off channel key) fits =
    let a : channel < 16 = grind (arith, nat_tests) in
    let kind : (128 + channel) / 16 ≡ 8 = omega arith in
    let at : (128 + channel) % 16 ≡ channel = omega arith in
    ap (λ k. of_two k ((128 + channel) % 16) key 64) kind ∙ ap (λ n. Some (Off n key)) at
data_spells (Control channel controller value) fits =
    let a : channel < 16 = grind (arith, nat_tests) in
    let kind : (176 + channel) / 16 ≡ 11 = omega arith in
    let at : (176 + channel) % 16 ≡ channel = omega arith in
    ap (λ k. of_two k ((176 + channel) % 16) controller value) kind ∙ ap (λ n. Some (Control n controller value)) at
data_spells (Program channel program) fits =
    let a : channel < 16 = grind (arith, nat_tests) in
    let kind : (192 + channel) / 16 ≡ 12 = omega arith in
    let at : (192 + channel) % 16 ≡ channel = omega arith in
    ap (λ k. of_one k ((192 + channel) % 16) program) kind ∙ ap (λ n. Some (Program n program)) at
data_spells (Bend channel bend) fits =
    let a : channel < 16 = grind (arith, nat_tests) in
    let kind : (224 + channel) / 16 ≡ 14 = omega arith in
    let at : (224 + channel) % 16 ≡ channel = omega arith in
    let whole : bend % 128 + 128 * (bend / 128) ≡ bend = omega arith in
    ap (λ k. of_two k ((224 + channel) % 16) (bend % 128) (bend / 128)) kind
    ∙ ap (λ n. Some (Bend n (bend % 128 + 128 * (bend / 128)))) at ∙ ap (λ b. Some (Bend channel b)) whole

-- the status byte is passed over
past_status : (m : Msg) → data_bytes (message_bytes m) ≡ drop 1 (message_bytes m)
past_status (On channel key velocity) = rw (le-ltb (144 + channel) 128 (omega arith)) refl
past_status (Off channel key) = rw (le-ltb (128 + channel) 128 (omega arith)) refl
past_status (Control channel controller value) = rw (le-ltb (176 + channel) 128 (omega arith)) refl
past_status (Program channel program) = rw (le-ltb (192 + channel) 128 (omega arith)) refl
past_status (Bend channel bend) = rw (le-ltb (224 + channel) 128 (omega arith)) refl

-- data bytes stay
data_stays : (m : Msg) → is_in_range m ≡ true → data_bytes (drop 1 (message_bytes m)) ≡ drop 1 (message_bytes m)
data_stays (On channel key velocity) fits = let a : key < 128 = grind (arith, nat_tests) in rw (lt-ltb key 128 a) refl
data_stays (Off channel key) fits = let a : key < 128 = grind (arith, nat_tests) in rw (lt-ltb key 128 a) refl
data_stays (Control channel controller value) fits = let a : controller < 128 = grind (arith, nat_tests) in
    rw (lt-ltb controller 128 a) refl
data_stays (Program channel program) fits = let a : program < 128 = grind (arith, nat_tests) in rw (lt-ltb program 128 a) refl
data_stays (Bend channel bend) fits = rw (lt-ltb (bend % 128) 128 (omega arith)) refl

-- a message in range is decoded, with its status byte or without it
pub whole_is_decoded : (m : Msg) → is_in_range m ≡ true → message_from (status_of m) (message_bytes m) ≡ Some m
unfolding message_from
whole_is_decoded m fits =
    ap (λ z. in_range (of_data (status_of m) z)) (past_status m) ∙ ap in_range (data_spells m fits)
    ∙ ap (λ b. cond b (Some m) None) fits

pub data_is_decoded : (m : Msg) → is_in_range m ≡ true → message_from (status_of m) (drop 1 (message_bytes m)) ≡ Some m
unfolding message_from
data_is_decoded m fits =
    ap (λ z. in_range (of_data (status_of m) z)) (data_stays m fits) ∙ ap in_range (data_spells m fits)
    ∙ ap (λ b. cond b (Some m) None) fits

-- whichever way it stands in a track
pub shown_is_decoded : (short : Bool) (m : Msg) → is_in_range m ≡ true →
    message_from (status_of m) (drop (cond short 1 0) (message_bytes m)) ≡ Some m
shown_is_decoded true m fits = data_is_decoded m fits
shown_is_decoded false m fits = whole_is_decoded m fits
