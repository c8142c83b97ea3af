-- The messages of a table are the state of the channels, one after another.
use Rattle.std.proofs.Common.{◌≡◌, ℕ, ◌+◌, ◌*◌, ◌<◌, Bool, true, false, ◌&&◌, cond, nat_eq, List, [], ◌∷◌, ◌++◌, get_or, Option, Some, None, refl, sym, ◌∙◌, ap, arith, append_assoc}
use Rattle.std.specs.List.{flat_map}
use Rattle.std.specs.Option.{option_map, option_to_list}
use Rattle.std.proofs.lemmas.Bool.Decides.{nat_tests}
use Rattle.fm_msg.specs.declared.msg.Msg.{Msg}
use Rattle.fm_msg.specs.declared.msg.Msg.TheVariants.{On, Off, Control, Program, Bend}
use Rattle.fm_msg.specs.declared.msg.TheConstants.{CHANNELS}
use Rattle.fm_msg.specs.Message.{is_in_range}
use Rattle.fm_excerpt.specs.Last.{or_else, last_value, program_of, bend_of, control_of}
use Rattle.fm_excerpt.specs.Excerpt.{below, channel_state, state}
use Rattle.fm_excerpt.specs.Table.{at_slot, Holds, messages_of}
use Rattle.fm_excerpt.proofs.Below.{below_more, below_same, below_add, below_rows, below_none}
use Rattle.fm_excerpt.proofs.StateLemmas.{EachFits}

map_or : (g : ℕ → Msg) (x y : Option ℕ) → or_else (option_map g x) (option_map g y) ≡ option_map g (or_else x y)
map_or g (Some x) y = refl
map_or g None y = refl

-- the last of messages that are made of values is made of the last value
last_map : (f : Msg → Option Msg) (h : Msg → Option ℕ) (g : ℕ → Msg) (ms : List Msg) →
    ((m : Msg) → is_in_range m ≡ true → f m ≡ option_map g (h m)) → EachFits ms → last_value f ms ≡ option_map g (last_value h ms)
last_map f h g [] same fits = refl
last_map f h g (m ∷ ms) same fits =
    ap (λ z. or_else z (f m)) (last_map f h g ms same fits.1) ∙ ap (or_else (option_map g (last_value h ms))) (same m fits.0)
    ∙ map_or g (last_value h ms) (h m)

-- a message in a slot that is not asked for
elsewhere : (i j : ℕ) (m : Msg) → nat_eq i j ≡ false → cond (nat_eq i j) (Some m) None ≡ None
elsewhere i j m is = ap (λ t. cond t (Some m) None) is

program_slot : (c : ℕ) (m : Msg) → is_in_range m ≡ true → at_slot (c * 130 + 0) m ≡ option_map (Program c) (program_of c m)
program_slot c (On channel key velocity) fits = refl
program_slot c (Off channel key) fits = refl
program_slot c (Control channel controller value) fits =
    let low : controller < 128 = grind (arith, nat_tests) in
    elsewhere (channel * 130 + (1 + controller)) (c * 130 + 0) _ (grind (arith, nat_tests))
program_slot c (Program channel program) fits =
    let at : nat_eq (channel * 130) (c * 130 + 0) ≡ nat_eq channel c = grind (arith, nat_tests) in
    ap (λ t. cond t (Some (Program channel program)) None) at ∙ by_test (nat_eq channel c) refl
  where
    by_test : (b : Bool) → nat_eq channel c ≡ b →
        cond b (Some (Program channel program)) None ≡ option_map (Program c) (cond b (Some program) None)
    by_test true is = ap (λ n. Some (Program n program)) {x = channel} {y = c} (grind (arith, nat_tests))
    by_test false is = refl
program_slot c (Bend channel bend) fits = elsewhere (channel * 130 + (1 + 128)) (c * 130 + 0) _ (grind (arith, nat_tests))

control_slot : (c k : ℕ) → k < 128 → (m : Msg) → is_in_range m ≡ true →
    at_slot (c * 130 + (1 + k)) m ≡ option_map (Control c k) (control_of c k m)
control_slot c k small (On channel key velocity) fits = refl
control_slot c k small (Off channel key) fits = refl
control_slot c k small (Control channel controller value) fits =
    let low : controller < 128 = grind (arith, nat_tests) in
    let at : nat_eq (channel * 130 + (1 + controller)) (c * 130 + (1 + k)) ≡ (nat_eq channel c && nat_eq controller k) =
    grind (arith, nat_tests) in
    ap (λ t. cond t (Some (Control channel controller value)) None) at ∙ by_tests (nat_eq channel c) (nat_eq controller k) refl refl
  where
    by_tests : (a b : Bool) → nat_eq channel c ≡ a → nat_eq controller k ≡ b →
        cond (a && b) (Some (Control channel controller value)) None ≡ option_map (Control c k) (cond (a && b) (Some value) None)
    by_tests true true is also =
        ap (λ n. Some (Control n controller value)) {x = channel} {y = c} (grind (arith, nat_tests))
        ∙ ap (λ n. Some (Control c n value)) {x = controller} {y = k} (grind (arith, nat_tests))
    by_tests true false is also = refl
    by_tests false b is also = refl
control_slot c k small (Program channel program) fits = elsewhere (channel * 130) (c * 130 + (1 + k)) _ (grind (arith, nat_tests))
control_slot c k small (Bend channel bend) fits =
    elsewhere (channel * 130 + (1 + 128)) (c * 130 + (1 + k)) _ (grind (arith, nat_tests))

bend_slot : (c : ℕ) (m : Msg) → is_in_range m ≡ true → at_slot (c * 130 + (1 + 128)) m ≡ option_map (Bend c) (bend_of c m)
bend_slot c (On channel key velocity) fits = refl
bend_slot c (Off channel key) fits = refl
bend_slot c (Control channel controller value) fits =
    let low : controller < 128 = grind (arith, nat_tests) in
    elsewhere (channel * 130 + (1 + controller)) (c * 130 + (1 + 128)) _ (grind (arith, nat_tests))
bend_slot c (Program channel program) fits = elsewhere (channel * 130) (c * 130 + (1 + 128)) _ (grind (arith, nat_tests))
bend_slot c (Bend channel bend) fits =
    let at : nat_eq (channel * 130 + (1 + 128)) (c * 130 + (1 + 128)) ≡ nat_eq channel c = grind (arith, nat_tests) in
    ap (λ t. cond t (Some (Bend channel bend)) None) at ∙ by_test (nat_eq channel c) refl
  where
    by_test : (b : Bool) → nat_eq channel c ≡ b →
        cond b (Some (Bend channel bend)) None ≡ option_map (Bend c) (cond b (Some bend) None)
    by_test true is = ap (λ n. Some (Bend n bend)) {x = channel} {y = c} (grind (arith, nat_tests))
    by_test false is = refl

-- the slots of one channel
channel_slots : (slots : List (Option Msg)) (ms : List Msg) (c : ℕ) → c < CHANNELS → EachFits ms → Holds slots ms →
    flat_map (λ s. option_to_list (get_or slots (c * 130 + s) None)) (below 130) ≡ channel_state c ms
unfolding channel_state
channel_slots slots ms c lt fits holds =
    below_add held 1 129 ∙ ap (λ z. z ++ flat_map (λ k. held (1 + k)) (below 129)) (below_more held 0 ∙ ap (λ z. z ++ held 0)
    (below_none held))
    ∙ ap (λ z. held 0 ++ z) (below_more (λ k. held (1 + k)) 128)
    ∙ ap (λ z. z ++ (flat_map (λ k. held (1 + k)) (below 128) ++ held (1 + 128)))
    (ap option_to_list (holds (c * 130 + 0) (omega arith) ∙ last_map _ (program_of c) (Program c) ms (program_slot c) fits))
    ∙ ap (λ z. option_to_list (option_map (Program c) (last_value (program_of c) ms)) ++ (z ++ held (1 + 128)))
    (below_same (λ k. held (1 + k)) (λ k. option_to_list (option_map (Control c k) (last_value (control_of c k) ms))) 128
    (λ k small. ap option_to_list (holds (c * 130 + (1 + k)) (omega arith)
    ∙ last_map _ (control_of c k) (Control c k) ms (control_slot c k small) fits)))
    ∙ ap (λ z. option_to_list (option_map (Program c) (last_value (program_of c) ms))
    ++ (flat_map (λ k. option_to_list (option_map (Control c k) (last_value (control_of c k) ms))) (below 128) ++ z))
    (ap option_to_list (holds (c * 130 + (1 + 128)) (omega arith) ∙ last_map _ (bend_of c) (Bend c) ms (bend_slot c) fits))
    ∙ sym (append_assoc (option_to_list (option_map (Program c) (last_value (program_of c) ms)))
    (flat_map (λ k. option_to_list (option_map (Control c k) (last_value (control_of c k) ms))) (below 128))
    (option_to_list (option_map (Bend c) (last_value (bend_of c) ms))))
  where
    held : ℕ → List Msg
    held s = option_to_list (get_or slots (c * 130 + s) None)

-- the messages of the table
pub state_is : (slots : List (Option Msg)) (ms : List Msg) → EachFits ms → Holds slots ms → messages_of slots ≡ state ms
unfolding state
state_is slots ms fits holds =
    below_rows (λ i. option_to_list (get_or slots i None)) 130 16
    ∙ below_same _ _ 16 (λ c lt. channel_slots slots ms c lt fits holds)
