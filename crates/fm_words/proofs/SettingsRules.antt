-- What the contract says that words ask for is what they ask for by the rules.
use Rattle.std.proofs.Common.{◌≡◌, ◌∙◌, ◌^◌, ◌<◌, ◌&&◌, ℕ, Bool, true, false, zero, suc, List, [], ◌∷◌, map, Option, Some, None, option_and_then, option_map, refl, ap, arith, codes, if◌then◌else◌}
use Rattle.std.specs.Prelude.{String, nat_le, slice_index_or, string_bytes, unwrap_or}
use Rattle.std.proofs.lemmas.Str.{IsUtf8-string_bytes}
use Rattle.std.specs.List.{All, list_all}
use Rattle.std.specs.Option.{option_map_or}
use Rattle.std.specs.Str.{IsUtf8}
use Rattle.clap.specs.Faults.{fault_of}
use Rattle.clap.specs.Words.{App, matches_of}
use Rattle.fm_words.specs.Asked.{number_for, options, settings_by_rules, settings_in_parts}
use Rattle.fm_words.specs.Command.{command, command_of}
use Rattle.fm_words.specs.Follows.{FindsParts, FollowsRules}
use Rattle.fm_words.specs.Rules.{Part, Word, files_in, has_flag_named, is_in_form, is_in_range, is_table, keeps_rules, number_of_text, number_within, parts_of, text_for}
use Rattle.fm_words.specs.Settings.{Settings, has_fault, number_if_any, number_or, settings_in, settings_of}
use Rattle.fm_words.specs.declared.limits.TheConstants.{DEFAULT_LEAD, DEFAULT_PROCESS, DEFAULT_ROOM, DEFAULT_WORKERS, MAX_GENERATE, MAX_LEAD, MAX_PROCESS, MAX_ROOM, MAX_TICK_ASKED, MAX_WORKERS, MIN_ROOM}
use Rattle.fm_words.proofs.CommandRules.{follows}
use Rattle.fm_words.proofs.RuleNumbers.{number_same}

options_are_a_table : is_table options ≡ true
options_are_a_table = refl

command_is : command ≡ command_of options
unfolding command
command_is = refl

-- ---- numbers that are given or not

abbrev given_in : ℕ → ℕ → Option Word → Bool
given_in low high given = option_map_or (λ text. option_map_or (λ n. true) (number_within low high text) false) given true

-- a number that lies in a range
abbrev ranged : ℕ → ℕ → Option ℕ → Option ℕ
ranged low high = option_and_then (λ n. if nat_le low n && nat_le n high then Some n else None)

abbrev is_there : Option ℕ → Bool
is_there number = option_map_or (λ n. true) number false

-- it is the number of its text
by_range : (low high : ℕ) (number : Option ℕ) → ranged low high number
    ≡ (if is_there (ranged low high number) then number else None)
by_range low high None = refl
by_range low high (Some n) = go (nat_le low n && nat_le n high)
  where
    go : (b : Bool) → (if b then Some n else None) ≡ (if option_map_or (λ k. true) (if b then Some n else None) false then Some n else None)
    go true = refl
    go false = refl

-- a number in a range is there
some_number : (low high default : ℕ) (number : Option ℕ) → (if is_there (ranged low high number) then number else None)
    ≡ (if is_there (ranged low high number) then Some (unwrap_or number default) else None)
some_number low high default None = refl
some_number low high default (Some n) = refl

or_default : (low high default : ℕ) (given : Option Word) → high < 2 ^ 64
    → number_or low high default given ≡ (if given_in low high given
    then Some (unwrap_or (option_and_then number_of_text given) default) else None)
or_default low high default None fits = refl
or_default low high default (Some text) fits = number_same low high text fits ∙ by_range low high (number_of_text text)
    ∙ some_number low high default (number_of_text text)

if_some : (b : Bool) (number : Option ℕ) → option_map (λ n. Some n) (if b then number else None)
    ≡ (if b then option_map (λ n. Some n) number else None)
if_some true number = refl
if_some false number = refl

some_more : (low high : ℕ) (number : Option ℕ) → (if is_there (ranged low high number) then option_map (λ n. Some n) number else None)
    ≡ (if is_there (ranged low high number) then Some number else None)
some_more low high None = refl
some_more low high (Some n) = refl

if_any : (low high : ℕ) (given : Option Word) → high < 2 ^ 64
    → number_if_any low high given ≡ (if given_in low high given then Some (option_and_then number_of_text given) else None)
if_any low high None fits = refl
if_any low high (Some text) fits =
    ap (option_map (λ n. Some n)) (number_same low high text fits ∙ by_range low high (number_of_text text))
    ∙ if_some _ (number_of_text text) ∙ some_more low high (number_of_text text)

-- ---- the settings

-- the settings of parts, but for their numbers
abbrev made : List Part → ℕ → ℕ → ℕ → Option ℕ → Option ℕ → ℕ → Option ℕ → Option ℕ → Settings
made parts workers lead room generate locate process first last = record {
  source = slice_index_or (files_in parts) 0 [];
  target = slice_index_or (files_in parts) 1 [];
  workers = workers;
  lead = lead;
  room = room;
  generate = generate;
  rounds = has_flag_named (codes "rounds") parts;
  list = has_flag_named (codes "list") parts;
  parts = has_flag_named (codes "parts") parts;
  locate = locate;
  process = process;
  from = first;
  to = last;
  recorded = has_flag_named (codes "record") parts;
  audited = has_flag_named (codes "audit") parts;
}

-- eight numbers one after the other, each none where its test fails
in_turn : (a b c d e f g h : Bool) (parts : List Part) (workers lead room process : ℕ) (generate locate first last : Option ℕ)
    → option_and_then (λ w. option_and_then (λ l. option_and_then (λ r. option_and_then (λ n. option_and_then (λ t. option_and_then
    (λ p. option_and_then (λ x. option_map (λ y. made parts w l r n t p x y)
    (if h then Some last else None)) (if g then Some first else None))
    (if f then Some process else None)) (if e then Some locate else None)) (if d then Some generate else None))
    (if c then Some room else None)) (if b then Some lead else None)) (if a then Some workers else None)
    ≡ (if a && (b && (c && (d && (e && (f && (g && (h && true)))))))
    then Some (made parts workers lead room generate locate process first last) else None)
in_turn true true true true true true true true parts workers lead room process generate locate first last = refl
in_turn true true true true true true true false parts workers lead room process generate locate first last = refl
in_turn true true true true true true false h parts workers lead room process generate locate first last = refl
in_turn true true true true true false g h parts workers lead room process generate locate first last = refl
in_turn true true true true false f g h parts workers lead room process generate locate first last = refl
in_turn true true true false e f g h parts workers lead room process generate locate first last = refl
in_turn true true false d e f g h parts workers lead room process generate locate first last = refl
in_turn true false c d e f g h parts workers lead room process generate locate first last = refl
in_turn false b c d e f g h parts workers lead room process generate locate first last = refl

module _ (words : List Word) where
  abbrev parts : List Part
  parts = parts_of options words

  in_form_settings : FindsParts options words → settings_in (matches_of (command_of options) words)
      ≡ (if list_all (is_in_range parts) options then Some (settings_in_parts parts) else None)
  unfolding settings_in
  in_form_settings finds =
      rw (
        finds.source,
        finds.target,
        finds.numbers (codes "workers") 0 MAX_WORKERS refl,
        finds.numbers (codes "lead") 0 MAX_LEAD refl,
        finds.numbers (codes "room") MIN_ROOM MAX_ROOM refl,
        finds.numbers (codes "generate") 0 MAX_GENERATE refl,
        finds.numbers (codes "locate") 0 MAX_TICK_ASKED refl,
        finds.numbers (codes "process") 0 MAX_PROCESS refl,
        finds.numbers (codes "from") 0 MAX_TICK_ASKED refl,
        finds.numbers (codes "to") 0 MAX_TICK_ASKED refl,
        finds.flags (codes "rounds") refl,
        finds.flags (codes "list") refl,
        finds.flags (codes "parts") refl,
        finds.flags (codes "record") refl,
        finds.flags (codes "audit") refl,
        or_default 0 MAX_WORKERS DEFAULT_WORKERS (text_for (codes "workers") parts) (omega arith),
        or_default 0 MAX_LEAD DEFAULT_LEAD (text_for (codes "lead") parts) (omega arith),
        or_default MIN_ROOM MAX_ROOM DEFAULT_ROOM (text_for (codes "room") parts) (omega arith),
        if_any 0 MAX_GENERATE (text_for (codes "generate") parts) (omega arith),
        if_any 0 MAX_TICK_ASKED (text_for (codes "locate") parts) (omega arith),
        or_default 0 MAX_PROCESS DEFAULT_PROCESS (text_for (codes "process") parts) (omega arith),
        if_any 0 MAX_TICK_ASKED (text_for (codes "from") parts) (omega arith),
        if_any 0 MAX_TICK_ASKED (text_for (codes "to") parts) (omega arith),
      )
      (in_turn (given_in 0 MAX_WORKERS (text_for (codes "workers") parts)) (given_in 0 MAX_LEAD (text_for (codes "lead") parts))
      (given_in MIN_ROOM MAX_ROOM (text_for (codes "room") parts)) (given_in 0 MAX_GENERATE (text_for (codes "generate") parts))
      (given_in 0 MAX_TICK_ASKED (text_for (codes "locate") parts)) (given_in 0 MAX_PROCESS (text_for (codes "process") parts))
      (given_in 0 MAX_TICK_ASKED (text_for (codes "from") parts)) (given_in 0 MAX_TICK_ASKED (text_for (codes "to") parts)) parts
      (unwrap_or (number_for (codes "workers") parts) DEFAULT_WORKERS) (unwrap_or (number_for (codes "lead") parts) DEFAULT_LEAD)
      (unwrap_or (number_for (codes "room") parts) DEFAULT_ROOM) (unwrap_or (number_for (codes "process") parts) DEFAULT_PROCESS)
      (number_for (codes "generate") parts) (number_for (codes "locate") parts) (number_for (codes "from") parts)
      (number_for (codes "to") parts))

  of_table : FollowsRules options words → (if has_fault (fault_of (command_of options) words) then None else settings_in
      (matches_of (command_of options) words)) ≡ settings_by_rules words
  unfolding settings_by_rules
  of_table f = go (is_in_form parts) refl
    where
      go : (b : Bool) → is_in_form parts ≡ b → (if has_fault (fault_of (command_of options) words) then None else settings_in
          (matches_of (command_of options) words))
          ≡ (if is_in_form parts && list_all (is_in_range parts) options then Some (settings_in_parts parts) else None)
      go true is = rw (f.faults, is) (in_form_settings (f.finds is))
      go false is = rw (f.faults, is) refl

  -- what words ask for is what they ask for by the rules
  pub settings_are : All IsUtf8 words → settings_of words ≡ settings_by_rules words
  unfolding settings_of
  settings_are texts =
      ap (λ (c : App). if has_fault (fault_of c words) then None else settings_in (matches_of c words)) command_is
      ∙ of_table (follows options words options_are_a_table texts)

  -- where they ask for nothing they break a rule
  pub broken_where_none : settings_by_rules words ≡ None → keeps_rules options parts ≡ false
  unfolding settings_by_rules
  broken_where_none none = go (keeps_rules options parts) none
    where
      go : (b : Bool) → (if b then Some (settings_in_parts parts) else None) ≡ None → b ≡ false
      go false none = refl
      go true none = cc

  -- and where they break one they ask for nothing
  pub none_where_broken : keeps_rules options parts ≡ false → settings_by_rules words ≡ None
  unfolding settings_by_rules
  none_where_broken broken = rw broken refl

-- the bytes of texts
pub all_texts : {Z : Type 0} (words : List (String Z)) → All IsUtf8 (map string_bytes words)
all_texts [] k d lt = absurd (omega arith)
all_texts (word ∷ words) zero d lt = IsUtf8-string_bytes word
all_texts (word ∷ words) (suc k) d lt = all_texts words k d (omega arith)
