-- The rules of the command line, for any table of options: how words are cut into parts, and what
-- the parts have to keep to.
use Rattle.std.specs.Prelude.{ℕ, Bool, true, false, not, ◌==◌, ◌&&◌, ◌||◌, ◌+◌, ◌*◌, ◌-◌, nat_le}
use Rattle.std.specs.Prelude.{List, [], ◌∷◌, map, length, find, Option, Some, None, option_and_then}
use Rattle.std.specs.Prelude.{if◌then◌else◌, codes}
use Rattle.std.specs.List.{after_first, before_first, list_all, list_any}
use Rattle.std.specs.Option.{option_map_or}
use Rattle.std.specs.Str.{bytes_eq}

-- the bytes of a word
abbrev pub Word : Type 0
Word = List ℕ

-- ---- the table

-- what an option takes: no value, or a number from the first bound to the second
pub data Takes : Type 0 where
  nothing : Takes
  number : ℕ → ℕ → Takes

-- an option by its name, which stands behind two hyphens
pub record Choice : Type 0 where
  pub name : Word
  pub takes : Takes

-- the option of a name
abbrev pub choice_of : List Choice → Word → Option Choice
choice_of table name = find (λ choice. bytes_eq choice.name name) table

-- no two options have one name
abbrev pub names_differ : List Choice → Bool
names_differ [] = true
names_differ (choice ∷ table) =
    not (list_any (λ other. bytes_eq other.name choice.name) table) && names_differ table

-- the options differ by name from each other and from the two files
abbrev pub is_table : List Choice → Bool
is_table table = names_differ table && list_all (λ choice.
    not (bytes_eq (codes "IN") choice.name) && not (bytes_eq (codes "OUT") choice.name)) table

-- ---- the parts of a line of words

-- what one word is, or two: the name of a file, a flag, an option with the text of its number, an
-- option that has no text for its number, or another word that begins with a hyphen
pub data Part : Type 0 where
  file : Word → Part
  flag : Word → Part
  valued : Word → Word → Part
  unvalued : Word → Part
  stray : Word → Part

-- the word begins with a hyphen (45) and is more than that
abbrev pub is_dashed : Word → Bool
is_dashed [] = false
is_dashed (byte ∷ []) = false
is_dashed (byte ∷ next ∷ bytes) = byte == 45

-- what follows two hyphens, where something does
abbrev pub behind_hyphens : Word → Option Word
behind_hyphens (first ∷ second ∷ byte ∷ bytes) =
    if first == 45 && second == 45 then Some (byte ∷ bytes) else None
behind_hyphens _ = None

-- `=` (61)
abbrev pub is_equals : ℕ → Bool
is_equals byte = byte == 61

-- what stands behind the first `=`, where there is one
abbrev pub value_in : Word → Option Word
value_in text = if list_any is_equals text then Some (after_first is_equals text) else None

-- what a word is by itself: a part, or an option whose number is the next word
pub data Reading : Type 0 where
  whole : Part → Reading
  awaits : Word → Reading

-- an option with what is attached to it: a flag takes nothing
abbrev pub chosen_by : Word → Choice → Option Word → Reading
chosen_by word choice attached = elim choice.takes as (λ _. Reading) [
  | nothing ↦ option_map_or (λ value. whole (stray word)) attached (whole (flag choice.name))
  | number low high ↦
      option_map_or (λ value. whole (valued choice.name value)) attached (awaits choice.name)
]

-- `--name` or `--name=value` of an option of the table; any other is a stray word
abbrev pub dashed : List Choice → Word → Reading
dashed table word = option_map_or (λ text.
    option_map_or (λ choice. chosen_by word choice (value_in text))
    (choice_of table (before_first is_equals text)) (whole (stray word)))
    (behind_hyphens word) (whole (stray word))

-- a word that no option waits for, and that is not `--`
abbrev pub reading : List Choice → Word → Reading
reading table word = if is_dashed word then dashed table word else whole (file word)

-- the part that a word is, and the parts after it
abbrev pub with_reading : Reading → (Option Word → List Part) → List Part
with_reading (whole part) rest = part ∷ rest None
with_reading (awaits name) rest = rest (Some name)

-- the parts of words, where an option may wait for its number: that is the next word, unless it
-- begins with a hyphen and is more than that; behind a word `--` all words are names of files
unfoldable pub parts_after : List Choice → Option Word → List Word → List Part
parts_after table None [] = []
parts_after table (Some name) [] = unvalued name ∷ []
parts_after table (Some name) (word ∷ words) =
    (if is_dashed word then unvalued name else valued name word) ∷ parts_after table None words
parts_after table None (word ∷ words) =
    if bytes_eq word (codes "--") then map (λ w. file w) words
    else with_reading (reading table word) (λ waiting. parts_after table waiting words)

-- the parts of a line of words
abbrev pub parts_of : List Choice → List Word → List Part
parts_of table words = parts_after table None words

-- ---- what is found in the parts

-- the names of files, in their order
abbrev pub files_in : List Part → List Word
files_in [] = []
files_in (file word ∷ parts) = word ∷ files_in parts
files_in (part ∷ parts) = files_in parts

-- whether a flag stands there
abbrev pub has_flag_named : Word → List Part → Bool
has_flag_named name [] = false
has_flag_named name (flag other ∷ parts) = bytes_eq other name || has_flag_named name parts
has_flag_named name (part ∷ parts) = has_flag_named name parts

-- the text of an option's number, where the option stands there
abbrev pub text_for : Word → List Part → Option Word
text_for name [] = None
text_for name (valued other text ∷ parts) =
    if bytes_eq other name then Some text else text_for name parts
text_for name (part ∷ parts) = text_for name parts

-- ---- numbers

-- a decimal digit, `0` (48) to `9` (57)
abbrev pub is_digit : ℕ → Bool
is_digit byte = nat_le 48 byte && nat_le byte 57

-- the number that digits write behind those of n
abbrev pub digits_behind : ℕ → Word → Option ℕ
digits_behind n [] = Some n
digits_behind n (byte ∷ bytes) =
    if is_digit byte then digits_behind (n * 10 + (byte - 48)) bytes else None

-- one digit or more
abbrev pub digits_in : Word → Option ℕ
digits_in [] = None
digits_in (byte ∷ bytes) = digits_behind 0 (byte ∷ bytes)

-- the number of a text: decimal digits, with at most one `+` (43) before them
abbrev pub number_of_text : Word → Option ℕ
number_of_text [] = None
number_of_text (byte ∷ bytes) = if byte == 43 then digits_in bytes else digits_in (byte ∷ bytes)

-- the number, where it lies from `low` to `high`
abbrev pub number_within : ℕ → ℕ → Word → Option ℕ
number_within low high text = option_and_then (λ n.
    if nat_le low n && nat_le n high then Some n else None) (number_of_text text)

-- ---- the rules

-- exactly two names of files
abbrev pub has_two_files : List Part → Bool
has_two_files parts = length (files_in parts) == 2

-- an option is one of those that stood before
abbrev pub is_seen : Word → List Word → Bool
is_seen name seen = list_any (λ other. bytes_eq other name) seen

-- each option at most once: none stands behind itself, or is one of those seen before
abbrev pub has_each_once : List Word → List Part → Bool
has_each_once seen [] = true
has_each_once seen (flag name ∷ parts) =
    not (is_seen name seen) && has_each_once (name ∷ seen) parts
has_each_once seen (valued name text ∷ parts) =
    not (is_seen name seen) && has_each_once (name ∷ seen) parts
has_each_once seen (part ∷ parts) = has_each_once seen parts

-- each option has the value that it needs, and nothing else begins with a hyphen before `--`
abbrev pub is_known : Part → Bool
is_known (unvalued name) = false
is_known (stray word) = false
is_known part = true

-- the rules that do not look at numbers
abbrev pub is_in_form : List Part → Bool
is_in_form parts = list_all is_known parts && (has_each_once [] parts && has_two_files parts)

-- the number that is given for an option lies in its range
abbrev pub is_in_range : List Part → Choice → Bool
is_in_range parts choice = elim choice.takes as (λ _. Bool) [
  | nothing ↦ true
  | number low high ↦ option_map_or (λ text.
      option_map_or (λ n. true) (number_within low high text) false)
      (text_for choice.name parts) true
]

-- all of the rules
abbrev pub keeps_rules : List Choice → List Part → Bool
keeps_rules table parts = is_in_form parts && list_all (is_in_range parts) table
