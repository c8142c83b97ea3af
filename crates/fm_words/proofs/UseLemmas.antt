-- What clap makes of one use of an argument of a table's command: its fault, and the rows after it.
use Rattle.std.proofs.Common.{◌≡◌, ◌∙◌, ◌||◌, ℕ, Bool, true, false, cond, List, [], ◌∷◌, ◌++◌, Some, None, option_map, refl, ap, codes, append-nil}
use Rattle.std.specs.Str.{bytes_eq}
use Rattle.clap.specs.Faults.{use_fault}
use Rattle.clap.specs.Kinds.{Kinds}
use Rattle.clap.specs.Values.{reading_of}
use Rattle.clap.specs.Walk.{Row, Text, arg_by_id, at_row, has_row, more_values, used, without}
use Rattle.clap.specs.declared.builder.value_parser.Reading.{Reading}
use Rattle.clap.specs.declared.builder.value_parser.ValueParser.TheVariants as parser
use Rattle.clap.specs.declared.parser.matches.ValueSource.TheVariants.{CommandLine}
use Rattle.fm_words.specs.Rules.{Choice, Takes, choice_of, nothing, number}
use Rattle.fm_words.specs.Settings.{has_fault}
use Rattle.fm_words.proofs.TableLemmas.{in_rule, option_by_id, option_rule, out_rule, rules_for}

-- ---- options of a table

-- an option by its name and what it takes
abbrev pub choice_with : Text → Takes → Choice
choice_with name takes = record { name = name; takes = takes }

-- the table has the option, which is none of the two files
pub record IsKnown (table : List Choice) (name : Text) (takes : Takes) : Type 0 where
  pub found : choice_of table name ≡ Some (choice_with name takes)
  pub no_source : bytes_eq (codes "IN") name ≡ false
  pub no_target : bytes_eq (codes "OUT") name ≡ false

-- the argument of an option that the table has
pub by_id : (table : List Choice) (name : Text) (takes : Takes) → IsKnown table name takes → arg_by_id (rules_for table) name
    ≡ Some (option_rule (choice_with name takes))
by_id table name takes known =
    rw (known.no_source, known.no_target) (option_by_id table name ∙ ap (option_map option_rule) known.found)

-- ---- rows

-- the row of a text or of a number, and of a flag
abbrev pub row_with : Text → Reading → Text → Row
row_with name how text = record {
  id = name;
  values = text ∷ [];
  count = None;
  source = Some CommandLine;
  reading = how;
}

-- of a text or a number
abbrev pub text_row : Text → Text → Row
text_row name text = row_with name (reading_of parser.String) text

-- of a flag
abbrev pub flag_row : Text → Row
flag_row name = row_with name (reading_of parser.Bool) (codes "true")

-- what is missing comes behind the others
pub at_no_row : (name : Text) (change : Row → List Row) (new rows : List Row) → has_row name rows ≡ false → at_row name change new rows
    ≡ rows ++ new
at_no_row name change new [] none = refl
at_no_row name change new (row ∷ rows) none = go (bytes_eq row.id name) refl none (at_no_row name change new rows)
  where
    go : (b : Bool) → bytes_eq row.id name ≡ b → (b || has_row name rows) ≡ false
        → (has_row name rows ≡ false → at_row name change new rows ≡ rows ++ new)
        → cond b (change row ++ rows) (row ∷ at_row name change new rows) ≡ row ∷ (rows ++ new)
    go true is none more = cc
    go false is none more = ap (λ (rest : List Row). row ∷ rest) (more none)

none_taken : (name : Text) (rows : List Row) → has_row name rows ≡ false → without name rows ≡ rows
none_taken name rows none = at_no_row name (λ _. []) [] rows none ∙ append-nil rows

-- the first use of a text or a number puts its row behind the others
row_added : (name : Text) (how : Reading) (text : Text) (rows : List Row) → has_row name rows ≡ false
    → at_row name (more_values CommandLine (text ∷ [])) (row_with name how text ∷ []) (without name rows)
    ≡ rows ++ row_with name how text ∷ []
row_added name how text rows none =
    rw (none_taken name rows none) (at_no_row name (more_values CommandLine (text ∷ [])) (row_with name how text ∷ []) rows none)

-- the first file
pub source_used : (text : Text) (rows : List Row) → has_row (codes "IN") rows ≡ false → used in_rule (text ∷ []) rows
    ≡ rows ++ text_row (codes "IN") text ∷ []
source_used text rows none = row_added (codes "IN") (reading_of parser.String) text rows none

-- the second
pub target_used : (text : Text) (rows : List Row) → has_row (codes "OUT") rows ≡ false → used out_rule (text ∷ []) rows
    ≡ rows ++ text_row (codes "OUT") text ∷ []
target_used text rows none = row_added (codes "OUT") (reading_of parser.String) text rows none

-- an option with a number
pub number_used : (name text : Text) (low high : ℕ) (rows : List Row) → has_row name rows ≡ false
    → used (option_rule (choice_with name (number low high))) (text ∷ []) rows ≡ rows ++ text_row name text ∷ []
number_used name text low high rows none = row_added name (reading_of parser.String) text rows none

-- a flag
pub flag_used : (name : Text) (rows : List Row) → has_row name rows ≡ false → used (option_rule (choice_with name nothing)) [] rows
    ≡ rows ++ flag_row name ∷ []
flag_used name rows none = row_added name (reading_of parser.Bool) (codes "true") rows none

-- ---- faults: an argument that has a row already

-- a fault exactly where there is a row already
abbrev pub IsRepeat : Bool → Kinds → Type 0
IsRepeat again kinds = (again ≡ false → kinds ≡ []) × (again ≡ true → has_fault kinds ≡ true)

-- of the first file
pub source_fault : (text : Text) (rows : List Row) → IsRepeat (has_row (codes "IN") rows) (use_fault false in_rule (text ∷ []) rows)
source_fault text rows = (λ is. rw is refl, λ is. rw is refl)

-- of the second
pub target_fault : (text : Text) (rows : List Row) → IsRepeat (has_row (codes "OUT") rows) (use_fault false out_rule (text ∷ []) rows)
target_fault text rows = (λ is. rw is refl, λ is. rw is refl)

-- of an option with a number
pub number_fault : (name text : Text) (low high : ℕ) (rows : List Row)
    → IsRepeat (has_row name rows) (use_fault false (option_rule (choice_with name (number low high))) (text ∷ []) rows)
number_fault name text low high rows = (λ is. rw is refl, λ is. rw is refl)

-- of a flag
pub flag_fault : (name : Text) (rows : List Row) → IsRepeat (has_row name rows)
    (use_fault false (option_rule (choice_with name nothing)) [] rows)
flag_fault name rows = (λ is. rw is refl, λ is. rw is refl)

-- an option that waits for its number and gets none
pub number_lacks : (name : Text) (low high : ℕ) (rows : List Row) → has_fault
    (use_fault false (option_rule (choice_with name (number low high))) [] rows) ≡ true
number_lacks name low high rows = refl
