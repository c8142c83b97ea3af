-- Defaults have no fault, and add to the rows what no flag and no number shows.
use Rattle.std.proofs.Common.{◌≡◌, ◌∙◌, ◌&&◌, ◌||◌, ℕ, Bool, true, false, cond, not, List, [], ◌∷◌, ◌++◌, Option, Some, None, option_and_then, refl, ap, subst, codes, if◌then◌else◌}
use Rattle.std.specs.Prelude.{slice_get}
use Rattle.std.specs.List.{fold, list_all, list_any}
use Rattle.std.specs.Str.{bytes_eq}
use Rattle.std.proofs.lemmas.Slice.Eq.{bytes_eq-Decides}
use Rattle.clap.specs.Faults.{default_fault, defaults_fault}
use Rattle.clap.specs.Walk.{Row, Rule, Text, first_of, has_row, more_values, with_default}
use Rattle.clap.specs.Values.{reading_of}
use Rattle.clap.specs.declared.builder.value_parser.ValueParser.TheVariants as parser
use Rattle.clap.specs.declared.parser.matches.ValueSource.TheVariants.{DefaultValue}
use Rattle.fm_words.specs.Rules.{Choice, Takes, Word, choice_of, names_differ, nothing, number}
use Rattle.fm_words.specs.Settings.{has_flag}
use Rattle.fm_words.proofs.TableLemmas.{in_rule, option_rule, option_rules, out_rule, rules_for}
use Rattle.fm_words.proofs.UseLemmas.{at_no_row, choice_with}
use Rattle.fm_words.proofs.RowLemmas.{row_at}
use Rattle.fm_words.proofs.WalkParts.{other_way}
use Rattle.fm_words.proofs.WalkViews.{both_parts, is_not}

-- no flag of the table has the name
abbrev pub NoFlag : Word → List Choice → Type 0
NoFlag name [] = Unit {0}
NoFlag name (choice ∷ table) = (choice.takes ≡ nothing → bytes_eq choice.name name ≡ false) × NoFlag name table

-- no flag has the name of a file
pub no_flag_file : (file_id : Text) (table : List Choice) → ((choice : Choice)
    → (not (bytes_eq (codes "IN") choice.name) && not (bytes_eq (codes "OUT") choice.name)) ≡ true → bytes_eq file_id choice.name ≡ false)
    → list_all (λ (choice : Choice). not (bytes_eq (codes "IN") choice.name) && not (bytes_eq (codes "OUT") choice.name)) table ≡ true
    → NoFlag file_id table
no_flag_file file_id [] apart all = tt
no_flag_file file_id (choice ∷ table) apart all = (
  λ _. other_way file_id choice.name
      (apart choice (both_parts _ _ all).0),
  no_flag_file file_id table apart (both_parts _ _ all).1,
)

no_more : (name : Word) (table : List Choice) → list_any (λ (other : Choice). bytes_eq other.name name) table ≡ false → NoFlag name table
no_more name [] none = tt
no_more name (choice ∷ table) none = go (bytes_eq choice.name name) refl none (no_more name table)
  where
    go : (b : Bool) → bytes_eq choice.name name ≡ b → (b || list_any (λ (other : Choice). bytes_eq other.name name) table) ≡ false
        → (list_any (λ (other : Choice). bytes_eq other.name name) table ≡ false → NoFlag name table) → NoFlag name (choice ∷ table)
    go true is none more = cc
    go false is none more = (λ _. is, more none)

-- nor that of an option with a number
pub no_flag_number : (name : Word) (low high : ℕ) (table : List Choice) → names_differ table ≡ true → choice_of table name
    ≡ Some (choice_with name (number low high)) → NoFlag name table
no_flag_number name low high [] differ found = tt
no_flag_number name low high (choice ∷ table) differ found = go (bytes_eq choice.name name) refl found
    (no_flag_number name low high table (both_parts _ _ differ).1)
  where
    go : (b : Bool) → bytes_eq choice.name name ≡ b → cond b (Some choice) (choice_of table name)
        ≡ Some (choice_with name (number low high))
        → (choice_of table name ≡ Some (choice_with name (number low high)) → NoFlag name table) → NoFlag name (choice ∷ table)
    go true is found more =
        let same : choice ≡ choice_with name (number low high) = cc in
        let takes : choice.takes ≡ number low high = ap (λ (c : Choice). c.takes) same in
        let own : choice.name ≡ name = ap (λ (c : Choice). c.name) same in (
          λ flagged. cc,
          no_more name table (subst (λ (n : Word). list_any (λ (other : Choice). bytes_eq other.name n) table
              ≡ false) own (is_not _ (both_parts _ _ differ).0)),
        )
    go false is found more = (λ _. is, more found)

-- one row more, of another name
row_at_more : (name : Text) (rows : List Row) (row : Row) → bytes_eq row.id name ≡ false → row_at name (rows ++ row ∷ []) ≡ row_at name rows
row_at_more name [] row other = rw other refl
row_at_more name (r ∷ rows) row other = ap (λ (rest : Option Row). cond (bytes_eq r.id name) (Some r) rest)
    (row_at_more name rows row other)

abbrev default_row : Text → Row
default_row name = record {
  id = name;
  values = codes "false" ∷ [];
  count = None;
  source = Some DefaultValue;
  reading = reading_of parser.Bool;
}

-- a flag that is not there gets a row
flag_default : (name : Text) (rows : List Row) → with_default rows (option_rule (choice_with name nothing))
    ≡ (if has_row name rows then rows else rows ++ default_row name ∷ [])
flag_default name rows = go (has_row name rows) refl
  where
    go : (b : Bool) → has_row name rows ≡ b → with_default rows (option_rule (choice_with name nothing))
        ≡ (if b then rows else rows ++ default_row name ∷ [])
    go true is = rw is refl
    go false is = rw is (at_no_row name (more_values DefaultValue (codes "false" ∷ [])) (default_row name ∷ []) rows is)

number_default : (name : Text) (low high : ℕ) (rows : List Row) → with_default rows (option_rule (choice_with name (number low high)))
    ≡ rows
number_default name low high rows = go (has_row name rows) refl
  where
    go : (b : Bool) → has_row name rows ≡ b → with_default rows (option_rule (choice_with name (number low high))) ≡ rows
    go true is = rw is refl
    go false is = rw is refl

file_default : (rule : Rule) (rows : List Row) → rule.defaults ≡ [] → with_default rows rule ≡ rows
file_default rule rows none = go (has_row rule.id rows) refl
  where
    go : (b : Bool) → has_row rule.id rows ≡ b → with_default rows rule ≡ rows
    go true is = rw is refl
    go false is = rw (is, none) refl

no_row : (name : Text) (rows : List Row) → has_row name rows ≡ false → row_at name rows ≡ None
no_row name [] none = refl
no_row name (row ∷ rows) none = go (bytes_eq row.id name) refl none (no_row name rows)
  where
    go : (b : Bool) → bytes_eq row.id name ≡ b → (b || has_row name rows) ≡ false → (has_row name rows ≡ false → row_at name rows ≡ None)
        → row_at name (row ∷ rows) ≡ None
    go true is none more = cc
    go false is none more = rw is (more none)

row_at_last : (name : Text) (rows : List Row) (row : Row) → row_at name rows ≡ None → bytes_eq row.id name ≡ true
    → row_at name (rows ++ row ∷ []) ≡ Some row
row_at_last name [] row none is = rw is refl
row_at_last name (r ∷ rows) row none is = go (bytes_eq r.id name) refl none (row_at_last name rows row)
  where
    go : (b : Bool) → bytes_eq r.id name ≡ b → cond b (Some r) (row_at name rows) ≡ None
        → (row_at name rows ≡ None → bytes_eq row.id name ≡ true → row_at name (rows ++ row ∷ []) ≡ Some row)
        → cond (bytes_eq r.id name) (Some r) (row_at name (rows ++ row ∷ [])) ≡ Some row
    go true r_is none more = cc
    go false r_is none more = rw r_is (more none is)

-- a row by its name is the same behind the defaults, where no flag has the name
one_kept : (name own : Word) (takes : Takes) (rows : List Row) → (takes ≡ nothing → bytes_eq own name ≡ false)
    → row_at name (with_default rows (option_rule (choice_with own takes))) ≡ row_at name rows
one_kept name own (number low high) rows apart = ap (row_at name) (number_default own low high rows)
one_kept name own nothing rows apart = ap (row_at name) (flag_default own rows) ∙ go (has_row own rows)
  where
    go : (b : Bool) → row_at name (if b then rows else rows ++ default_row own ∷ []) ≡ row_at name rows
    go true = refl
    go false = row_at_more name rows (default_row own) (apart refl)

options_kept : (name : Word) (table : List Choice) (rows : List Row) → NoFlag name table
    → row_at name (fold with_default rows (option_rules table)) ≡ row_at name rows
options_kept name [] rows none = refl
options_kept name (choice ∷ table) rows none = options_kept name table _ none.1 ∙ one_kept name choice.name choice.takes rows none.0

files_kept : (table : List Choice) (rows : List Row) → fold with_default rows (rules_for table)
    ≡ fold with_default rows (option_rules table)
files_kept table rows = ap (λ (r : List Row). fold with_default r (option_rules table))
    (file_default out_rule (with_default rows in_rule) refl ∙ file_default in_rule rows refl)

-- the same behind the defaults of all arguments
pub row_kept : (name : Word) (table : List Choice) (rows : List Row) → NoFlag name table
    → row_at name (fold with_default rows (rules_for table)) ≡ row_at name rows
row_kept name table rows none = ap (row_at name) (files_kept table rows) ∙ options_kept name table rows none

-- and no flag is taken for given by its default
one_flag : (name own : Word) (takes : Takes) (rows : List Row) → has_flag
    (first_of name (with_default rows (option_rule (choice_with own takes)))) ≡ has_flag (first_of name rows)
one_flag name own (number low high) rows = ap (λ (r : List Row). has_flag (first_of name r)) (number_default own low high rows)
one_flag name own nothing rows = ap (λ (r : List Row). has_flag (first_of name r)) (flag_default own rows) ∙ go (has_row own rows) refl
  where
    by_name : (b : Bool) → bytes_eq own name ≡ b → has_row own rows ≡ false → has_flag (first_of name (rows ++ default_row own ∷ []))
        ≡ has_flag (first_of name rows)
    by_name false other none = ap (λ (r : Option Row). has_flag (option_and_then (λ (x : Row). slice_get x.values 0) r))
        (row_at_more name rows (default_row own) other)
    by_name true is none =
        let same : own ≡ name = (bytes_eq-Decides own name).0 is in
        let before = no_row name rows (subst (λ (n : Word). has_row n rows ≡ false) same none) in
        rw (row_at_last name rows (default_row own) before is, before) refl

    go : (b : Bool) → has_row own rows ≡ b → has_flag (first_of name (if b then rows else rows ++ default_row own ∷ []))
        ≡ has_flag (first_of name rows)
    go true is = refl
    go false none = by_name (bytes_eq own name) refl none

options_flag : (name : Word) (table : List Choice) (rows : List Row) → has_flag
    (first_of name (fold with_default rows (option_rules table))) ≡ has_flag (first_of name rows)
options_flag name [] rows = refl
options_flag name (choice ∷ table) rows = options_flag name table _ ∙ one_flag name choice.name choice.takes rows

-- and of all of them
pub flag_kept : (name : Word) (table : List Choice) (rows : List Row) → has_flag
    (first_of name (fold with_default rows (rules_for table))) ≡ has_flag (first_of name rows)
flag_kept name table rows = ap (λ (r : List Row). has_flag (first_of name r)) (files_kept table rows) ∙ options_flag name table rows

-- ---- faults of defaults

one_fault : (name : Word) (takes : Takes) (rows : List Row) → default_fault rows (option_rule (choice_with name takes)) ≡ []
one_fault name (number low high) rows = go (has_row name rows) refl
  where
    go : (b : Bool) → has_row name rows ≡ b → default_fault rows (option_rule (choice_with name (number low high))) ≡ []
    go true is = rw is refl
    go false is = rw is refl
one_fault name nothing rows = go (has_row name rows) refl
  where
    go : (b : Bool) → has_row name rows ≡ b → default_fault rows (option_rule (choice_with name nothing)) ≡ []
    go true is = rw is refl
    go false is = rw is refl

options_fault : (table : List Choice) (rows : List Row) → defaults_fault rows (option_rules table) ≡ []
unfolding defaults_fault
options_fault [] rows = refl
options_fault (choice ∷ table) rows = rw (one_fault choice.name choice.takes rows) (options_fault table _)

file_fault : (rule : Rule) (rows : List Row) → rule.defaults ≡ [] → default_fault rows rule ≡ []
file_fault rule rows none = go (has_row rule.id rows) refl
  where
    go : (b : Bool) → has_row rule.id rows ≡ b → default_fault rows rule ≡ []
    go true is = rw is refl
    go false is = rw (is, none) refl

-- the defaults of the whole command have no fault
pub no_default_fault : (table : List Choice) (rows : List Row) → defaults_fault rows (rules_for table) ≡ []
unfolding defaults_fault
no_default_fault table rows = rw (file_fault in_rule rows refl, file_fault out_rule (with_default rows in_rule) refl)
    (options_fault table _)
