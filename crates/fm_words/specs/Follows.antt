-- That the command of a table, as clap reads it, keeps to the rules.
use Rattle.std.specs.Prelude.{◌≡◌, ℕ, true, not, List, [], Some, codes, slice_index_or}
use Rattle.clap.specs.Faults.{fault_of}
use Rattle.clap.specs.Words.{first_of, matches_of}
use Rattle.fm_words.specs.Command.{command_of}
use Rattle.fm_words.specs.Rules.{Choice, Takes, Word, choice_of, files_in, has_flag_named, is_in_form, nothing, number, parts_of, text_for}
use Rattle.fm_words.specs.Settings.{has_fault, has_flag}

-- the table has an option of the name
abbrev pub Has : List Choice → Word → Takes → Type 0
Has table name takes = choice_of table name ≡ Some (record { name = name; takes = takes })

-- what the command finds in words that are in form: two names of files, the text of the number of
-- each option, and the flags
pub record FindsParts (table : List Choice) (words : List Word) : Type 0 where
  pub source : first_of (codes "IN") (matches_of (command_of table) words)
      ≡ Some (slice_index_or (files_in (parts_of table words)) 0 [])
  pub target : first_of (codes "OUT") (matches_of (command_of table) words)
      ≡ Some (slice_index_or (files_in (parts_of table words)) 1 [])
  pub numbers : (name : Word) (low high : ℕ) → Has table name (number low high)
      → first_of name (matches_of (command_of table) words) ≡ text_for name (parts_of table words)
  pub flags : (name : Word) → Has table name nothing
      → has_flag (first_of name (matches_of (command_of table) words))
      ≡ has_flag_named name (parts_of table words)

-- the command finds a fault exactly where the words are not in form, and else their parts
pub record FollowsRules (table : List Choice) (words : List Word) : Type 0 where
  pub faults : has_fault (fault_of (command_of table) words)
      ≡ not (is_in_form (parts_of table words))
  pub finds : is_in_form (parts_of table words) ≡ true → FindsParts table words
