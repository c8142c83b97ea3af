-- The command of a table keeps to the rules, at every list of texts.
use Rattle.std.proofs.Common.{◌≡◌, ◌∙◌, ◌&&◌, ◌||◌, ◌==◌, Bool, true, false, not, List, [], ◌∷◌, length, Option, Some, None, option_and_then, option_map, refl, sym, ap, ap₂, codes, arith, is_some}
use Rattle.std.specs.Prelude.{nat_le, slice_get, slice_index_or}
use Rattle.std.specs.List.{All, fold, list_all, list_any}
use Rattle.std.specs.Str.{IsUtf8}
use Rattle.std.proofs.lemmas.Bool.Decides.{nat_tests}
use Rattle.clap.specs.Faults.{built_fault, check_fault, defaults_fault, fault_of, level_fault, settle_fault, walk_fault}
use Rattle.clap.specs.Kinds.{Kinds, check_kinds, or_else}
use Rattle.clap.specs.Takes.{is_given}
use Rattle.clap.specs.Words.{App, matches_of}
use Rattle.clap.specs.Simple.{names_of}
use Rattle.clap.specs.Walk.{Row, Rule, Text, Walk, finished, first_of, idle, nothing_held, rows_after, settled, with_default}
use Rattle.clap.proofs.FaultLemmas.{leaf_fault}
use Rattle.fm_words.specs.Command.{command_of}
use Rattle.fm_words.specs.Follows.{FindsParts, FollowsRules}
use Rattle.fm_words.specs.Rules.{Choice, Takes, Word, files_in, has_each_once, has_two_files, is_in_form, is_known, is_table, nothing, number, parts_of}
use Rattle.fm_words.specs.Settings.{has_fault, has_flag}
use Rattle.fm_words.proofs.DefaultLemmas.{NoFlag, flag_kept, no_default_fault, no_flag_file, no_flag_number, row_kept}
use Rattle.fm_words.proofs.FormLemmas.{in_form, passes_form}
use Rattle.fm_words.proofs.RowLemmas.{OfKinds, first_word, flag_found, of_kinds, row_at, second_found, second_word, source_found, text_found}
use Rattle.fm_words.proofs.TableLemmas.{built_app, built_shape, command_built, option_rule, option_rules, rules_for}
use Rattle.fm_words.proofs.UseLemmas.{choice_with, text_row}
use Rattle.fm_words.proofs.WalkParts.{passes, rows_for}
use Rattle.fm_words.proofs.WalkRules.{words_read}
use Rattle.fm_words.proofs.WalkSteps.{Comes, Fails, Passes, before, ended}
use Rattle.fm_words.proofs.WalkViews.{both_parts, first, is_not, known_by}

-- ---- what is required

option_not_required : (choice : Choice) → (option_rule choice).required ≡ false
option_not_required choice = go choice.name choice.takes
  where
    go : (name : Text) (takes : Takes) → (option_rule (choice_with name takes)).required ≡ false
    go name nothing = refl
    go name (number low high) = refl

options_not_required : (rows : List Row) (table : List Choice) → list_any (λ (a : Rule). a.required && not (is_given a.id rows))
    (option_rules table) ≡ false
options_not_required rows [] = refl
options_not_required rows (choice ∷ table) = ap (λ b. (b && not (is_given (option_rule choice).id rows)) || list_any
    (λ (a : Rule). a.required && not (is_given a.id rows)) (option_rules table)) (option_not_required choice)
    ∙ options_not_required rows table

given_as : (name : Text) (word : Option Word) (rows : List Row) → row_at name rows ≡ option_map (text_row name) word → is_given name rows
    ≡ is_some word
given_as name None rows is = rw is refl
given_as name (Some word) rows is = rw is refl

two_given : (files : List Word) → nat_le (length files) 2 ≡ true → (not (is_some (first_word files)) ||
    (not (is_some (second_word files)) || false)) ≡ not (length files == 2)
two_given [] few = refl
two_given (a ∷ []) few = refl
two_given (a ∷ b ∷ []) few = refl
two_given (a ∷ b ∷ c ∷ files) few = absurd (grind (arith, nat_tests))

wanted : (b : Bool) → has_fault (check_kinds false false b) ≡ b
wanted true = refl
wanted false = refl

-- ---- faults

fault_goes_on : (a b more : Kinds) → has_fault (or_else a b) ≡ true → has_fault (or_else a (or_else b more)) ≡ true
fault_goes_on [] [] more is = cc
fault_goes_on [] (kind ∷ kinds) more is = refl
fault_goes_on (kind ∷ kinds) b more is = refl

module _ (table : List Choice) (words : List Word) (ok : is_table table ≡ true) (texts : All IsUtf8 words) where
  fault_is : fault_of (command_of table) words ≡ level_fault (built_shape table) [] nothing_held words false []
  fault_is = ap (λ (a : App). built_fault a nothing_held words) (command_built table) ∙ leaf_fault (built_app table) nothing_held words refl

  matches_are : matches_of (command_of table) words ≡ rows_after (rules_for table) [] words
  matches_are = ap (λ (a : App). rows_after a.top.rules (names_of a) words) (command_built table)

  kinds : OfKinds table (parts_of table words)
  kinds = of_kinds table words ok texts

  no_flag_source : NoFlag (codes "IN") table
  no_flag_source = no_flag_file (codes "IN") table (λ choice apart. is_not _ (both_parts _ _ apart).0) (both_parts _ _ ok).1

  no_flag_target : NoFlag (codes "OUT") table
  no_flag_target = no_flag_file (codes "OUT") table (λ choice apart. is_not _ (both_parts _ _ apart).1) (both_parts _ _ ok).1

  abbrev final : List Row
  final = fold with_default (rows_for first (parts_of table words)) (rules_for table)

  source_row : row_at (codes "IN") final ≡ option_map (text_row (codes "IN")) (first_word (files_in (parts_of table words)))
  source_row = row_kept (codes "IN") table (rows_for first (parts_of table words)) no_flag_source
      ∙ source_found table (parts_of table words) kinds

  target_row : row_at (codes "OUT") final ≡ option_map (text_row (codes "OUT")) (second_word (files_in (parts_of table words)))
  target_row = row_kept (codes "OUT") table (rows_for first (parts_of table words)) no_flag_target
      ∙ second_found table (parts_of table words) kinds

  check_is : nat_le (length (files_in (parts_of table words))) 2 ≡ true → has_fault (check_fault (built_shape table) final false)
      ≡ not (has_two_files (parts_of table words))
  check_is few = wanted _
      ∙ ap₂ (λ a b. not a || (not b || list_any (λ (r : Rule). r.required && not (is_given r.id final)) (option_rules table)))
      (given_as (codes "IN") _ final source_row) (given_as (codes "OUT") _ final target_row)
      ∙ ap (λ b. not (is_some (first_word (files_in (parts_of table words)))) ||
      (not (is_some (second_word (files_in (parts_of table words)))) || b)) (options_not_required final table)
      ∙ two_given (files_in (parts_of table words)) few

  -- ---- the walk has a fault

  abbrev walk_kinds : Kinds
  walk_kinds = walk_fault (built_shape table) [] (before [] None idle 1) words

  abbrev end : Walk
  end = ended table (before [] None idle 1) words

  abbrev late_kinds : Kinds
  late_kinds = settle_fault (rules_for table) false end.held

  abbrev more_kinds : Kinds
  more_kinds = or_else (defaults_fault (settled (rules_for table) end.held).rows (rules_for table))
      (check_fault (built_shape table) (finished (rules_for table) end.held) false)

  level_is : level_fault (built_shape table) [] nothing_held words false [] ≡ or_else walk_kinds (or_else late_kinds more_kinds)
  level_is = refl

  walk_fails : passes first [] (parts_of table words) ≡ false → Fails table (before [] None idle 1) words → FollowsRules table words
  walk_fails is fails =
      let none : is_in_form (parts_of table words) ≡ false = in_form (parts_of table words)
      ∙ ap (λ b. b && has_two_files (parts_of table words)) is in
      record {
        faults = ap has_fault (fault_is ∙ level_is) ∙ fault_goes_on walk_kinds late_kinds more_kinds fails ∙ sym (ap not none);
        finds = λ in_it. cc;
      }

  -- ---- the walk has none

  rows_are : Passes table (before [] None idle 1) words (rows_for first (parts_of table words)) → finished (rules_for table) end.held
      ≡ final
  rows_are passed = ap (λ (rows : List Row). fold with_default rows (rules_for table)) passed.found

  more_are : Passes table (before [] None idle 1) words (rows_for first (parts_of table words)) → more_kinds
      ≡ check_fault (built_shape table) final false
  more_are passed = rw (no_default_fault table (settled (rules_for table) end.held).rows)
      (ap (λ (rows : List Row). check_fault (built_shape table) rows false) (rows_are passed))

  few : passes first [] (parts_of table words) ≡ true → nat_le (length (files_in (parts_of table words))) 2 ≡ true
  few is =
      let all = both_parts (list_all is_known (parts_of table words)) (has_each_once [] (parts_of table words) && nat_le
      (length (files_in (parts_of table words))) 2) (sym (passes_form first [] (parts_of table words)) ∙ is) in
      (both_parts (has_each_once [] (parts_of table words)) (nat_le (length (files_in (parts_of table words))) 2) all.1).1

  two_words : (files : List Word) → (length files == 2) ≡ true → (first_word files
      ≡ Some (slice_index_or files 0 [])) × (second_word files ≡ Some (slice_index_or files 1 []))
  two_words [] two = cc
  two_words (a ∷ []) two = cc
  two_words (a ∷ b ∷ files) two = (refl, refl)

  first_in : (name : Text) (rows : List Row) (word : Word) → row_at name rows ≡ Some (text_row name word) → first_of name rows ≡ Some word
  first_in name rows word is = rw is refl

  parts_found : Passes table (before [] None idle 1) words (rows_for first (parts_of table words)) → has_two_files (parts_of table words)
      ≡ true → FindsParts table words
  parts_found passed two =
      let matched : matches_of (command_of table) words ≡ final = matches_are ∙ rows_are passed in
      let files = two_words (files_in (parts_of table words)) two in
      record {
        source = ap (first_of (codes "IN")) matched ∙ first_in (codes "IN") final _ (source_row
            ∙ ap (option_map (text_row (codes "IN"))) files.0);
        target = ap (first_of (codes "OUT")) matched ∙ first_in (codes "OUT") final _ (target_row
            ∙ ap (option_map (text_row (codes "OUT"))) files.1);
        numbers = λ name low high has. ap (first_of name) matched
            ∙ ap (λ (row : Option Row). option_and_then (λ (r : Row). slice_get r.values 0) row)
            (row_kept name table (rows_for first (parts_of table words))
            (no_flag_number name low high table (both_parts _ _ ok).0 has))
            ∙ text_found table name low high (known_by table name name (number low high) ok has).1 (parts_of table words) first kinds;
        flags = λ name has. ap (λ (rows : List Row). has_flag (first_of name rows)) matched
            ∙ flag_kept name table (rows_for first (parts_of table words))
            ∙ flag_found table name (known_by table name name nothing ok has).1 (parts_of table words) first kinds;
      }

  walk_passes : passes first [] (parts_of table words) ≡ true → Passes table (before [] None idle 1) words
      (rows_for first (parts_of table words)) → FollowsRules table words
  walk_passes is passed =
      let form : is_in_form (parts_of table words) ≡ has_two_files (parts_of table words) = in_form (parts_of table words)
      ∙ ap (λ b. b && has_two_files (parts_of table words)) is in
      record {
        faults = ap has_fault (fault_is ∙ level_is ∙ ap₂ (λ (a b : Kinds). or_else a (or_else b more_kinds)) passed.walk passed.settle
            ∙ more_are passed) ∙ check_is (few is) ∙ sym (ap not form);
        finds = λ in_it. parts_found passed (sym form ∙ in_it);
      }

  -- the command of a table keeps to the rules
  pub follows : FollowsRules table words
  follows = go (passes first [] (parts_of table words)) refl (words_read table words ok texts)
    where
      go : (b : Bool) → passes first [] (parts_of table words) ≡ b → Comes table b (before [] None idle 1) words
          (rows_for first (parts_of table words)) → FollowsRules table words
      go true is comes = walk_passes is comes
      go false is comes = walk_fails is comes
