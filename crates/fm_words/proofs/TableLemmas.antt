-- What clap builds of the command of a table, and which argument it finds there.
use Rattle.std.proofs.Common.{◌≡◌, ◌∙◌, ◌==◌, ◌||◌, ◌&&◌, ℕ, Bool, true, false, cond, not, List, [], ◌∷◌, map, Option, Some, None, option_map, refl, ap, codes, is_some}
use Rattle.std.specs.List.{find}
use Rattle.std.specs.Option.{option_map_or}
use Rattle.std.specs.Str.{bytes_eq}
use Rattle.clap.specs.Walk.{Rule, Text, arg_by_index, arg_by_long, arg_by_short, has_long, has_short}
use Rattle.clap.specs.Simple.{App, Shape, built, filled, filled_from, with_index}
use Rattle.fm_words.specs.Command.{command_of, option_of, text_named}
use Rattle.fm_words.specs.Rules.{Choice, Takes, choice_of, nothing, number}

-- ---- what is built

-- the arguments for the two names of files, and for an option
abbrev pub in_rule : Rule
in_rule = with_index 1 (filled (text_named (codes "IN")))

-- for the second name
abbrev pub out_rule : Rule
out_rule = with_index 2 (filled (text_named (codes "OUT")))

-- for an option
abbrev pub option_rule : Choice → Rule
option_rule choice = filled (option_of choice)

-- for the options of a table
abbrev pub option_rules : List Choice → List Rule
option_rules table = map option_rule table

-- all arguments
abbrev pub rules_for : List Choice → List Rule
rules_for table = in_rule ∷ out_rule ∷ option_rules table

one_filled : (i : ℕ) (name : Text) (takes : Takes) → with_index i (filled (option_of (record { name = name; takes = takes })))
    ≡ filled (option_of (record { name = name; takes = takes }))
one_filled i name nothing = refl
one_filled i name (number low high) = refl

next_index : (i : ℕ) (name : Text) (takes : Takes) (table : List Choice)
    → filled_from i (option_of (record { name = name; takes = takes }) ∷ map option_of table)
    ≡ option_rule (record { name = name; takes = takes }) ∷ filled_from i (map option_of table)
next_index i name nothing table = refl
next_index i name (number low high) table = refl

-- building fills the options in
pub options_filled : (i : ℕ) (table : List Choice) → filled_from i (map option_of table) ≡ option_rules table
options_filled i [] = refl
options_filled i (choice ∷ table) = next_index i choice.name choice.takes table
    ∙ ap (λ rules. option_rule choice ∷ rules) (options_filled i table)

-- the command as it is built
abbrev pub built_shape : List Choice → Shape
built_shape table = record (built (command_of [])).top { rules = rules_for table }

-- it has no subcommand
abbrev pub built_app : List Choice → App
built_app table = record { top = built_shape table; subs = [] }

-- that is what building makes of the command
pub command_built : (table : List Choice) → built (command_of table) ≡ built_app table
command_built table = ap (λ rules. record { top = record (built_shape table) { rules = in_rule ∷ out_rule ∷ rules }; subs = [] })
    (options_filled 3 table)

-- ---- what is found

-- a test or nothing
pub or_false : (b : Bool) → (b || false) ≡ b
or_false true = refl
or_false false = refl

-- a test and nothing
pub and_false : (b : Bool) → (b && false) ≡ false
and_false true = refl
and_false false = refl

id_of_option : (choice : Choice) → (option_rule choice).id ≡ choice.name
id_of_option choice = go choice.name choice.takes
  where
    go : (name : Text) (takes : Takes) → (option_rule (record { name = name; takes = takes })).id ≡ name
    go name nothing = refl
    go name (number low high) = refl

one_more : (b : Bool) (choice : Choice) (found : Option Rule) (known : Option Choice) → found ≡ option_map option_rule known
    → cond b (Some (option_rule choice)) found ≡ option_map option_rule (cond b (Some choice) known)
one_more true choice found known same = refl
one_more false choice found known same = same

-- an option by its id
pub option_by_id : (table : List Choice) (id : Text) → find (λ (a : Rule). bytes_eq a.id id) (option_rules table)
    ≡ option_map option_rule (choice_of table id)
option_by_id [] id = refl
option_by_id (choice ∷ table) id =
    ap (λ (own : Text). cond (bytes_eq own id) (Some (option_rule choice)) (find (λ (a : Rule). bytes_eq a.id id) (option_rules table)))
    (id_of_option choice)
    ∙ one_more (bytes_eq choice.name id) choice _ _ (option_by_id table id)

long_of_option : (choice : Choice) (name : Text) → (not (is_some (option_rule choice).index) && has_long (option_rule choice) name)
    ≡ bytes_eq choice.name name
long_of_option choice name = go choice.name choice.takes
  where
    go : (own : Text) (takes : Takes) → (not (is_some (option_rule (record { name = own; takes = takes })).index) && has_long
        (option_rule (record { name = own; takes = takes })) name) ≡ bytes_eq own name
    go own nothing = or_false _
    go own (number low high) = or_false _

options_by_long : (table : List Choice) (name : Text) → find (λ (a : Rule). not (is_some a.index) && has_long a name)
    (option_rules table) ≡ option_map option_rule (choice_of table name)
options_by_long [] name = refl
options_by_long (choice ∷ table) name =
    ap (λ (b : Bool). cond b (Some (option_rule choice)) (find (λ (a : Rule). not (is_some a.index) && has_long a name)
    (option_rules table))) (long_of_option choice name)
    ∙ one_more (bytes_eq choice.name name) choice _ _ (options_by_long table name)

-- an argument by its long name is an option
pub by_long : (table : List Choice) (name : Text) → arg_by_long (rules_for table) name ≡ option_map option_rule (choice_of table name)
by_long table name = options_by_long table name

short_of_option : (choice : Choice) (x : ℕ) → (not (is_some (option_rule choice).index) && has_short (option_rule choice) x) ≡ false
short_of_option choice x = go choice.name choice.takes
  where
    go : (own : Text) (takes : Takes) → (not (is_some (option_rule (record { name = own; takes = takes })).index) && has_short
        (option_rule (record { name = own; takes = takes })) x) ≡ false
    go own nothing = refl
    go own (number low high) = refl

-- none has a short one
pub by_short : (table : List Choice) (x : ℕ) → arg_by_short (rules_for table) x ≡ None
by_short table x = go table
  where
    go : (table : List Choice) → find (λ (a : Rule). not (is_some a.index) && has_short a x) (option_rules table) ≡ None
    go [] = refl
    go (choice ∷ table) = rw (short_of_option choice x) (go table)

index_of_option : (choice : Choice) → (option_rule choice).index ≡ None
index_of_option choice = go choice.name choice.takes
  where
    go : (own : Text) (takes : Takes) → (option_rule (record { name = own; takes = takes })).index ≡ None
    go own nothing = refl
    go own (number low high) = refl

-- there is no third place
pub no_third : (table : List Choice) → arg_by_index (rules_for table) 3 ≡ None
no_third table = go table
  where
    go : (table : List Choice) → find (λ (a : Rule). option_map_or (λ k. k == 3) a.index false) (option_rules table) ≡ None
    go [] = refl
    go (choice ∷ table) = rw (index_of_option choice) (go table)
