-- The command of which the words are read, as clap's statement of a simple command sees it.
use Rattle.std.specs.Prelude.{ℕ, List, ◌∷◌, ◌++◌, codes, map, Some, true}
use Rattle.clap.specs.Words.{App, Rule, new_app, new_rule, with_rule}
use Rattle.clap.specs.Simple.{on_top}
use Rattle.clap.specs.declared.builder.ArgAction.TheVariants.{SetTrue}
use Rattle.fm_words.specs.Rules.{Choice, nothing, number}

-- a text that has to be there, by its place
abbrev pub text_named : List ℕ → Rule
text_named id = record (new_rule id) { required = true }

-- an option `--id` with a value
abbrev pub option_named : List ℕ → Rule
option_named id = record (new_rule id) { long = Some id }

-- an option `--id` without a value
abbrev pub flag_named : List ℕ → Rule
flag_named id = record (new_rule id) { long = Some id; action = Some SetTrue }

-- a command without words, which has no help and no version, and whose words begin after the program's name
abbrev pub bare_command : App
bare_command = on_top (λ s. record s { no_binary_name = true; disable_help_flag = true }) (new_app (codes "formula"))

-- the two texts, and with how many threads, which lead and which room they are played
abbrev pub with_playing : App → App
with_playing a = with_rule (with_rule (with_rule (with_rule (with_rule a
    (text_named (codes "IN"))) (text_named (codes "OUT")))
    (option_named (codes "workers"))) (option_named (codes "lead"))) (option_named (codes "room"))

-- a large score, rounds, and what is made of a file
abbrev pub with_files : App → App
with_files a = with_rule (with_rule (with_rule (with_rule a
    (option_named (codes "generate"))) (flag_named (codes "rounds")))
    (flag_named (codes "list"))) (flag_named (codes "parts"))

-- a tick that is located, an excerpt, and records
abbrev pub with_questions : App → App
with_questions a = with_rule (with_rule (with_rule (with_rule (with_rule (with_rule a
    (option_named (codes "locate"))) (option_named (codes "process")))
    (option_named (codes "from"))) (option_named (codes "to")))
    (flag_named (codes "record"))) (flag_named (codes "audit"))

-- two texts, eight options and five flags
unfoldable pub command : App
command = with_questions (with_files (with_playing bare_command))

-- an option of a table
abbrev pub option_of : Choice → Rule
option_of choice = elim choice.takes as (λ _. Rule) [
  | nothing ↦ flag_named choice.name
  | number low high ↦ option_named choice.name
]

-- the command of two texts and of the options of a table
abbrev pub command_of : List Choice → App
command_of table = on_top (λ s. record s {
  rules = s.rules ++ text_named (codes "IN") ∷ text_named (codes "OUT") ∷ map option_of table;
}) bare_command
