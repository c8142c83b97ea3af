-- What words ask for, by the rules of the command line.
use Rattle.std.specs.Prelude.{ℕ, List, [], ◌∷◌, Option, Some, None, codes, if◌then◌else◌}
use Rattle.std.specs.Prelude.{option_and_then, slice_index_or, unwrap_or}
use Rattle.fm_words.specs.Rules.{Choice, Part, Word, files_in, has_flag_named, keeps_rules, nothing}
use Rattle.fm_words.specs.Rules.{number, number_of_text, parts_of, text_for}
use Rattle.fm_words.specs.Settings.{Settings}
use Rattle.fm_words.specs.declared.limits.TheConstants.{DEFAULT_LEAD, DEFAULT_PROCESS, DEFAULT_ROOM, DEFAULT_WORKERS, MAX_GENERATE, MAX_LEAD, MAX_PROCESS, MAX_ROOM, MAX_TICK_ASKED, MAX_WORKERS, MIN_ROOM}

-- an option with a number
abbrev pub numbered : Word → ℕ → ℕ → Choice
numbered name low high = record { name = name; takes = number low high }

-- an option that takes nothing
abbrev pub flagged : Word → Choice
flagged name = record { name = name; takes = nothing }

-- the options of the command
abbrev pub options : List Choice
options = numbered (codes "workers") 0 MAX_WORKERS
    ∷ numbered (codes "lead") 0 MAX_LEAD
    ∷ numbered (codes "room") MIN_ROOM MAX_ROOM
    ∷ numbered (codes "generate") 0 MAX_GENERATE
    ∷ flagged (codes "rounds")
    ∷ flagged (codes "list")
    ∷ flagged (codes "parts")
    ∷ numbered (codes "locate") 0 MAX_TICK_ASKED
    ∷ numbered (codes "process") 0 MAX_PROCESS
    ∷ numbered (codes "from") 0 MAX_TICK_ASKED
    ∷ numbered (codes "to") 0 MAX_TICK_ASKED
    ∷ flagged (codes "record")
    ∷ flagged (codes "audit")
    ∷ []

-- the number that is given for an option
abbrev pub number_for : Word → List Part → Option ℕ
number_for name parts = option_and_then number_of_text (text_for name parts)

-- what parts that keep to the rules ask for
abbrev pub settings_in_parts : List Part → Settings
settings_in_parts parts = record {
  source = slice_index_or (files_in parts) 0 [];
  target = slice_index_or (files_in parts) 1 [];
  workers = unwrap_or (number_for (codes "workers") parts) DEFAULT_WORKERS;
  lead = unwrap_or (number_for (codes "lead") parts) DEFAULT_LEAD;
  room = unwrap_or (number_for (codes "room") parts) DEFAULT_ROOM;
  generate = number_for (codes "generate") parts;
  rounds = has_flag_named (codes "rounds") parts;
  list = has_flag_named (codes "list") parts;
  parts = has_flag_named (codes "parts") parts;
  locate = number_for (codes "locate") parts;
  process = unwrap_or (number_for (codes "process") parts) DEFAULT_PROCESS;
  from = number_for (codes "from") parts;
  to = number_for (codes "to") parts;
  recorded = has_flag_named (codes "record") parts;
  audited = has_flag_named (codes "audit") parts;
}

-- what words ask for; none where they break a rule
unfoldable pub settings_by_rules : List Word → Option Settings
settings_by_rules words = if keeps_rules options (parts_of options words)
    then Some (settings_in_parts (parts_of options words)) else None
