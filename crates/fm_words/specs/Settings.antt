-- What a list of words asks for, and which words are refused.
use Rattle.std.specs.Prelude.{ℕ, Bool, true, false, List, [], ◌∷◌, Option, Some, None}
use Rattle.std.specs.Prelude.{if◌then◌else◌, codes, option_map, option_and_then}
use Rattle.std.specs.Str.{bytes_eq}
use Rattle.std.specs.Str.Parse.{digits_value, without_leading_plus}
use Rattle.clap.specs.Words.{Row, Text, first_of, matches_of}
use Rattle.clap.specs.Faults.{fault_of}
use Rattle.clap.specs.Kinds.{Kinds}
use Rattle.clap.specs.ValueTests.{is_unsigned_in}
use Rattle.fm_words.specs.Command.{command}
use Rattle.fm_words.specs.declared.limits.TheConstants.{DEFAULT_LEAD, DEFAULT_PROCESS, DEFAULT_ROOM, DEFAULT_WORKERS, MAX_GENERATE, MAX_LEAD, MAX_PROCESS, MAX_ROOM, MAX_TICK_ASKED, MAX_WORKERS, MIN_ROOM}

-- what the words ask for: two names of files, three numbers, the number of a large score or none,
-- five flags, a tick to locate or none, the number of a process, and the ticks where an excerpt begins
-- and ends, each a tick or none
pub record Settings : Type 0 where
  pub source : Text
  pub target : Text
  pub workers : ℕ
  pub lead : ℕ
  pub room : ℕ
  pub generate : Option ℕ
  pub rounds : Bool
  pub list : Bool
  pub parts : Bool
  pub locate : Option ℕ
  pub process : ℕ
  pub from : Option ℕ
  pub to : Option ℕ
  pub recorded : Bool
  pub audited : Bool

-- the number that a text spells, digits with at most one `+` before them, where it lies in the range
abbrev pub number_in : ℕ → ℕ → Text → Option ℕ
number_in low high text =
    if is_unsigned_in low high text then Some (digits_value 10 (without_leading_plus text)) else None

-- the number of an option, which has a default
abbrev pub number_or : ℕ → ℕ → ℕ → Option Text → Option ℕ
number_or low high default None = Some default
number_or low high default (Some text) = number_in low high text

-- the number of an option that has no default: that it was not given, or a number in the range
abbrev pub number_if_any : ℕ → ℕ → Option Text → Option (Option ℕ)
number_if_any low high None = Some None
number_if_any low high (Some text) = option_map (λ n. Some n) (number_in low high text)

-- whether the command found the flag: it gives it a text of its own
abbrev pub has_flag : Option Text → Bool
has_flag (Some text) = bytes_eq text (codes "true")
has_flag None = false

-- what the matches of the command ask for; none where a number is no number or is out of its range
unfoldable pub settings_in : List Row → Option Settings
settings_in rows =
    option_and_then (λ source. option_and_then (λ target.
    option_and_then (λ workers. option_and_then (λ lead. option_and_then (λ room.
    option_and_then (λ generate. option_and_then (λ locate. option_and_then (λ process.
    option_and_then (λ from. option_map (λ to. record {
      source = source;
      target = target;
      workers = workers;
      lead = lead;
      room = room;
      generate = generate;
      rounds = has_flag (first_of (codes "rounds") rows);
      list = has_flag (first_of (codes "list") rows);
      parts = has_flag (first_of (codes "parts") rows);
      locate = locate;
      process = process;
      from = from;
      to = to;
      recorded = has_flag (first_of (codes "record") rows);
      audited = has_flag (first_of (codes "audit") rows);
    })
    (number_if_any 0 MAX_TICK_ASKED (first_of (codes "to") rows)))
    (number_if_any 0 MAX_TICK_ASKED (first_of (codes "from") rows)))
    (number_or 0 MAX_PROCESS DEFAULT_PROCESS (first_of (codes "process") rows)))
    (number_if_any 0 MAX_TICK_ASKED (first_of (codes "locate") rows)))
    (number_if_any 0 MAX_GENERATE (first_of (codes "generate") rows)))
    (number_or MIN_ROOM MAX_ROOM DEFAULT_ROOM (first_of (codes "room") rows)))
    (number_or 0 MAX_LEAD DEFAULT_LEAD (first_of (codes "lead") rows)))
    (number_or 0 MAX_WORKERS DEFAULT_WORKERS (first_of (codes "workers") rows)))
    (first_of (codes "OUT") rows)) (first_of (codes "IN") rows)

-- whether there is a fault of some kind
abbrev pub has_fault : Kinds → Bool
has_fault [] = false
has_fault (kind ∷ kinds) = true

-- what the words ask for; none where they are refused: the command finds a fault in them, or a
-- number among them is no number or is out of its range
unfoldable pub settings_of : List Text → Option Settings
settings_of words = if has_fault (fault_of command words) then None else settings_in (matches_of command words)

-- the file that is read and the file that is written
abbrev pub files_of : Option Settings → Option (Text × Text)
files_of settings = option_map (λ s. (s.source, s.target)) settings
