-- The options as the words ask for them.
use Rattle.std.specs.Prelude.{◌≡◌, ◌≤◌, IfSome, true, string_bytes}
use Rattle.clap.specs.Kinds.{Kinds}
use Rattle.fm_words.specs.Settings.{Settings, has_fault}
use Rattle.fm_words.specs.declared.chosen.Chosen.{Chosen}
use Rattle.fm_words.specs.declared.limits.TheConstants.{MAX_GENERATE, MAX_LEAD, MAX_PROCESS, MAX_ROOM, MAX_TICK_ASKED, MAX_WORKERS, MIN_ROOM}
use Rattle.fm_words.specs.declared.words_fault.WordsFault.{WordsFault}
use Rattle.fm_words.specs.declared.words_fault.WordsFault.TheVariants.{Words, Memory}
use Rattle.fm_words.specs.declared.options.Options.{Options}

-- the settings that options hold
abbrev pub options_view : Options → Settings
options_view o = record {
  source = string_bytes o.source;
  target = string_bytes o.target;
  workers = o.workers;
  lead = o.lead;
  room = o.room;
  generate = o.generate;
  rounds = o.rounds;
  list = o.list;
  parts = o.parts;
  locate = o.locate;
  process = o.process;
  from = o.from;
  to = o.to;
  recorded = o.recorded;
  audited = o.audited;
}

-- the settings that are lent from the words
abbrev pub chosen_view : Chosen → Settings
chosen_view c = record {
  source = c.source.now;
  target = c.target.now;
  workers = c.workers;
  lead = c.lead;
  room = c.room;
  generate = c.generate;
  rounds = c.rounds;
  list = c.list;
  parts = c.parts;
  locate = c.locate;
  process = c.process;
  from = c.from;
  to = c.to;
  recorded = c.recorded;
  audited = c.audited;
}

-- the numbers lie in their ranges
pub record HasRanges (s : Settings) : Type 0 where
  pub workers : s.workers ≤ MAX_WORKERS
  pub lead : s.lead ≤ MAX_LEAD
  pub some_room : MIN_ROOM ≤ s.room
  pub room : s.room ≤ MAX_ROOM
  pub generate : IfSome s.generate (λ n. n ≤ MAX_GENERATE)
  pub locate : IfSome s.locate (λ tick. tick ≤ MAX_TICK_ASKED)
  pub process : s.process ≤ MAX_PROCESS
  pub from : IfSome s.from (λ tick. tick ≤ MAX_TICK_ASKED)
  pub to : IfSome s.to (λ tick. tick ≤ MAX_TICK_ASKED)

-- a fault that stands for these kinds of clap's: a refusal only where there are some
abbrev pub IsRefusedBy : Kinds → WordsFault → Type 0
IsRefusedBy kinds Words = has_fault kinds ≡ true
IsRefusedBy kinds Memory = Unit {0}
