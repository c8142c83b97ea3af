-- The command is one that clap states exactly, and what follows for the settings.
use Rattle.std.proofs.Common.{◌≡◌, ◌∙◌, ap, sym, Option, None, List, [], ◌∷◌, true, refl}
use Rattle.clap.specs.Faults.{fault_of, is_simple_and_free}
use Rattle.clap.specs.Kinds.{IsAmong, Kinds}
use Rattle.clap.specs.Words.{Row, Text, is_simple, matches_of}
use Rattle.clap.specs.declared.error.kind.ErrorKind.{ErrorKind}
use Rattle.clap.proofs.OnLiterals.{clap_on_literals}
use Rattle.fm_words.specs.Command.{command}
use Rattle.fm_words.specs.Settings.{Settings, settings_in, settings_of}
use Rattle.fm_words.specs.View.{IsRefusedBy}
use Rattle.fm_words.specs.declared.words_fault.WordsFault.{WordsFault}
use Rattle.fm_words.specs.declared.words_fault.WordsFault.TheVariants.{Words, Memory}

-- its matches and its faults are exact
pub simple_and_free : is_simple_and_free command ≡ true
unfolding clap_on_literals command
simple_and_free = refl

-- its matches are exact
pub simple : is_simple command ≡ true
unfolding clap_on_literals command
simple = refl

-- a kind among some kinds is a refusal, or stands for want of memory
pub among : (fault : WordsFault) (kind : ErrorKind) (kinds : Kinds) → IsAmong kind kinds → IsRefusedBy kinds fault
among fault kind [] within = absurd within
among Words kind (x ∷ xs) within = refl
among Memory kind (x ∷ xs) within = tt

-- words without a fault ask for what their matches choose
pub settings_accepted : (words : List Text) (rows : List Row) (settings : Option Settings)
    → fault_of command words ≡ [] → rows ≡ matches_of command words → settings ≡ settings_in rows
    → settings_of words ≡ settings
unfolding settings_of
settings_accepted words rows settings no_fault same is = rw no_fault (sym (is ∙ ap settings_in same))

-- words with a fault ask for nothing
pub settings_refused : (words : List Text) → IsRefusedBy (fault_of command words) Words → settings_of words ≡ None
unfolding settings_of
settings_refused words refused = rw refused refl
