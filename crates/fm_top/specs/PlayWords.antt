-- Words that ask to play a text, and for nothing else.
use Rattle.std.specs.Prelude.{◌≡◌, List, [], ◌∷◌, true, String, string_bytes, map, codes}
use Rattle.fm_words.specs.Asked.{flagged, numbered}
use Rattle.fm_words.specs.Rules.{Choice, keeps_rules, parts_of}
use Rattle.fm_words.specs.declared.limits.TheConstants.{MAX_LEAD, MAX_PROCESS, MAX_ROOM, MAX_WORKERS, MIN_ROOM}

-- the options that say how a score is played, and not what else is done; the file of a text is defined without them, so
-- none of them changes a byte of it
abbrev pub play_options : List Choice
play_options = numbered (codes "workers") 0 MAX_WORKERS
    ∷ numbered (codes "lead") 0 MAX_LEAD
    ∷ numbered (codes "room") MIN_ROOM MAX_ROOM
    ∷ flagged (codes "rounds")
    ∷ numbered (codes "process") 0 MAX_PROCESS
    ∷ []

-- the words keep to the rules of the command line, with no other options than these
abbrev pub AskToPlay : {A : Type 0} → List (String A) → Type 0
AskToPlay words = keeps_rules play_options (parts_of play_options (map string_bytes words)) ≡ true
