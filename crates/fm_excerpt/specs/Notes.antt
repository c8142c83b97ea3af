-- Notes among messages at their ticks, for the laws of excerpts.
use Rattle.std.specs.Prelude.{◌≡◌, ℕ, ◌+◌, ◌<◌, Bool, true, false, ◌||◌, IsTrue, count_by, List, [], ◌∷◌, ◌++◌, map}
use Rattle.std.specs.List.{filter}
use Rattle.fm_msg.specs.declared.msg.Msg.{Msg}
use Rattle.fm_msg.specs.declared.msg.Msg.TheVariants.{On, Off, Control, Program, Bend}
use Rattle.fm_msg.specs.declared.msg.TheConstants.{CHANNELS, DATA_VALUES}
use Rattle.fm_excerpt.specs.Excerpt.{is_on, is_off, keeps, message_at}

-- behind these messages, each note-off has a note that sounds
abbrev pub AreBegun : List Msg → List (ℕ × Msg) → Type 0
AreBegun done [] = Unit {0}
AreBegun done (x ∷ xs) = IsTrue (keeps done x.1) × AreBegun (done ++ x.1 ∷ []) xs

-- each channel and key has as many note-offs as note-ons
abbrev pub AreEnded : List (ℕ × Msg) → Type 0
AreEnded list =
    (c k : ℕ) → c < CHANNELS → k < DATA_VALUES →
    count_by (is_on c k) (map message_at list) ≡ count_by (is_off c k) (map message_at list)

-- whether a message begins a note
abbrev pub begins_note : Msg → Bool
begins_note (On channel key velocity) = true
begins_note (Off channel key) = false
begins_note (Control channel controller value) = false
begins_note (Program channel program) = false
begins_note (Bend channel bend) = false

-- the note-ons among messages
abbrev pub note_ons : List (ℕ × Msg) → List (ℕ × Msg)
note_ons list = filter (λ x. begins_note x.1) list

-- the note-ons and note-offs of a channel and key
abbrev pub of_key : ℕ → ℕ → List (ℕ × Msg) → List (ℕ × Msg)
of_key c k list = filter (λ x. is_on c k x.1 || is_off c k x.1) list

-- messages so many ticks later
abbrev pub later_by : ℕ → List (ℕ × Msg) → List (ℕ × Msg)
later_by n list = map (λ x. (x.0 + n, x.1)) list
