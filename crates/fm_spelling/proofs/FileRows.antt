-- Worked examples: a text, what it says, and its file.
use Rattle.std.proofs.Common.{◌≡◌, ℕ, true, false, List, [], ◌∷◌, ◌++◌, map, refl, codes, pos}
use Rattle.fm_grammar.specs.Grammar.{NumForm}
use Rattle.fm_grammar.specs.Score.{Leaf}
use Rattle.fm_lex.specs.Tokens.{tokens, walk}
use Rattle.fm_lex.specs.declared.spot.Spot.{Spot}
use Rattle.fm_meaning.specs.Resolved as says
use Rattle.fm_msg.specs.declared.profile.Profile.{Profile}
use Rattle.fm_smf.specs.File.{file, with_length}
use Rattle.fm_smf.specs.Track.{delta, end_bytes, event_bytes, fillers, track}
use Rattle.fm_smf.specs.VariableLength.{vlq}
use Rattle.fm_spelling.specs.FileOf.{IsFileOf, file_of}
use Rattle.fm_spelling.specs.Says as s
use Rattle.fm_spelling.specs.Values as v
use Rattle.fm_spelling.specs.Says.{ScoreSays, profile_in}

abbrev spot : ℕ → Spot
spot column = record { line = 1; column = column }

abbrev leaf : List ℕ → ℕ → Leaf
leaf text column = record { text = text; spot = spot column }

abbrev number : ℕ → List ℕ → ℕ → NumForm
number value text column = record { value = value; leaf = leaf text column }

abbrev first_profile : Profile
first_profile = record { running = false; division = 480 }

-- the first version has 480 ticks a quarter note, the second as many as its score says, and leaves status bytes out
profiles : map (λ version. profile_in version 96) (1 ∷ 2 ∷ [])
    ≡ first_profile ∷ record { running = true; division = 96 } ∷ []
profiles = refl

-- `note c4 1/4;`: a quarter note of the key 60
abbrev quarter_note : says.Resolved
quarter_note = record {
  seed = 0;
  longest = 0;
  passage = says.item (spot 12) (says.Play.note (says.given (pos 60) ∷ []) (says.LengthSource.ticks 480)) says.done;
}

-- a header and a track of 20 bytes: the tempo, the note-on at 0, the note-off at 432, the end at 480
abbrev quarter_file : List ℕ
quarter_file =
    codes "MThd" ++ 0 ∷ 0 ∷ 0 ∷ 6 ∷ 0 ∷ 0 ∷ 0 ∷ 1 ∷ 1 ∷ 224 ∷ codes "MTrk" ++ 0 ∷ 0 ∷ 0 ∷ 20
    ∷ 0 ∷ 255 ∷ 81 ∷ 3 ∷ 7 ∷ 161 ∷ 32 ∷ 0 ∷ 144 ∷ 60 ∷ 64 ∷ 131 ∷ 48 ∷ 128 ∷ 60 ∷ 64 ∷ 48 ∷ 255 ∷ 47 ∷ 0 ∷ []

its_file : quarter_file ≡ file_of first_profile quarter_note
unfolding file_of file with_length track event_bytes end_bytes delta fillers vlq
its_file = refl

-- what the tokens of the text say, line by line of the grammar
it_says : ScoreSays (tokens (codes "formula 1; note c4 1/4;")) first_profile quarter_note
unfolding walk
it_says =
    s.score (leaf (codes "formula") 1) (leaf (codes ";") 10) (number 1 (codes "1") 9) 0 s.no_division s.no_seed
    (s.EntriesSay.plays
    (s.note (leaf (codes "note") 12) (leaf (codes ";") 23) (v.one (v.named 60 (leaf (codes "c4") 17)))
    (v.fixed (v.share (number 1 (codes "1") 20) (number 4 (codes "4") 22) (leaf (codes "/") 21))))
    (s.no_entry (leaf [] 24)))

text_and_file : IsFileOf (codes "formula 1; note c4 1/4;") quarter_file
text_and_file = record { profile = first_profile; score = quarter_note; says = it_says; whole = its_file }
