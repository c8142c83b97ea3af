-- What some lists of words ask for, and some that are refused. A `|` stands between two words.
use Rattle.std.proofs.Common.{◌≡◌, ℕ, Bool, List, [], ◌∷◌, Option, Some, None, true, false, refl, codes, if◌then◌else◌, ◌==◌, map, replicate, option_map}
use Rattle.clap.specs.Words.{Text}
use Rattle.clap.proofs.OnLiterals.{clap_on_literals}
use Rattle.fm_words.specs.Command.{command}
use Rattle.fm_words.specs.Settings.{Settings, settings_in, settings_of}

-- a byte more before the first word
abbrev pub with_byte : ℕ → List Text → List Text
with_byte byte [] = (byte ∷ []) ∷ []
with_byte byte (word ∷ words) = (byte ∷ word) ∷ words

-- the words between the bars
abbrev pub words_in : List ℕ → List Text
words_in [] = [] ∷ []
words_in (byte ∷ bytes) = if byte == 124 then [] ∷ words_in bytes else with_byte byte (words_in bytes)

-- settings that are written out, for a performance of a text
abbrev pub asked : List ℕ → List ℕ → ℕ → ℕ → ℕ → Bool → Option Settings
asked source target workers lead room rounds = Some (record {
  source = source;
  target = target;
  workers = workers;
  lead = lead;
  room = room;
  generate = None;
  rounds = rounds;
  list = false;
  parts = false;
  locate = None;
  process = 0;
  from = None;
  to = None;
  recorded = false;
  audited = false;
})

-- no word at all
no_word : settings_of [] ≡ None
unfolding clap_on_literals command settings_in settings_of
no_word = refl

-- lines that are refused
refused : map (λ line. settings_of (words_in line)) (
    codes "a|b|--rounds=" ∷
    codes "a|b|--rounds=1" ∷
    codes "a|b|--rounds|--rounds" ∷
    codes "a|b|--lead=" ∷
    codes "a|b|--lead|" ∷
    codes "a|b|--lead" ∷
    codes "a|b|--lead|--" ∷
    codes "--lead|--|a|b" ∷
    codes "a|b|--lead|--rounds" ∷
    codes "a|b|--lead|-" ∷
    codes "a|b|--lead|5_0" ∷
    codes "a|b|--lead| 5" ∷
    codes "a|b|--lead|+" ∷
    codes "a|b|--lead|++5" ∷
    codes "a|b|--lead=5=6" ∷
    codes "a|b|--lead|-5" ∷
    codes "a|b|--lead=-5" ∷
    codes "a|b|--lead=-0" ∷
    codes "a|b|--lead|1000001" ∷
    codes "a|b|--lead|18446744073709551616" ∷
    codes "a|b|--workers|17" ∷
    codes "a|b|--room|0" ∷
    codes "a|b|--room|65" ∷
    codes "a|b|--lead|5|--lead|5" ∷
    codes "a|b|--lead=5|--lead|6" ∷
    codes "a|b|--workers=1|--workers=1" ∷
    codes "a|b|--room=1|--room=1" ∷
    codes "--help" ∷
    codes "a|b|--help" ∷
    codes "a|b|-h" ∷
    codes "a|b|--version" ∷
    codes "a|b|-V" ∷
    codes "a|b|--lea|5" ∷
    codes "a|b|-w|5" ∷
    codes "a|b|--ROUNDS" ∷
    codes "a|b|-rounds" ∷
    codes "a|b|--generate" ∷
    codes "a|b|--generate=" ∷
    codes "a|b|--generate|--rounds" ∷
    codes "a|b|--generate|1000000000" ∷
    codes "a|b|--generate|-1" ∷
    codes "a|b|--generate|5|--generate|5" ∷
    codes "a|b|--gen|5" ∷
    codes "a|--generate|5" ∷
    codes "-5|b" ∷
    codes "a|b|--=5" ∷
    codes "a|b|---" ∷
    codes "--|a|b|--" ∷
    codes "a|b|c" ∷
    codes "a" ∷ [])
    ≡ replicate 50 None
unfolding clap_on_literals command settings_in settings_of
refused = refl

-- lines that are taken, and what they ask for
taken : map (λ line. settings_of (words_in line)) (
    codes "a|b" ∷
    codes "a|b|--rounds" ∷
    codes "a|b|--lead|+5" ∷
    codes "a|b|--lead|007" ∷
    codes "a|b|--lead=0" ∷
    codes "a|b|--lead|1000000" ∷
    codes "a|b|--workers|0" ∷
    codes "a|b|--workers|16" ∷
    codes "a|b|--room=1" ∷
    codes "a|b|--room|64" ∷
    codes "--lead|5|a|b" ∷
    codes "a|--room|3|b|--rounds" ∷
    codes "--lead=+5|a|--rounds|--workers|007|--|-b" ∷
    codes "|b" ∷
    codes "-|b" ∷
    codes "--|a|b" ∷
    codes "a|b|--" ∷
    codes "--|--|b" ∷
    codes "--|a|--" ∷
    codes "--|--lead|5" ∷
    codes "help|b" ∷ [])
    ≡ (
    asked (codes "a") (codes "b") 4 7680 32 false ∷
    asked (codes "a") (codes "b") 4 7680 32 true ∷
    asked (codes "a") (codes "b") 4 5 32 false ∷
    asked (codes "a") (codes "b") 4 7 32 false ∷
    asked (codes "a") (codes "b") 4 0 32 false ∷
    asked (codes "a") (codes "b") 4 1000000 32 false ∷
    asked (codes "a") (codes "b") 0 7680 32 false ∷
    asked (codes "a") (codes "b") 16 7680 32 false ∷
    asked (codes "a") (codes "b") 4 7680 1 false ∷
    asked (codes "a") (codes "b") 4 7680 64 false ∷
    asked (codes "a") (codes "b") 4 5 32 false ∷
    asked (codes "a") (codes "b") 4 7680 3 true ∷
    asked (codes "a") (codes "-b") 7 5 32 true ∷
    asked (codes "") (codes "b") 4 7680 32 false ∷
    asked (codes "-") (codes "b") 4 7680 32 false ∷
    asked (codes "a") (codes "b") 4 7680 32 false ∷
    asked (codes "a") (codes "b") 4 7680 32 false ∷
    asked (codes "--") (codes "b") 4 7680 32 false ∷
    asked (codes "a") (codes "--") 4 7680 32 false ∷
    asked (codes "--lead") (codes "5") 4 7680 32 false ∷
    asked (codes "help") (codes "b") 4 7680 32 false ∷ [])
unfolding clap_on_literals command settings_in settings_of
taken = refl

-- the number of the large score that lines ask for
large_scores : map (λ line. option_map (λ s. s.generate) (settings_of (words_in line))) (
    codes "a|b" ∷
    codes "a|b|--generate|0" ∷
    codes "a|b|--generate=999999999" ∷
    codes "--generate|+007|a|b" ∷
    codes "a|--rounds|--generate|124|b|--workers|0" ∷
    codes "--|--generate|5" ∷ [])
    ≡ (
    Some None ∷
    Some (Some 0) ∷
    Some (Some 999999999) ∷
    Some (Some 7) ∷
    Some (Some 124) ∷
    Some None ∷ [])
unfolding clap_on_literals command settings_in settings_of
large_scores = refl
