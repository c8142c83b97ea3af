-- What some lists of words ask to be made besides a performance's file. A `|` stands between two words.
use Rattle.std.proofs.Common.{◌≡◌, ℕ, Bool, [], ◌∷◌, Option, Some, None, true, false, refl, codes, map, replicate, option_map}
use Rattle.clap.proofs.OnLiterals.{clap_on_literals}
use Rattle.fm_words.specs.Command.{command}
use Rattle.fm_words.specs.Settings.{Settings, settings_in, settings_of}
use Rattle.fm_words.proofs.Rows.{words_in}

-- whether a listing and parts are asked for, the tick to locate, and the process
abbrev work : Settings → Bool × Bool × Option ℕ × ℕ
work s = (s.list, s.parts, s.locate, s.process)

works : map (λ line. option_map work (settings_of (words_in line))) (
    codes "a|b" ∷
    codes "a|b|--list" ∷
    codes "--parts|a|b" ∷
    codes "a|--list|b|--rounds|--parts" ∷
    codes "a|b|--locate|0" ∷
    codes "a|b|--locate=1099511627776" ∷
    codes "a|b|--locate|+060|--process|007" ∷
    codes "--process=16383|a|b" ∷
    codes "--|--list|--process" ∷ [])
    ≡ (
    Some (false, false, None, 0) ∷
    Some (true, false, None, 0) ∷
    Some (false, true, None, 0) ∷
    Some (true, true, None, 0) ∷
    Some (false, false, Some 0, 0) ∷
    Some (false, false, Some 1099511627776, 0) ∷
    Some (false, false, Some 60, 7) ∷
    Some (false, false, None, 16383) ∷
    Some (false, false, None, 0) ∷ [])
unfolding clap_on_literals command settings_in settings_of
works = refl

-- a value that is given to a flag, a flag twice, another word, and numbers as they are refused of each option
refused : map (λ line. settings_of (words_in line)) (
    codes "a|b|--list=" ∷
    codes "a|b|--list=1" ∷
    codes "a|b|--list|--list" ∷
    codes "a|b|--lists" ∷
    codes "a|b|--parts=1" ∷
    codes "a|b|--parts|--list|--parts" ∷
    codes "a|b|--part" ∷
    codes "a|b|--locate" ∷
    codes "a|b|--locate=" ∷
    codes "a|b|--locate|--list" ∷
    codes "a|b|--locate|1099511627777" ∷
    codes "a|b|--locate|-1" ∷
    codes "a|b|--locate|5|--locate=5" ∷
    codes "a|b|--process" ∷
    codes "a|b|--process|16384" ∷
    codes "a|b|--process|1_0" ∷
    codes "a|b|--process|1|--locate|5|--process|1" ∷
    codes "a|--locate|5|--process|b" ∷ [])
    ≡ replicate 18 None
unfolding clap_on_literals command settings_in settings_of
refused = refl

-- the ticks round an excerpt
abbrev excerpt : Settings → Option ℕ × Option ℕ
excerpt s = (s.from, s.to)

excerpts : map (λ line. option_map excerpt (settings_of (words_in line))) (
    codes "a|b" ∷
    codes "a|b|--from|0" ∷
    codes "--to=1099511627776|a|b" ∷
    codes "a|--to|+7|b|--from|1099511627776" ∷
    codes "a|b|--from|480|--to|480" ∷
    codes "--|--from|--to" ∷ [])
    ≡ (
    Some (None, None) ∷
    Some (Some 0, None) ∷
    Some (None, Some 1099511627776) ∷
    Some (Some 1099511627776, Some 7) ∷
    Some (Some 480, Some 480) ∷
    Some (None, None) ∷ [])
unfolding clap_on_literals command settings_in settings_of
excerpts = refl

-- ticks that are refused
no_excerpts : map (λ line. settings_of (words_in line)) (
    codes "a|b|--from" ∷
    codes "a|b|--from|--to" ∷
    codes "a|b|--from|1099511627777" ∷
    codes "a|b|--from|5|--to|6|--from|5" ∷
    codes "a|b|--to=" ∷
    codes "a|b|--to|1099511627777" ∷
    codes "a|b|--to|-5" ∷
    codes "a|b|--to=5|--to=6" ∷
    codes "a|b|--from-to|5" ∷ [])
    ≡ replicate 9 None
unfolding clap_on_literals command settings_in settings_of
no_excerpts = refl

-- whether a record is made, and whether one is audited
abbrev records : Settings → Bool × Bool
records s = (s.recorded, s.audited)

some_records : map (λ line. option_map records (settings_of (words_in line))) (
    codes "a|b" ∷
    codes "a|b|--record" ∷
    codes "--audit|a|b" ∷
    codes "--record|a|--list|--audit|b" ∷
    codes "--|--record|--audit" ∷ [])
    ≡ (
    Some (false, false) ∷
    Some (true, false) ∷
    Some (false, true) ∷
    Some (true, true) ∷
    Some (false, false) ∷ [])
unfolding clap_on_literals command settings_in settings_of
some_records = refl

-- flags of records that are refused
no_records : map (λ line. settings_of (words_in line)) (
    codes "a|b|--record=" ∷
    codes "a|b|--record|--record" ∷
    codes "a|b|--records" ∷
    codes "a|b|--audit=1" ∷
    codes "a|b|--audit|--record|--audit" ∷
    codes "a|--audit" ∷ [])
    ≡ replicate 6 None
unfolding clap_on_literals command settings_in settings_of
no_records = refl
