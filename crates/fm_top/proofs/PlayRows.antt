-- Words that ask to play a text, and words that ask for something else or break a rule.
use Rattle.std.proofs.Common.{◌≡◌, [], ◌∷◌, true, false, refl, codes, map, replicate}
use Rattle.fm_words.specs.Rules.{keeps_rules, parts_after, parts_of}
use Rattle.fm_top.specs.PlayWords.{play_options}

playing : map (λ words. keeps_rules play_options (parts_of play_options words)) (
    (codes "a" ∷ codes "b" ∷ []) ∷
    (codes "--workers" ∷ codes "16" ∷ codes "a" ∷ codes "--lead=+1000000" ∷ codes "--" ∷ codes "--list" ∷ []) ∷
    (codes "--rounds" ∷ codes "a" ∷ codes "b" ∷ codes "--room=64" ∷ codes "--process=16383" ∷ []) ∷ [])
    ≡ replicate 3 true
unfolding parts_after
playing = refl

-- a listing, a large score, an excerpt, a record, an option twice, numbers out of their ranges, one name
not_playing : map (λ words. keeps_rules play_options (parts_of play_options words)) (
    (codes "a" ∷ codes "b" ∷ codes "--list" ∷ []) ∷
    (codes "a" ∷ codes "b" ∷ codes "--generate" ∷ codes "5" ∷ []) ∷
    (codes "a" ∷ codes "b" ∷ codes "--from=1" ∷ []) ∷
    (codes "--record" ∷ codes "a" ∷ codes "b" ∷ []) ∷
    (codes "--rounds" ∷ codes "a" ∷ codes "b" ∷ codes "--rounds" ∷ []) ∷
    (codes "a" ∷ codes "b" ∷ codes "--workers=17" ∷ []) ∷
    (codes "a" ∷ codes "b" ∷ codes "--room" ∷ codes "0" ∷ []) ∷
    (codes "--lead=1000001" ∷ codes "a" ∷ codes "b" ∷ []) ∷
    (codes "--process=16384" ∷ codes "a" ∷ codes "b" ∷ []) ∷
    (codes "a" ∷ []) ∷ [])
    ≡ replicate 10 false
unfolding parts_after
not_playing = refl
