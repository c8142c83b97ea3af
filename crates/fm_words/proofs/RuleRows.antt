-- The rules at work: what some lines are cut into, and whether they keep them.
-- A `|` stands between two words.
use Rattle.std.proofs.Common.{◌≡◌, [], ◌∷◌, Some, None, true, false, refl, codes, map, replicate}
use Rattle.fm_words.specs.Asked.{flagged, numbered, options, settings_by_rules}
use Rattle.fm_words.specs.Rules.{behind_hyphens, file, flag, has_flag_named, is_digit, is_table, keeps_rules, number_within, parts_after, parts_of, stray, unvalued, valued}
use Rattle.fm_words.proofs.Rows.{asked, words_in}

-- two options of one name, and an option with the name of a file
no_tables : map is_table (
    (numbered (codes "from") 0 1 ∷ numbered (codes "from") 0 2 ∷ []) ∷
    (flagged (codes "IN") ∷ []) ∷ [])
    ≡ replicate 2 false
no_tables = refl

-- two hyphens and more, or no option
hyphens : map behind_hyphens (codes "--a" ∷ codes "-ab" ∷ codes "a-b" ∷ codes "--" ∷ []) ≡ Some (codes "a") ∷ None ∷ None ∷ None ∷ []
hyphens = refl

-- digits, and the bytes beside them
digits : map is_digit (47 ∷ 48 ∷ 57 ∷ 58 ∷ []) ≡ false ∷ true ∷ true ∷ false ∷ []
digits = refl

-- a flag behind another one
flags : map (λ name. has_flag_named name (flag (codes "rounds") ∷ flag (codes "list") ∷ []))
    (codes "rounds" ∷ codes "list" ∷ codes "parts" ∷ []) ≡ true ∷ true ∷ false ∷ []
flags = refl

some_parts : map (λ line. parts_of options (words_in line)) (
    codes "a|--from|5|b|--list" ∷
    codes "--from=5|--to=|--list=1|--to" ∷
    codes "--from|--list|-|--|--list|-5" ∷
    codes "--form|-f|--|" ∷ [])
    ≡ (
    (file (codes "a") ∷ valued (codes "from") (codes "5") ∷ file (codes "b") ∷ flag (codes "list") ∷ []) ∷
    (valued (codes "from") (codes "5") ∷ valued (codes "to") (codes "") ∷ stray (codes "--list=1") ∷ unvalued (codes "to") ∷ []) ∷
    (unvalued (codes "from") ∷ file (codes "-") ∷ file (codes "--list") ∷ file (codes "-5") ∷ []) ∷
    (stray (codes "--form") ∷ stray (codes "-f") ∷ file (codes "") ∷ []) ∷ [])
unfolding parts_after
some_parts = refl

kept : map (λ line. keeps_rules options (parts_of options (words_in line))) (
    codes "a|b" ∷
    codes "a|--from|1099511627776|b|--list" ∷
    codes "--process=16383|--|-a|--" ∷
    codes "-|--to|+007||--record" ∷ [])
    ≡ replicate 4 true
unfolding parts_after
kept = refl

-- one name, three, an option twice, a number past its range, no number, no value, another word
broken : map (λ line. keeps_rules options (parts_of options (words_in line))) (
    codes "a" ∷
    codes "a|b|c" ∷
    codes "a|b|--list|--list" ∷
    codes "a|b|--from|1|--from=1" ∷
    codes "a|b|--from|1099511627777" ∷
    codes "a|b|--from|5_0" ∷
    codes "a|b|--from" ∷
    codes "a|b|--from|-1" ∷
    codes "a|b|--list=" ∷
    codes "a|b|--lists" ∷ [])
    ≡ replicate 10 false
unfolding parts_after
broken = refl

some_numbers : map (number_within 3 70) (
    codes "3" ∷ codes "+0070" ∷ codes "2" ∷ codes "71" ∷ codes "++5" ∷ codes "+" ∷ codes "" ∷ codes "5 " ∷ codes "0x5" ∷ [])
    ≡ Some 3 ∷ Some 70 ∷ replicate 7 None
some_numbers = refl

some_settings : map (λ line. settings_by_rules (words_in line)) (
    codes "a|--lead=+5|b|--rounds" ∷
    codes "--room|64|a|--|--" ∷
    codes "a|b|--records" ∷ [])
    ≡ asked (codes "a") (codes "b") 4 5 32 true ∷ asked (codes "a") (codes "--") 4 7680 64 false ∷ None ∷ []
unfolding parts_after settings_by_rules
some_settings = refl
