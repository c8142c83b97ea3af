-- Parts are in form where the walk over them passes and they have two files.
use Rattle.std.proofs.Common.{◌≡◌, ◌∙◌, ◌&&◌, ◌==◌, ℕ, Bool, true, false, not, suc, List, [], ◌∷◌, length, refl, sym, ap, arith}
use Rattle.std.specs.Prelude.{nat_le}
use Rattle.std.specs.List.{list_all}
use Rattle.std.proofs.lemmas.Bool.Decides.{nat_tests}
use Rattle.fm_words.specs.Rules.{Part, Word, file, files_in, flag, has_each_once, has_two_files, is_in_form, is_known, is_seen, stray, unvalued, valued}
use Rattle.fm_words.proofs.WalkParts.{passes}
use Rattle.fm_words.proofs.WalkViews.{Place, first, past, second}

-- how many names of files may still come
abbrev pub left : Place → ℕ
left first = 2
left second = 1
left past = 0

one_less : (n k : ℕ) → nat_le n k ≡ nat_le (suc n) (suc k)
one_less n k = grind (arith, nat_tests)

none_left : (n : ℕ) → nat_le (suc n) 0 ≡ false
none_left n = grind (arith, nat_tests)

never : (a b c : Bool) → c ≡ false → false ≡ (a && (b && c))
never true true c is = sym is
never true false c is = refl
never false b c is = refl

moved : (x a b c p : Bool) → p ≡ (a && (b && c)) → (x && p) ≡ (a && ((x && b) && c))
moved true a b c p is = is
moved false true b c p is = refl
moved false false b c p is = refl

-- parts pass where they are known, stand once, and have no more files than may come
pub passes_form : (place : Place) (seen : List Word) (parts : List Part) → passes place seen parts
    ≡ (list_all is_known parts && (has_each_once seen parts && nat_le (length (files_in parts)) (left place)))
passes_form first seen [] = refl
passes_form second seen [] = refl
passes_form past seen [] = refl
passes_form first seen (file word ∷ parts) = passes_form second seen parts
    ∙ ap (λ b. list_all is_known parts && (has_each_once seen parts && b)) (one_less (length (files_in parts)) 1)
passes_form second seen (file word ∷ parts) = passes_form past seen parts
    ∙ ap (λ b. list_all is_known parts && (has_each_once seen parts && b)) (one_less (length (files_in parts)) 0)
passes_form past seen (file word ∷ parts) = never _ _ _ (none_left (length (files_in parts)))
passes_form place seen (flag name ∷ parts) = moved (not (is_seen name seen)) _ _ _ _ (passes_form place (name ∷ seen) parts)
passes_form place seen (valued name text ∷ parts) = moved (not (is_seen name seen)) _ _ _ _ (passes_form place (name ∷ seen) parts)
passes_form place seen (unvalued name ∷ parts) = refl
passes_form place seen (stray word ∷ parts) = refl

two_within : (n : ℕ) → (n == 2) ≡ (nat_le n 2 && (n == 2))
two_within n = grind (arith, nat_tests)

split : (a b c d : Bool) → d ≡ (c && d) → (a && (b && d)) ≡ ((a && (b && c)) && d)
split true true c d is = is
split true false c d is = refl
split false b c d is = refl

-- parts are in form where they pass and have two files
pub in_form : (parts : List Part) → is_in_form parts ≡ (passes first [] parts && has_two_files parts)
in_form parts = split (list_all is_known parts) (has_each_once [] parts) (nat_le (length (files_in parts)) 2) (has_two_files parts)
    (two_within (length (files_in parts)))
    ∙ ap (λ b. b && has_two_files parts) (sym (passes_form first [] parts))
