-- The tokens of a text end once, and a reader begins with them.
use Rattle.std.proofs.Common.{◌≡◌, ℕ, Bool, true, false, cond, List, [], ◌∷◌, ◌++◌, Ok, Err, sym, ap, ◌∙◌, subst, drop}
use Rattle.fm_lex.specs.declared.token.LexFault.{LexFault}
use Rattle.fm_lex.specs.Tokens.{Lexeme, Lexed, tokens, advanced}
use Rattle.fm_lex.specs.Layout.{is_end, is_last, AreTokens}
use Rattle.fm_lex.proofs.LayoutLemmas.{laid}
use Rattle.fm_terms.specs.Reader.{EndsOnce, left_with}

once : (in_comment : Bool) (before left : List ℕ) (ts : List Lexed) → AreTokens in_comment before left ts → EndsOnce ts
once in_comment before left [] are = absurd are
once in_comment before left (t ∷ []) are = are.last
once in_comment before left (t ∷ u ∷ us) are = (
  are.goes_on,
  once false (before ++ (are.gap ++ _)) are.after (u ∷ us) are.next,
)

tokens_once : (text : List ℕ) → EndsOnce (tokens text)
tokens_once text = once false [] text (tokens text) ((laid text).fresh [])

rejoined : (t : Lexeme) (l : List Lexed) → EndsOnce l → l ≡ Ok t ∷ drop 1 l → left_with t (advanced l) ≡ l
rejoined t [] once is = absurd once
rejoined t (x ∷ []) once is =
    let first : x ≡ Ok t = cc in
    let last : is_end t.kind ≡ true = subst (λ y. is_last y ≡ true) first once in
    ap (λ b. Ok t ∷ cond b [] (x ∷ [])) last ∙ ap (λ y. y ∷ []) (sym first)
rejoined t (x ∷ u ∷ us) once is =
    let first : x ≡ Ok t = cc in
    let more : is_end t.kind ≡ false = subst (λ y. is_last y ≡ false) first once.0 in
    ap (λ b. Ok t ∷ cond b [] (u ∷ us)) more ∙ ap (λ y. y ∷ u ∷ us) (sym first)

-- a reader on the first token
pub opens : (text : List ℕ) (l m : List Lexed) (t : Lexeme) → l ≡ tokens text → l ≡ Ok t ∷ drop 1 l → m ≡ advanced l
    → left_with t m ≡ tokens text
opens text l m t from first moved =
    ap (left_with t) moved ∙ rejoined t l (subst EndsOnce (sym from) (tokens_once text)) first ∙ from

-- keeps what a reader keeps
pub opens_once : (text : List ℕ) (l m : List Lexed) (t : Lexeme) → l ≡ tokens text → l ≡ Ok t ∷ drop 1 l
    → m ≡ advanced l
    → EndsOnce (left_with t m)
opens_once text l m t from first moved = subst EndsOnce (sym (opens text l m t from first moved)) (tokens_once text)

alone : (f : LexFault) (l : List Lexed) → EndsOnce l → l ≡ Err f ∷ drop 1 l → l ≡ Err f ∷ []
alone f [] once is = absurd once
alone f (x ∷ []) once is = cc
alone f (x ∷ u ∷ us) once is =
    let first : x ≡ Err f = cc in
    let more : true ≡ false = subst (λ y. is_last y ≡ false) first once.0 in
    cc

-- a text that begins with a fault
pub opens_ill : (text : List ℕ) (l : List Lexed) (f : LexFault) → l ≡ tokens text → l ≡ Err f ∷ drop 1 l
    → tokens text ≡ Err f ∷ []
opens_ill text l f from first = sym from ∙ alone f l (subst EndsOnce (sym from) (tokens_once text)) first
