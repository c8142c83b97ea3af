-- A duration from a count.
use Rattle.std.proofs.Common.{◌≡◌, List, ◌∷◌, refl, ap, ◌∙◌}
use Rattle.fm_lex.specs.declared.keyword.Keyword.TheVariants.{Ticks}
use Rattle.fm_lex.specs.Tokens.{Lexed}
use Rattle.fm_grammar.specs.Score.{Leaf}
use Rattle.fm_grammar.specs.Grammar.{DurationForm, ticks}
use Rattle.fm_grammar.specs.Grammar as forms
use Rattle.fm_grammar.specs.Signs.{key}
use Rattle.fm_grammar.specs.Spelling.{duration_text}
use Rattle.fm_grammar.specs.Standing.{duration_tree}
use Rattle.fm_terms.specs.Counts.{CountForm, CountTree, fixed, drawn, count_text, count_tree, timed_view}

-- the form of a duration of so many ticks
abbrev pub timed_form : Leaf → CountForm → DurationForm
timed_form w (fixed n) = forms.DurationForm.fixed (ticks w n)
timed_form w (drawn o e c m n) = forms.DurationForm.computed w o e c m n

timed_text : (w : Leaf) (c : CountForm) (next : List Lexed)
    → key Ticks w ∷ count_text c next ≡ duration_text (timed_form w c) next
timed_text w (fixed n) next = refl
timed_text w (drawn o e c m n) next = refl

timed_tree : (w : Leaf) (c : CountForm) → timed_view (count_tree c) ≡ duration_tree (timed_form w c)
timed_tree w (fixed n) = refl
timed_tree w (drawn o e c m n) = refl

pub timed_spells : (w : Leaf) (c : CountForm) (l new : List Lexed) → l ≡ count_text c new
    → key Ticks w ∷ l ≡ duration_text (timed_form w c) new
timed_spells w c l new is = ap (λ y. key Ticks w ∷ y) is ∙ timed_text w c new

pub timed_stands : (w : Leaf) (c : CountForm) (x : CountTree) → x ≡ count_tree c → timed_view x ≡ duration_tree
    (timed_form w c)
timed_stands w c x is = ap timed_view is ∙ timed_tree w c
