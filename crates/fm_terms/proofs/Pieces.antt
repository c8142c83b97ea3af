-- A form from its pieces: the tokens one after another, and the nodes.
use Rattle.std.proofs.Common.{◌≡◌, ℕ, ◌<◌, ◌≤◌, List, [], ◌∷◌, ◌++◌, Result, Ok, Err, ap, ◌∙◌, append_assoc, arith}
use Rattle.std.specs.Prelude.{IfOk}
use Rattle.fm_lex.specs.declared.spot.Spot.{Spot}
use Rattle.fm_lex.specs.declared.kind.Kind.{Kind}
use Rattle.fm_lex.specs.declared.kind.Kind.TheVariants as kinds
use Rattle.fm_lex.specs.declared.keyword.Keyword.{Keyword}
use Rattle.fm_lex.specs.Tokens.{Lexed}
use Rattle.fm_value.specs.declared.node.Node.{Node}
use Rattle.fm_grammar.specs.Score.{Leaf, Postfix}
use Rattle.fm_grammar.specs.Grammar.{Scaling, Adding, Comparing, FactorForm, TermsForm, SumsForm, compare, term, sum, expr}
use Rattle.fm_grammar.specs.Signs.{tok, key}
use Rattle.fm_grammar.specs.Spelling.{scaling_kind, adding_kind, comparing_word, factor_text, terms_text, sums_text, expr_text}
use Rattle.fm_grammar.specs.Standing.{PlacedNode, scaling_node, adding_node, comparing_node, factor_nodes, terms_nodes, sums_nodes, expr_nodes}
use Rattle.fm_terms.specs.declared.fault.ParseFault.{ParseFault}
use Rattle.fm_terms.specs.Drafts.{Drafted, spotted, extended, PairForm, pair_text}
use Rattle.fm_terms.proofs.Drafting.{extended-twice}

pub compared_text : (word : Keyword) (f : Comparing) → word ≡ comparing_word f → (l : Leaf) (p : PairForm)
    (r1 r2 : List Lexed)
    → r1 ≡ pair_text p r2
    → tok (kinds.Keyword word) l ∷ r1 ≡ factor_text (compare f l p.opens p.left p.comma_at p.right p.closes) r2
compared_text word f is l p r1 r2 pair = ap (λ w. tok (kinds.Keyword w) l ∷ r1) is
    ∙ ap (λ y. key (comparing_word f) l ∷ y) pair

pub compared_nodes : (node : Node) (f : Comparing) → node ≡ comparing_node f → (p q r : Postfix) (spot : Spot)
    (xs ys : List PlacedNode)
    → q ≡ extended p (xs ++ ys) → r ≡ extended q (spotted node spot ∷ [])
    → r ≡ extended p (xs ++ (ys ++ spotted (comparing_node f) spot ∷ []))
compared_nodes node f is p q r spot xs ys first second =
    extended-twice p q r (xs ++ ys) (spotted node spot ∷ []) first second
    ∙ ap (λ n. extended p ((xs ++ ys) ++ spotted n spot ∷ [])) is
    ∙ ap (extended p) (append_assoc xs ys (spotted (comparing_node f) spot ∷ []))

scaled_text : (k : Kind) (s : Scaling) → k ≡ scaling_kind s → (l : Leaf) (f : FactorForm) (ts : TermsForm)
    (r1 r2 r3 : List Lexed)
    → r1 ≡ factor_text f r2 → r2 ≡ terms_text ts r3 → tok k l ∷ r1 ≡ terms_text (term s l f ts) r3
scaled_text k s is l f ts r1 r2 r3 first second =
    ap (λ j. tok j l ∷ r1) is ∙ ap (λ y. tok (scaling_kind s) l ∷ y) (first ∙ ap (factor_text f) second)

scaled_nodes : (node : Node) (s : Scaling) → node ≡ scaling_node s → (p q r v : Postfix) (spot : Spot)
    (xs ys : List PlacedNode)
    → q ≡ extended p xs → r ≡ extended q (spotted node spot ∷ []) → v ≡ extended r ys
    → v ≡ extended p (xs ++ spotted (scaling_node s) spot ∷ ys)
scaled_nodes node s is p q r v spot xs ys first second third =
    extended-twice p q v xs (spotted node spot ∷ ys) first (extended-twice q r v (spotted node spot ∷ []) ys
    second third)
    ∙ ap (λ n. extended p (xs ++ spotted n spot ∷ ys)) is

added_text : (k : Kind) (s : Adding) → k ≡ adding_kind s → (l : Leaf) (f : FactorForm) (ts : TermsForm)
    (ss : SumsForm)
    (r1 r2 r3 r4 : List Lexed) → r1 ≡ factor_text f r2 → r2 ≡ terms_text ts r3 → r3 ≡ sums_text ss r4
    → tok k l ∷ r1 ≡ sums_text (sum s l f ts ss) r4
added_text k s is l f ts ss r1 r2 r3 r4 first second third =
    ap (λ j. tok j l ∷ r1) is
    ∙ ap (λ y. tok (adding_kind s) l ∷ y) (first ∙ ap (factor_text f) (second ∙ ap (terms_text ts) third))

added_nodes : (node : Node) (s : Adding) → node ≡ adding_node s → (p q r v x : Postfix) (spot : Spot)
    (xs ys zs : List PlacedNode)
    → q ≡ extended p xs → r ≡ extended q ys → v ≡ extended r (spotted node spot ∷ []) → x ≡ extended v zs
    → x ≡ extended p (xs ++ (ys ++ spotted (adding_node s) spot ∷ zs))
added_nodes node s is p q r v x spot xs ys zs first second third fourth =
    extended-twice p q x xs (ys ++ spotted node spot ∷ zs) first
    (extended-twice q r x ys (spotted node spot ∷ zs) second (extended-twice r v x (spotted node spot ∷ []) zs
    third fourth))
    ∙ ap (λ n. extended p (xs ++ (ys ++ spotted n spot ∷ zs))) is

-- ---- what was read behind a factor

pub at_least : (r : Result ℕ ParseFault) (a b : ℕ) → a ≤ b → IfOk r (λ n. b ≤ n) → IfOk r (λ n. a ≤ n)
at_least (Ok n) a b less most = omega (arith, less, most)
at_least (Err e) a b less most = tt

pub more_than : (r : Result ℕ ParseFault) (a b : ℕ) → a < b → IfOk r (λ n. b ≤ n) → IfOk r (λ n. a < n)
more_than (Ok n) a b less most = omega (arith, less, most)
more_than (Err e) a b less most = tt

pub inner_read : (r : Result ℕ ParseFault) (p q v x : Postfix) (l1 l2 l3 l4 : List Lexed)
    → Drafted factor_text factor_nodes p q l1 l2 → Drafted terms_text terms_nodes q v l2 l3
    → IfOk r (λ _. Drafted sums_text sums_nodes v x l3 l4) → IfOk r (λ _. Drafted expr_text expr_nodes p x l1 l4)
inner_read (Err e) p q v x l1 l2 l3 l4 f ts ss = tt
inner_read (Ok n) p q v x l1 l2 l3 l4 f ts ss = record {
  form = expr f.form ts.form ss.form;
  spells = f.spells ∙ ap (factor_text f.form) (ts.spells ∙ ap (terms_text ts.form) ss.spells);
  grows = extended-twice _ _ _ _ _ f.grows (extended-twice _ _ _ _ _ ts.grows ss.grows);
}

pub scaled_read : (r : Result ℕ ParseFault) (k : Kind) (node : Node) (s : Scaling) → k ≡ scaling_kind s
    → node ≡ scaling_node s → (l : Leaf) (p q v x : Postfix) (l1 l2 l3 l4 : List Lexed) → l1 ≡ tok k l ∷ l2
    → Drafted factor_text factor_nodes p q l2 l3 → v ≡ extended q (spotted node l.spot ∷ [])
    → IfOk r (λ _. Drafted terms_text terms_nodes v x l3 l4) → IfOk r (λ _. Drafted terms_text terms_nodes p x l1 l4)
scaled_read (Err e) k node s kind is l p q v x l1 l2 l3 l4 first f pushed ts = tt
scaled_read (Ok n) k node s kind is l p q v x l1 l2 l3 l4 first f pushed ts = record {
  form = term s l f.form ts.form;
  spells = first ∙ scaled_text k s kind l f.form ts.form l2 l3 l4 f.spells ts.spells;
  grows = scaled_nodes node s is p q v x l.spot (factor_nodes f.form) (terms_nodes ts.form) f.grows pushed ts.grows;
}

pub added_read : (r : Result ℕ ParseFault) (k : Kind) (node : Node) (s : Adding) → k ≡ adding_kind s
    → node ≡ adding_node s → (l : Leaf) (p q w v x : Postfix) (l1 l2 l3 l4 l5 : List Lexed) → l1 ≡ tok k l ∷ l2
    → Drafted factor_text factor_nodes p q l2 l3 → Drafted terms_text terms_nodes q w l3 l4
    → v ≡ extended w (spotted node l.spot ∷ [])
    → IfOk r (λ _. Drafted sums_text sums_nodes v x l4 l5) → IfOk r (λ _. Drafted sums_text sums_nodes p x l1 l5)
added_read (Err e) k node s kind is l p q w v x l1 l2 l3 l4 l5 first f ts pushed ss = tt
added_read (Ok n) k node s kind is l p q w v x l1 l2 l3 l4 l5 first f ts pushed ss = record {
  form = sum s l f.form ts.form ss.form;
  spells = first ∙ added_text k s kind l f.form ts.form ss.form l2 l3 l4 l5 f.spells ts.spells ss.spells;
  grows = added_nodes node s is p q w v x l.spot (factor_nodes f.form) (terms_nodes ts.form) (sums_nodes ss.form)
      f.grows ts.grows pushed ss.grows;
}
