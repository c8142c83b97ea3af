-- Tokens that say something are those of a form, whose tree stands for it.
use Rattle.std.proofs.Common.{◌≡◌, ℕ, ◌++◌, List, [], ◌∷◌, map, refl, ap, sym, ◌∙◌, codes}
use Rattle.fm_grammar.specs.Grammar as form
use Rattle.fm_grammar.specs.Signs.{key}
use Rattle.fm_grammar.specs.Spelling.{listed_text, num_text, length_text, part_text, expr_text, factor_text, terms_text, sums_text, amount_text, duration_text, pitch_text}
use Rattle.fm_grammar.specs.Standing.{listed_tree, num_tree, length_tree, part_tree, expr_tree, amount_tree, duration_tree, pitch_tree}
use Rattle.fm_grammar.specs.declared.number.Number.{Number}
use Rattle.fm_lex.specs.declared.keyword.Keyword.TheVariants as word
use Rattle.fm_lex.specs.Tokens.{Lexed}
use Rattle.fm_meaning.specs.Resolve.{length_ticks, part_of, draw_of, key_draw, span_of, stretch_of}
use Rattle.fm_meaning.specs.Resolved as says
use Rattle.fm_value.specs.declared.node.Node.{Node}
use Rattle.fm_value.specs.declared.node.Node.TheVariants as node
use Rattle.fm_warp.specs.declared.part.Part.{Part}
use Rattle.fm_warp.specs.declared.part.Part.TheVariants as part
use Rattle.fm_spelling.specs.Values as s
use Rattle.fm_spelling.specs.Values.{sign, SeveralSay, NumberSays, LengthSays, PartSays, ExprSays, FactorSays, TermsSay, SumsSay, AmountSays, DurationSays, PitchSays}
use Rattle.fm_spelling.proofs.FromForms.{nodes, of_factor, of_terms, of_sums, nodes_same}

-- these tokens are those of a form before others, and it has this meaning
pub record IsForm {F X : Type 0} (spelt : F → List Lexed → List Lexed) (meant : F → X) (before : List Lexed) (x : X)
    (after : List Lexed) : Type 0 where
  pub form : F
  pub text : before ≡ spelt form after
  pub means : x ≡ meant form

pub two : {A B C : Type 0} (f : A → B → C) (a b : A) (c d : B) → a ≡ b → c ≡ d → f a c ≡ f b d
two f a b c d p q = ap (λ z. f z c) p ∙ ap (λ z. f b z) q

pub three : {A B C D : Type 0} (f : A → B → C → D) (a b : A) (c d : B) (x y : C) → a ≡ b → c ≡ d → x ≡ y → f a c x ≡ f b d y
three f a b c d x y p q r = two (f a) c d x y q r ∙ ap (λ z. f z d y) p

-- ---- lists and what they are of

module _ {A B C : Type 0} (Item : List Lexed → C → List Lexed → Type 0) (text : A → List Lexed → List Lexed) (of : A → B) (f : B → C)
    (item : (b : List Lexed) (x : C) (a : List Lexed) → Item b x a → IsForm text (λ y. f (of y)) b x a) where
  abbrev listed : A → form.Mores A → form.Listed A
  listed x xs = record { first = x; others = xs }

  pub several_is : {b : List Lexed} {xs : List C} {a : List Lexed} → SeveralSay Item b xs a
      → IsForm (listed_text text) (λ ys. map f (listed_tree of ys)) b xs a
  several_is (s.one i) =
      let p = item _ _ _ i in
      record { form = listed p.form form.no_more; text = p.text; means = ap (λ z. z ∷ []) p.means }
  several_is (s.more c i is) =
      let p = item _ _ _ i in
      let q = several_is is in
      record {
        form = listed p.form (form.more c q.form.first q.form.others);
        text = p.text ∙ ap (λ z. text p.form (sign (codes ",") c ∷ z)) q.text;
        means = two (λ y ys. y ∷ ys) _ _ _ _ p.means q.means;
      }

number_is : (b : List Lexed) (x : ℕ) (a : List Lexed) → NumberSays b x a → IsForm num_text (λ n. (num_tree n).value) b x a
number_is b x a (s.NumberSays.number n) = record { form = n; text = refl; means = refl }

pub length_is : (whole : ℕ) (b : List Lexed) (x : ℕ) (a : List Lexed) → LengthSays whole b x a
    → IsForm length_text (λ l. length_ticks whole (length_tree l)) b x a
length_is whole b x a (s.share n m l) = record { form = form.share n l m; text = refl; means = refl }
length_is whole b x a (s.ticks w n) = record { form = form.ticks w n; text = refl; means = refl }

pub part_is : (whole : ℕ) (b : List Lexed) (x : Part) (a : List Lexed) → PartSays whole b x a
    → IsForm part_text (λ p. part_of whole (part_tree p)) b x a
part_is whole b x a (s.flat w o n l) =
    let p = length_is whole _ _ _ l in
    record {
      form = form.flat w p.form o n;
      text = ap (λ z. key word.Flat w ∷ z) p.text;
      means = ap (λ z. part.Flat z (stretch_of n.value)) p.means;
    }
part_is whole b x a (s.slope w o e n m l) =
    let p = length_is whole _ _ _ l in
    record {
      form = form.slope w p.form o n e m;
      text = ap (λ z. key word.Slope w ∷ z) p.text;
      means = ap (λ z. part.Slope z (stretch_of n.value) (stretch_of m.value)) p.means;
    }
part_is whole b x a (s.pause w l) =
    let p = length_is whole _ _ _ l in
    record { form = form.pause w p.form; text = ap (λ z. key word.Pause w ∷ z) p.text; means = ap part.Pause p.means }
part_is whole b x a (s.breath w l) =
    let p = length_is whole _ _ _ l in
    record { form = form.breath w p.form; text = ap (λ z. key word.Breath w ∷ z) p.text; means = ap part.Breath p.means }

-- ---- expressions

mutual
  nodes_is : {b : List Lexed} {x : List Node} {a : List Lexed} → ExprSays b x a → IsForm expr_text nodes b x a
  nodes_is (s.expr f t u) =
      let p = factor_is f in
      let q = terms_is t in
      let r = sums_is u in
      record {
        form = form.expr p.form q.form r.form;
        text = p.text ∙ ap (λ z. factor_text p.form z) (q.text ∙ ap (λ z. terms_text q.form z) r.text);
        means = three (λ xs ys zs. xs ++ (ys ++ zs)) _ _ _ _ _ _ p.means q.means r.means;
      }

  factor_is : {b : List Lexed} {x : List Node} {a : List Lexed} → FactorSays b x a → IsForm factor_text of_factor b x a
  factor_is (s.FactorSays.number n) = record { form = form.FactorForm.number n; text = refl; means = refl }
  factor_is (s.register r l) = record { form = form.register r l; text = refl; means = refl }
  factor_is (s.index r l) = record { form = form.index r l; text = refl; means = refl }
  factor_is (s.negate m f) =
      let p = factor_is f in
      record {
        form = form.negate m p.form;
        text = ap (λ z. sign (codes "-") m ∷ z) p.text;
        means = ap (λ z. z ++ node.Negate ∷ []) p.means;
      }
  factor_is (s.group o c e) =
      let p = nodes_is e in
      record { form = form.group o p.form c; text = ap (λ z. sign (codes "(") o ∷ z) p.text; means = p.means }
  factor_is (s.pick w o c e) =
      let p = nodes_is e in
      record {
        form = form.pick w o p.form c;
        text = ap (λ z. key word.Pick w ∷ sign (codes "(") o ∷ z) p.text;
        means = ap (λ z. z ++ node.Pick ∷ []) p.means;
      }
  factor_is (s.compare w o m c s.least d e) =
      let p = nodes_is d in
      let q = nodes_is e in
      record {
        form = form.compare form.least w o p.form m q.form c;
        text = ap (λ z. key word.Min w ∷ sign (codes "(") o ∷ z) (p.text ∙ ap (λ z. expr_text p.form (sign (codes ",") m ∷ z)) q.text);
        means = two (λ xs ys. xs ++ (ys ++ node.Min ∷ [])) _ _ _ _ p.means q.means;
      }
  factor_is (s.compare w o m c s.greatest d e) =
      let p = nodes_is d in
      let q = nodes_is e in
      record {
        form = form.compare form.greatest w o p.form m q.form c;
        text = ap (λ z. key word.Max w ∷ sign (codes "(") o ∷ z) (p.text ∙ ap (λ z. expr_text p.form (sign (codes ",") m ∷ z)) q.text);
        means = two (λ xs ys. xs ++ (ys ++ node.Max ∷ [])) _ _ _ _ p.means q.means;
      }
  factor_is (s.compare w o m c s.below d e) =
      let p = nodes_is d in
      let q = nodes_is e in
      record {
        form = form.compare form.below w o p.form m q.form c;
        text = ap (λ z. key word.Less w ∷ sign (codes "(") o ∷ z) (p.text ∙ ap (λ z. expr_text p.form (sign (codes ",") m ∷ z)) q.text);
        means = two (λ xs ys. xs ++ (ys ++ node.Less ∷ [])) _ _ _ _ p.means q.means;
      }
  factor_is (s.compare w o m c s.equal d e) =
      let p = nodes_is d in
      let q = nodes_is e in
      record {
        form = form.compare form.equal w o p.form m q.form c;
        text = ap (λ z. key word.Same w ∷ sign (codes "(") o ∷ z) (p.text ∙ ap (λ z. expr_text p.form (sign (codes ",") m ∷ z)) q.text);
        means = two (λ xs ys. xs ++ (ys ++ node.Same ∷ [])) _ _ _ _ p.means q.means;
      }

  terms_is : {b : List Lexed} {x : List Node} {a : List Lexed} → TermsSay b x a → IsForm terms_text of_terms b x a
  terms_is s.no_term = record { form = form.no_term; text = refl; means = refl }
  terms_is (s.term l s.Scales.times f t) =
      let p = factor_is f in
      let q = terms_is t in
      record {
        form = form.term form.times l p.form q.form;
        text = ap (λ z. sign (codes "*") l ∷ z) (p.text ∙ ap (λ z. factor_text p.form z) q.text);
        means = two (λ xs ys. xs ++ node.Multiply ∷ ys) _ _ _ _ p.means q.means;
      }
  terms_is (s.term l s.over f t) =
      let p = factor_is f in
      let q = terms_is t in
      record {
        form = form.term form.over l p.form q.form;
        text = ap (λ z. sign (codes "/") l ∷ z) (p.text ∙ ap (λ z. factor_text p.form z) q.text);
        means = two (λ xs ys. xs ++ node.Divide ∷ ys) _ _ _ _ p.means q.means;
      }
  terms_is (s.term l s.modulo f t) =
      let p = factor_is f in
      let q = terms_is t in
      record {
        form = form.term form.modulo l p.form q.form;
        text = ap (λ z. sign (codes "%") l ∷ z) (p.text ∙ ap (λ z. factor_text p.form z) q.text);
        means = two (λ xs ys. xs ++ node.Remain ∷ ys) _ _ _ _ p.means q.means;
      }

  sums_is : {b : List Lexed} {x : List Node} {a : List Lexed} → SumsSay b x a → IsForm sums_text of_sums b x a
  sums_is s.no_sum = record { form = form.no_sum; text = refl; means = refl }
  sums_is (s.sum l s.plus f t u) =
      let p = factor_is f in
      let q = terms_is t in
      let r = sums_is u in
      record {
        form = form.sum form.plus l p.form q.form r.form;
        text =
            ap (λ z. sign (codes "+") l ∷ z)
            (p.text ∙ ap (λ z. factor_text p.form z) (q.text ∙ ap (λ z. terms_text q.form z) r.text));
        means = three (λ xs ys zs. xs ++ (ys ++ node.Add ∷ zs)) _ _ _ _ _ _ p.means q.means r.means;
      }
  sums_is (s.sum l s.minus f t u) =
      let p = factor_is f in
      let q = terms_is t in
      let r = sums_is u in
      record {
        form = form.sum form.minus l p.form q.form r.form;
        text =
            ap (λ z. sign (codes "-") l ∷ z)
            (p.text ∙ ap (λ z. factor_text p.form z) (q.text ∙ ap (λ z. terms_text q.form z) r.text));
        means = three (λ xs ys zs. xs ++ (ys ++ node.Subtract ∷ zs)) _ _ _ _ _ _ p.means q.means r.means;
      }

pub expr_is : {b : List Lexed} {x : List Node} {a : List Lexed} → ExprSays b x a → IsForm expr_text (λ e. (expr_tree e).nodes) b x a
expr_is d =
    let p = nodes_is d in
    record { form = p.form; text = p.text; means = p.means ∙ sym (nodes_same p.form) }

-- ---- values

pub amount_is : {b : List Lexed} {x : says.DataSource} {a : List Lexed} → AmountSays b x a
    → IsForm amount_text (λ y. draw_of (amount_tree y)) b x a
amount_is (s.AmountSays.number n) = record { form = form.AmountForm.number n; text = refl; means = refl }
amount_is (s.negative m n) = record { form = form.negative m n; text = refl; means = refl }
amount_is (s.AmountSays.computed o c e) =
    let p = expr_is e in
    record {
      form = form.AmountForm.computed o p.form c;
      text = ap (λ z. sign (codes "(") o ∷ z) p.text;
      means = ap says.drawn p.means;
    }

pub duration_is : (whole : ℕ) {b : List Lexed} {x : says.LengthSource} {a : List Lexed} → DurationSays whole b x a
    → IsForm duration_text (λ d. span_of whole (duration_tree d)) b x a
duration_is whole (s.fixed l) =
    let p = length_is whole _ _ _ l in
    record { form = form.fixed p.form; text = p.text; means = ap says.LengthSource.ticks p.means }
duration_is whole (s.DurationSays.computed w o c m n e) =
    let p = expr_is e in
    record {
      form = form.DurationForm.computed w o p.form c m n;
      text = ap (λ z. key word.Ticks w ∷ sign (codes "(") o ∷ z) p.text;
      means = ap (λ z. says.counted z n.value) p.means;
    }

pitch_is : (b : List Lexed) (x : says.DataSource) (a : List Lexed) → PitchSays b x a
    → IsForm pitch_text (λ p. key_draw (pitch_tree p)) b x a
pitch_is b x a (s.named k l) = record { form = form.named k l; text = refl; means = refl }
pitch_is b x a (s.keyed w d) =
    let p = amount_is d in
    record { form = form.keyed w p.form; text = ap (λ z. key word.Key w ∷ z) p.text; means = p.means }

pub pitches_is : {b : List Lexed} {x : List says.DataSource} {a : List Lexed} → SeveralSay PitchSays b x a
    → IsForm (listed_text pitch_text) (λ ys. map key_draw (listed_tree pitch_tree ys)) b x a
pitches_is d = several_is PitchSays pitch_text pitch_tree key_draw pitch_is d

pub numbers_is : {b : List Lexed} {x : List ℕ} {a : List Lexed} → SeveralSay NumberSays b x a
    → IsForm (listed_text num_text) (λ ys. map Number.value (listed_tree num_tree ys)) b x a
numbers_is d = several_is NumberSays num_text num_tree Number.value number_is d
