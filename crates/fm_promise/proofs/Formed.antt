-- What the grammar gives to each statement of a text: its expressions are trees of not too many nodes, whose registers
-- are there, its lists have entries, and its forks have branches.
use Rattle.std.proofs.Common.{◌≡◌, ◌<◌, ◌≤◌, true, List, [], ◌∷◌, ◌++◌, map, length, Some, refl, ◌∙◌, arith}
use Rattle.std.specs.Prelude.{Bool, nat_lt}
use Rattle.std.specs.List.{AllByRecursion, list_all}
use Rattle.std.proofs.lemmas.Bool.{and_from, and_parts}
use Rattle.std.proofs.lemmas.List.{length-map}
use Rattle.std.proofs.lemmas.List.Folds.{list_all-append}
use Rattle.fm_lex.specs.declared.keyword.Keyword.TheVariants.{Max, By, To}
use Rattle.fm_lex.specs.Tokens.{Lexed}
use Rattle.fm_value.specs.declared.node.Node.{Node}
use Rattle.fm_value.specs.declared.node.Node.TheVariants as nodes
use Rattle.fm_value.specs.declared.expr.TheConstants.{MAX_NODES}
use Rattle.fm_value.specs.declared.registers.TheConstants.{REGISTERS}
use Rattle.fm_value.specs.Tree.{Tree, tree_of}
use Rattle.fm_grammar.specs.Score as text
use Rattle.fm_grammar.specs.Grammar.{NumForm, Mores, no_more, more, Listed, LengthForm, share, ticks, PartForm, flat, slope, pause, breath, Comparing, least, greatest, below, equal, Scaling, times, over, modulo, Adding, plus, minus, ExprForm, expr, FactorForm, negate, group, pick, compare, TermsForm, no_term, term, SumsForm, no_sum, sum, AmountForm, negative, DurationForm, fixed, PitchForm, named, keyed, program, bend, channel, volume, gate, artic, loud, branch, note, play, rest, skip, control, set, choice, repeat, again, call, warp, par, rhythm, shape, phrase, plays}
use Rattle.fm_grammar.specs.Grammar as forms
use Rattle.fm_grammar.specs.Signs.{close_parenthesis, comma, tok, key, num}
use Rattle.fm_grammar.specs.Spelling.{mores_text, listed_text, num_text, length_text, part_text, expr_text, factor_text, terms_text, sums_text, amount_text, duration_text, pitch_text}
use Rattle.fm_grammar.specs.Standing.{PlacedNode, mores_tree, listed_tree, scaling_node, adding_node, comparing_node, node_at, expr_nodes, factor_nodes, terms_nodes, sums_nodes, expr_tree, amount_tree, duration_tree, pitch_tree}
use Rattle.fm_grammar.specs.Within.{limits, expr_size, AmountWithin, DurationWithin, PitchWithin, MoresWithin, ListedWithin}
use Rattle.fm_promise.proofs.Registers.{Tame}
use Rattle.fm_promise.proofs.Operands.{expr_few, expr_whole}

-- ---- what is said of a text

-- a node's register is there
abbrev pub node_there : Node → Bool
node_there (nodes.Register k) = nat_lt k REGISTERS
node_there n = true

-- an expression: a tree of nodes at their spots
pub record IsPostfix (e : text.Postfix) : Type 0 where
  pub places : List PlacedNode
  pub nodes : e.nodes ≡ map (λ p. p.node) places
  pub spots : e.spots ≡ map (λ p. p.spot) places
  pub few : length e.nodes ≤ MAX_NODES
  pub tree : Tree
  pub whole : tree_of e.nodes ≡ Some tree
  pub registers : list_all node_there e.nodes ≡ true

-- a number of a message
abbrev pub AmountFormed : text.Amount → Type 0
AmountFormed (text.literal v spot) = Unit {0}
AmountFormed (text.Amount.computed e) = IsPostfix e

-- a duration
abbrev pub DurationFormed : text.Duration → Type 0
DurationFormed (text.fixed l) = Unit {0}
DurationFormed (text.Duration.computed e most) = IsPostfix e

-- a pitch
abbrev pub PitchFormed : text.Pitch → Type 0
PitchFormed (text.named k spot) = Unit {0}
PitchFormed (text.keyed a spot) = AmountFormed a

-- the pitches of a note
abbrev pub PitchesFormed : List text.Pitch → Type 0
PitchesFormed ps = (0 < length ps) × AllByRecursion PitchFormed ps

-- a fork with a branch
abbrev pub HasText : text.Branches → Type 0
HasText text.none = ⊥
HasText (text.branch body branches) = Unit {0}

abbrev mutual
  -- a statement
  pub Formed : text.Stmt → Type 0
  Formed (text.note pitches duration) = PitchesFormed pitches × DurationFormed duration
  Formed (text.play pitches) = PitchesFormed pitches
  Formed (text.rest duration) = DurationFormed duration
  Formed text.skip = Unit {0}
  Formed (text.control controller amount) = AmountFormed amount
  Formed (text.program amount) = AmountFormed amount
  Formed (text.bend amount) = AmountFormed amount
  Formed (text.set register e) = (register < REGISTERS) × IsPostfix e
  Formed (text.choice e first second) = IsPostfix e × FormedIn first × FormedIn second
  Formed (text.repeat count body) = FormedIn body
  Formed (text.again e most body) = IsPostfix e × FormedIn body
  Formed (text.call name) = Unit {0}
  Formed (text.par branches) = HasText branches × FormedAmong branches
  Formed (text.warp name body) = FormedIn body
  Formed (text.channel number body) = FormedIn body
  Formed (text.volume number body) = FormedIn body
  Formed (text.gate number body) = FormedIn body
  Formed (text.rhythm lengths body) = (0 < length lengths) × FormedIn body
  Formed (text.artic numbers body) = (0 < length numbers) × FormedIn body
  Formed (text.loud numbers body) = (0 < length numbers) × FormedIn body

  -- the statements of a block
  pub FormedIn : text.Body → Type 0
  FormedIn text.done = Unit {0}
  FormedIn (text.then spot s body) = Formed s × FormedIn body

  -- the branches of a fork
  pub FormedAmong : text.Branches → Type 0
  FormedAmong text.none = Unit {0}
  FormedAmong (text.branch body branches) = FormedIn body × FormedAmong branches

-- an entry of a score
abbrev pub EntryFormed : text.Entry → Type 0
EntryFormed (text.shape name parts) = 0 < length parts
EntryFormed (text.phrase name body) = FormedIn body
EntryFormed (text.plays spot s) = Formed s

-- ---- registers of expressions

-- the registers of nodes are there
abbrev There : List PlacedNode → Type 0
There ps = list_all (λ p. node_there p.node) ps ≡ true

-- those of nodes, and of nodes behind them
there_both : (xs ys : List PlacedNode) → There xs → There ys → There (xs ++ ys)
there_both xs ys first second =
    list_all-append (λ p. node_there p.node) xs ys
    ∙ and_from (list_all (λ p. node_there p.node) xs) (list_all (λ p. node_there p.node) ys) first second

-- the same without the spots
there_bare : (ps : List PlacedNode) → There ps → list_all node_there (map (λ p. p.node) ps) ≡ true
there_bare [] is = refl
there_bare (p ∷ ps) is =
    let both = and_parts (node_there p.node) (list_all (λ p. node_there p.node) ps) is in
    and_from (node_there p.node) (list_all node_there (map (λ p. p.node) ps)) both.0 (there_bare ps both.1)

-- an operator names no register
scaling_there : (s : Scaling) → node_there (scaling_node s) ≡ true
scaling_there times = refl
scaling_there over = refl
scaling_there modulo = refl

adding_there : (a : Adding) → node_there (adding_node a) ≡ true
adding_there plus = refl
adding_there minus = refl

comparing_there : (c : Comparing) → node_there (comparing_node c) ≡ true
comparing_there least = refl
comparing_there greatest = refl
comparing_there below = refl
comparing_there equal = refl

-- a node and those behind it
there_first : (p : PlacedNode) (ps : List PlacedNode) → node_there p.node ≡ true → There ps → There (p ∷ ps)
there_first p ps first others = and_from (node_there p.node) (list_all (λ q. node_there q.node) ps) first others

-- what is behind a token
behind : (t : Lexed) (ts : List Lexed) → Tame (t ∷ ts) → Tame ts
behind t ts is = is.1

mutual
  -- an expression
  expr_there : (e : ExprForm) (next : List Lexed) → Tame (expr_text e next) → There (expr_nodes e) × Tame next
  expr_there (expr f ts ss) next is =
      let x = factor_there f (terms_text ts (sums_text ss next)) is in
      let y = terms_there ts (sums_text ss next) x.1 in
      let z = sums_there ss next y.1 in
      (there_both (factor_nodes f) (terms_nodes ts ++ sums_nodes ss) x.0 (there_both (terms_nodes ts) (sums_nodes ss) y.0 z.0), z.1)

  -- a factor
  factor_there : (f : FactorForm) (next : List Lexed) → Tame (factor_text f next) → There (factor_nodes f) × Tame next
  factor_there (forms.FactorForm.number n) next is = (refl, behind (num n) next is)
  factor_there (forms.register r l) next is =
      (there_first (node_at (nodes.Register r) l) [] is.0 refl, is.1)
  factor_there (forms.index i l) next is = (refl, is.1)
  factor_there (negate m f) next is =
      let x = factor_there f next is.1 in
      (there_both (factor_nodes f) (node_at nodes.Negate m ∷ []) x.0 refl, x.1)
  factor_there (group o e c) next is =
      let x = expr_there e (tok close_parenthesis c ∷ next) is.1 in (x.0, behind (tok close_parenthesis c) next x.1)
  factor_there (pick w o e c) next is =
      let x = expr_there e (tok close_parenthesis c ∷ next) is.1.1 in
      (there_both (expr_nodes e) (node_at nodes.Pick w ∷ []) x.0 refl, behind (tok close_parenthesis c) next x.1)
  factor_there (compare f w o a m b c) next is =
      let x = expr_there a (tok comma m ∷ expr_text b (tok close_parenthesis c ∷ next)) is.1.1 in
      let y = expr_there b (tok close_parenthesis c ∷ next) (behind (tok comma m) (expr_text b (tok close_parenthesis c ∷ next)) x.1) in
      let n = node_at (comparing_node f) w in (
        there_both (expr_nodes a) (expr_nodes b ++ n ∷ []) x.0
            (there_both (expr_nodes b) (n ∷ []) y.0 (there_first n [] (comparing_there f) refl)),
        behind (tok close_parenthesis c) next y.1,
      )

  -- what follows a factor
  terms_there : (ts : TermsForm) (next : List Lexed) → Tame (terms_text ts next) → There (terms_nodes ts) × Tame next
  terms_there no_term next is = (refl, is)
  terms_there (term s l f ts) next is =
      let x = factor_there f (terms_text ts next) is.1 in
      let y = terms_there ts next x.1 in
      let n = node_at (scaling_node s) l in
      (there_both (factor_nodes f) (n ∷ terms_nodes ts) x.0 (there_first n (terms_nodes ts) (scaling_there s) y.0), y.1)

  -- what follows a term
  sums_there : (ss : SumsForm) (next : List Lexed) → Tame (sums_text ss next) → There (sums_nodes ss) × Tame next
  sums_there no_sum next is = (refl, is)
  sums_there (sum a l f ts ss) next is =
      let x = factor_there f (terms_text ts (sums_text ss next)) is.1 in
      let y = terms_there ts (sums_text ss next) x.1 in
      let z = sums_there ss next y.1 in
      let n = node_at (adding_node a) l in (
        there_both (factor_nodes f) (terms_nodes ts ++ n ∷ sums_nodes ss) x.0
            (there_both (terms_nodes ts) (n ∷ sums_nodes ss) y.0 (there_first n (sums_nodes ss) (adding_there a) z.0)),
        z.1,
      )

-- an expression of the grammar is one of the text
pub expr_formed : (e : ExprForm) (next : List Lexed) → expr_size e ≤ limits.tokens → Tame (expr_text e next)
    → IsPostfix (expr_tree e) × Tame next
expr_formed e next small is =
    let there = expr_there e next is in
    let whole = expr_whole e in (
      record {
        places = expr_nodes e;
        nodes = refl;
        spots = refl;
        few = omega (arith, small, expr_few e, length-map (expr_nodes e) (λ p. p.node));
        tree = whole.0;
        whole = whole.1;
        registers = there_bare (expr_nodes e) there.0;
      },
      there.1,
    )

-- ---- what is made of expressions

pub amount_formed : (a : AmountForm) (next : List Lexed) → AmountWithin limits.tokens a → Tame (amount_text a next)
    → AmountFormed (amount_tree a) × Tame next
amount_formed (forms.AmountForm.number n) next small is = (tt, is.1)
amount_formed (negative m n) next small is = (tt, is.1.1)
amount_formed (forms.AmountForm.computed o e c) next small is =
    let x = expr_formed e (tok close_parenthesis c ∷ next) small is.1 in
    (x.0, behind (tok close_parenthesis c) next x.1)

pub length_passed : (l : LengthForm) (next : List Lexed) → Tame (length_text l next) → Tame next
length_passed (share a s b) next is = is.1.1.1
length_passed (ticks w n) next is = is.1.1

pub duration_formed : (d : DurationForm) (next : List Lexed) → DurationWithin limits.tokens d → Tame (duration_text d next)
    → DurationFormed (duration_tree d) × Tame next
duration_formed (fixed l) next small is = (tt, length_passed l next is)
duration_formed (forms.DurationForm.computed w o e c m n) next small is =
    let later = key Max m ∷ num n ∷ next in
    let x = expr_formed e (tok close_parenthesis c ∷ later) small is.1.1 in
    (x.0, (behind (tok close_parenthesis c) later x.1).1.1)

pitch_formed : (p : PitchForm) (next : List Lexed) → PitchWithin limits.tokens p → Tame (pitch_text p next)
    → PitchFormed (pitch_tree p) × Tame next
pitch_formed (named k l) next small is = (tt, is.1)
pitch_formed (keyed w a) next small is = amount_formed a next small is.1

-- ---- lists

more_pitches : (ps : Mores PitchForm) (next : List Lexed) → MoresWithin (PitchWithin limits.tokens) ps
    → Tame (mores_text pitch_text ps next) → AllByRecursion PitchFormed (mores_tree pitch_tree ps) × Tame next
more_pitches no_more next small is = (tt, is)
more_pitches (more c p ps) next small is =
    let x = pitch_formed p (mores_text pitch_text ps next) small.0 is.1 in
    let y = more_pitches ps next small.1 x.1 in ((x.0, y.0), y.1)

pub pitches_formed : (ps : Listed PitchForm) (next : List Lexed) → ListedWithin (PitchWithin limits.tokens) ps
    → Tame (listed_text pitch_text ps next) → PitchesFormed (listed_tree pitch_tree ps) × Tame next
pitches_formed ps next small is =
    let x = pitch_formed ps.first (mores_text pitch_text ps.others next) small.0 is in
    let y = more_pitches ps.others next small.1 x.1 in ((omega arith, (x.0, y.0)), y.1)

-- items that are passed
mores_passed : {A : Type 0} (of : A → List Lexed → List Lexed)
    → ((x : A) (next : List Lexed) → Tame (of x next) → Tame next) → (xs : Mores A) (next : List Lexed)
    → Tame (mores_text of xs next) → Tame next
mores_passed of each no_more next is = is
mores_passed of each (more c x xs) next is =
    mores_passed of each xs next (each x (mores_text of xs next) is.1)

pub listed_passed : {A : Type 0} (of : A → List Lexed → List Lexed)
    → ((x : A) (next : List Lexed) → Tame (of x next) → Tame next) → (xs : Listed A) (next : List Lexed)
    → Tame (listed_text of xs next) → Tame next
listed_passed of each xs next is = mores_passed of each xs.others next (each xs.first (mores_text of xs.others next) is)

pub num_passed : (n : NumForm) (next : List Lexed) → Tame (num_text n next) → Tame next
num_passed n next is = is.1

pub part_passed : (p : PartForm) (next : List Lexed) → Tame (part_text p next) → Tame next
part_passed (flat w l b s) next is = (length_passed l (key By b ∷ num s ∷ next) is.1).1.1
part_passed (slope w l b s t e) next is =
    (length_passed l (key By b ∷ num s ∷ key To t ∷ num e ∷ next) is.1).1.1.1.1
part_passed (pause w l) next is = length_passed l next is.1
part_passed (breath w l) next is = length_passed l next is.1
