-- The tokens of values and lists fit their symbols.
use Rattle.std.proofs.Common.{◌+◌, ◌≤◌, List, [], ◌∷◌, refl, arith}
use Rattle.fm_lex.specs.Tokens.{Lexed}
use Rattle.fm_lex.specs.declared.kind.Kind.{Kind}
use Rattle.fm_lex.specs.declared.kind.Kind.TheVariants.{Number, Pitch}
use Rattle.fm_lex.specs.declared.kind.Kind.TheVariants as kinds
use Rattle.fm_lex.specs.declared.keyword.Keyword.TheVariants.{Flat, By, Slope, To, Pause, Breath, Ticks, Max, Key}
use Rattle.fm_grammar.specs.Score.{Leaf}
use Rattle.fm_grammar.specs.Grammar.{NumForm, Mores, no_more, more, Listed, LengthForm, share, ticks, PartForm, flat, slope, pause, breath, ExprForm, expr, AmountForm, negative, DurationForm, fixed, PitchForm, named, keyed}
use Rattle.fm_grammar.specs.Grammar as forms
use Rattle.fm_grammar.specs.Signs.{open_parenthesis, close_parenthesis, comma, slash, minus_sign, tok, key, num}
use Rattle.fm_grammar.specs.Spelling.{mores_text, listed_text, num_text, length_text, part_text, expr_text, amount_text, duration_text, pitch_text}
use Rattle.fm_grammar.specs.Within.{Limits, expr_size, AmountWithin, DurationWithin, PitchWithin, MoresWithin, ListedWithin}
use Rattle.fm_grammar.specs.Rules.{Sym, one, Item, any_number}
use Rattle.fm_grammar.specs.Table.{opened}
use Rattle.fm_grammar.specs.Rules as table
use Rattle.fm_grammar.proofs.Fits.{Derives}
use Rattle.fm_grammar.proofs.FromForms.{Anyhow, outer, skipped, fits_expr}

-- ---- values

-- a number
pub fits_num : (most : Limits) (n : NumForm) (ss : List Sym) (w : List Lexed) → opened ss ≤ most.braces
    → Anyhow most ss w → Anyhow most (one any_number ∷ ss) (num n ∷ w)
fits_num most n ss w o any = outer most (one any_number) ss [] (Number n.value) n.leaf w refl refl o (any 0 (omega arith))

-- an expression, and a token that is no part of it behind it
pub fits_outermost : (most : Limits) (e : ExprForm) (k : Kind) (l : Leaf) (ss : List Sym) (w : List Lexed) → expr_size e ≤ most.tokens
    → Anyhow most (one k ∷ ss) (tok k l ∷ w) → Derives most 0 (table.expr (one k ∷ ss)) (expr_text e (tok k l ∷ w))
fits_outermost most e k l ss w small any =
    fits_expr most e 0 (one k ∷ ss) (tok k l ∷ w) (any (0 + expr_size e) (omega arith))

-- an amount
pub fits_amount : (most : Limits) (a : AmountForm) (ss : List Sym) (w : List Lexed) → AmountWithin most.tokens a
    → opened ss ≤ most.braces → Anyhow most ss w → Anyhow most (table.amount ∷ ss) (amount_text a w)
fits_amount most (forms.AmountForm.number n) ss w small o any =
    outer most table.amount ss [] (Number n.value) n.leaf w refl refl o (any 0 (omega arith))
fits_amount most (negative m n) ss w small o any =
    outer most table.amount ss (one any_number ∷ []) minus_sign m (num n ∷ w) refl refl o (fits_num most n ss w o any 0 (omega arith))
fits_amount most (forms.AmountForm.computed p e c) ss w small o any =
    outer most table.amount ss (table.expr (one close_parenthesis ∷ [])) open_parenthesis p
    (expr_text e (tok close_parenthesis c ∷ w)) refl refl o
    (fits_outermost most e close_parenthesis c ss w small
    (outer most (one close_parenthesis) ss [] close_parenthesis c w refl refl o (any 0 (omega arith))))

fits_length : (most : Limits) (l : LengthForm) (ss : List Sym) (w : List Lexed) → opened ss ≤ most.braces
    → Anyhow most ss w → Anyhow most (table.length ∷ ss) (length_text l w)
fits_length most (share a s b) ss w o any =
    outer most table.length ss (one slash ∷ one any_number ∷ []) (Number a.value) a.leaf (tok slash s ∷ num b ∷ w) refl refl o
    (outer most (one slash) (one any_number ∷ ss) [] slash s (num b ∷ w) refl refl o (fits_num most b ss w o any 0 (omega arith)) 0
    (omega arith))
fits_length most (ticks p n) ss w o any =
    outer most table.length ss (one any_number ∷ []) (kinds.Keyword Ticks) p (num n ∷ w) refl refl o
    (fits_num most n ss w o any 0 (omega arith))

-- behind an expression in parentheses, its greatest value
pub fits_clamped : (most : Limits) (e : ExprForm) (c m : Leaf) (n : NumForm) (ss : List Sym) (w : List Lexed) → expr_size e ≤ most.tokens
    → opened ss ≤ most.braces → Anyhow most ss w
    → Derives most 0 (table.with_most ss) (expr_text e (tok close_parenthesis c ∷ key Max m ∷ num n ∷ w))
fits_clamped most e c m n ss w small o any =
    fits_outermost most e close_parenthesis c (one (kinds.Keyword Max) ∷ one any_number ∷ ss) (key Max m ∷ num n ∷ w) small
    (outer most (one close_parenthesis) (one (kinds.Keyword Max) ∷ one any_number ∷ ss) [] close_parenthesis c
    (key Max m ∷ num n ∷ w) refl refl o
    (outer most (one (kinds.Keyword Max)) (one any_number ∷ ss) [] (kinds.Keyword Max) m (num n ∷ w) refl refl o
    (fits_num most n ss w o any 0 (omega arith)) 0 (omega arith)))

-- a duration
pub fits_duration : (most : Limits) (d : DurationForm) (ss : List Sym) (w : List Lexed) → DurationWithin most.tokens d
    → opened ss ≤ most.braces → Anyhow most ss w → Anyhow most (table.duration ∷ ss) (duration_text d w)
fits_duration most (fixed (share a s b)) ss w small o any =
    outer most table.duration ss (one slash ∷ one any_number ∷ []) (Number a.value) a.leaf (tok slash s ∷ num b ∷ w) refl refl o
    (outer most (one slash) (one any_number ∷ ss) [] slash s (num b ∷ w) refl refl o (fits_num most b ss w o any 0 (omega arith)) 0
    (omega arith))
fits_duration most (fixed (ticks p n)) ss w small o any =
    outer most table.duration ss (table.counted ∷ []) (kinds.Keyword Ticks) p (num n ∷ w) refl refl o
    (outer most table.counted ss [] (Number n.value) n.leaf w refl refl o (any 0 (omega arith)) 0 (omega arith))
fits_duration most (forms.DurationForm.computed p q e c m n) ss w small o any =
    let later = expr_text e (tok close_parenthesis c ∷ key Max m ∷ num n ∷ w) in
    outer most table.duration ss (table.counted ∷ []) (kinds.Keyword Ticks) p (tok open_parenthesis q ∷ later) refl refl o
    (outer most table.counted ss (table.with_most []) open_parenthesis q later refl refl o (fits_clamped most e c m n ss w small o any) 0
    (omega arith))

fits_pitch : (most : Limits) (p : PitchForm) (ss : List Sym) (w : List Lexed) → PitchWithin most.tokens p
    → opened ss ≤ most.braces → Anyhow most ss w → Anyhow most (table.pitch ∷ ss) (pitch_text p w)
fits_pitch most (named k l) ss w small o any = outer most table.pitch ss [] (Pitch k) l w refl refl o (any 0 (omega arith))
fits_pitch most (keyed p a) ss w small o any =
    outer most table.pitch ss (table.amount ∷ []) (kinds.Keyword Key) p (amount_text a w) refl refl o
    (fits_amount most a ss w small o any 0 (omega arith))

fits_part : (most : Limits) (p : PartForm) (ss : List Sym) (w : List Lexed) → opened ss ≤ most.braces
    → Anyhow most ss w → Anyhow most (table.part ∷ ss) (part_text p w)
fits_part most (flat p l b s) ss w o any =
    outer most table.part ss (table.length ∷ one (kinds.Keyword By) ∷ one any_number ∷ []) (kinds.Keyword Flat) p
    (length_text l (key By b ∷ num s ∷ w)) refl refl o
    (fits_length most l (one (kinds.Keyword By) ∷ one any_number ∷ ss) (key By b ∷ num s ∷ w) o
    (outer most (one (kinds.Keyword By)) (one any_number ∷ ss) [] (kinds.Keyword By) b (num s ∷ w) refl refl o
    (fits_num most s ss w o any 0 (omega arith))) 0 (omega arith))
fits_part most (slope p l b s t e) ss w o any =
    let last = one (kinds.Keyword To) ∷ one any_number ∷ ss in
    let end = key To t ∷ num e ∷ w in
    outer most table.part ss (table.length ∷ one (kinds.Keyword By) ∷ one any_number ∷ one (kinds.Keyword To) ∷ one any_number ∷ [])
    (kinds.Keyword Slope) p
    (length_text l (key By b ∷ num s ∷ end)) refl refl o
    (fits_length most l (one (kinds.Keyword By) ∷ one any_number ∷ last) (key By b ∷ num s ∷ end) o
    (outer most (one (kinds.Keyword By)) (one any_number ∷ last) [] (kinds.Keyword By) b (num s ∷ end) refl refl o
    (fits_num most s last end o
    (outer most (one (kinds.Keyword To)) (one any_number ∷ ss) [] (kinds.Keyword To) t (num e ∷ w) refl refl o
    (fits_num most e ss w o any 0 (omega arith))) 0 (omega arith))) 0 (omega arith))
fits_part most (pause p l) ss w o any =
    outer most table.part ss (table.length ∷ []) (kinds.Keyword Pause) p (length_text l w) refl refl o
    (fits_length most l ss w o any 0 (omega arith))
fits_part most (breath p l) ss w o any =
    outer most table.part ss (table.length ∷ []) (kinds.Keyword Breath) p (length_text l w) refl refl o
    (fits_length most l ss w o any 0 (omega arith))

-- ---- lists

-- the tokens of each item that keeps a condition fit its symbol
abbrev ItemFits : Limits → Item → {A : Type 0} → (A → List Lexed → List Lexed) → (A → Type 0) → Type 0
ItemFits most i {A} text Within = (x : A) (ss : List Sym) (w : List Lexed) → Within x → opened ss ≤ most.braces
    → Anyhow most ss w → Anyhow most (table.item i ∷ ss) (text x w)

fits_mores : {A : Type 0} (most : Limits) (i : Item) (text : A → List Lexed → List Lexed) (Within : A → Type 0)
    → ItemFits most i text Within
    → (xs : Mores A) (ss : List Sym) (w : List Lexed) → MoresWithin Within xs → opened ss ≤ most.braces
    → Anyhow most ss w → Anyhow most (table.mores i ∷ ss) (mores_text text xs w)
fits_mores most i text Within fits no_more ss w small o any = skipped most (table.mores i) ss w refl refl refl any
fits_mores most i text Within fits (more c x xs) ss w small o any =
    outer most (table.mores i) ss (table.with_commas i []) comma c (text x (mores_text text xs w)) refl refl o
    (fits x (table.mores i ∷ ss) (mores_text text xs w) small.0 o (fits_mores most i text Within fits xs ss w small.1 o any) 0
    (omega arith))

fits_listed : {A : Type 0} (most : Limits) (i : Item) (text : A → List Lexed → List Lexed) (Within : A → Type 0)
    → ItemFits most i text Within
    → (xs : Listed A) (ss : List Sym) (w : List Lexed) → ListedWithin Within xs → opened ss ≤ most.braces
    → Anyhow most ss w → Anyhow most (table.with_commas i ss) (listed_text text xs w)
fits_listed most i text Within fits xs ss w small o any =
    fits xs.first (table.mores i ∷ ss) (mores_text text xs.others w) small.0 o
    (fits_mores most i text Within fits xs.others ss w small.1 o any)

-- items without a limit
abbrev Free : {A : Type 0} → A → Type 0
Free x = Unit {0}

free_mores : {A : Type 0} (xs : Mores A) → MoresWithin Free xs
free_mores no_more = tt
free_mores (more c x xs) = (tt, free_mores xs)

-- a list of pitches
pub fits_pitches : (most : Limits) (ps : Listed PitchForm) (ss : List Sym) (w : List Lexed) → ListedWithin (PitchWithin most.tokens) ps
    → opened ss ≤ most.braces → Anyhow most ss w → Anyhow most (table.with_commas table.pitches ss) (listed_text pitch_text ps w)
fits_pitches most ps ss w small o any =
    fits_listed most table.pitches pitch_text (PitchWithin most.tokens) (fits_pitch most) ps ss w small o any

-- a list of lengths
pub fits_lengths : (most : Limits) (ls : Listed LengthForm) (ss : List Sym) (w : List Lexed)
    → opened ss ≤ most.braces → Anyhow most ss w → Anyhow most (table.with_commas table.lengths ss) (listed_text length_text ls w)
fits_lengths most ls ss w o any =
    fits_listed most table.lengths length_text Free (λ x rs v free. fits_length most x rs v) ls ss w (tt, free_mores ls.others) o any

-- a list of numbers
pub fits_numbers : (most : Limits) (ns : Listed NumForm) (ss : List Sym) (w : List Lexed)
    → opened ss ≤ most.braces → Anyhow most ss w → Anyhow most (table.with_commas table.numbers ss) (listed_text num_text ns w)
fits_numbers most ns ss w o any =
    fits_listed most table.numbers num_text Free (λ x rs v free. fits_num most x rs v) ns ss w (tt, free_mores ns.others) o any

-- a list of parts
pub fits_parts : (most : Limits) (ps : Listed PartForm) (ss : List Sym) (w : List Lexed)
    → opened ss ≤ most.braces → Anyhow most ss w → Anyhow most (table.with_commas table.parts ss) (listed_text part_text ps w)
fits_parts most ps ss w o any =
    fits_listed most table.parts part_text Free (λ x rs v free. fits_part most x rs v) ps ss w (tt, free_mores ps.others) o any
