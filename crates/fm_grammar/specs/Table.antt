-- What may come next, as a stack of the symbols that must still come, and the first token that can't.
use Rattle.std.specs.Prelude.{ℕ, zero, suc, ◌+◌, max, Bool, false, ◌&&◌, ◌==◌, nat_le, bytes_eq, if◌then◌else◌, List, [], ◌∷◌, ◌++◌, Option, Some, None, Ok, Err}
use Rattle.fm_lex.specs.declared.spot.Spot.{Spot}
use Rattle.fm_lex.specs.declared.kind.Kind.{Kind}
use Rattle.fm_lex.specs.declared.kind.Kind.TheVariants.{Name, Number}
use Rattle.fm_lex.specs.declared.kind.Kind.TheVariants as kinds
use Rattle.fm_lex.specs.declared.keyword.Keyword.TheVariants.{Formula}
use Rattle.fm_lex.specs.Tokens.{Lexed}
use Rattle.fm_grammar.specs.Signs.{open_brace, close_brace, semicolon, divided_version, division_word}
use Rattle.fm_grammar.specs.Within.{Limits, limits}
use Rattle.fm_grammar.specs.Reads.{Fault, lexical, expected, too_nested}
use Rattle.fm_grammar.specs.Rules.{Rule, Sym, factor, inner, inside, kind_code, may_end, one, rules_of, whole}

-- what a symbol wants after a token, if it takes it
abbrev pub taking : ℕ → List Rule → Option (List Sym)
taking code [] = None
taking code (r ∷ rs) = if kind_code r.first == code then Some r.next else taking code rs

-- how many tokens of the open expression were read, and what must still come
pub record Stack : Type 0 where
  pub used : ℕ
  pub syms : List Sym

-- the count after a token of a symbol, and the count behind a symbol that is left out
abbrev pub after_token : Sym → ℕ → ℕ
after_token s u = if inside s then u + 1 else 0

-- outside of expressions nothing was read of one
abbrev pub left_out : Sym → ℕ → ℕ
left_out s u = if inside s then u else 0

-- the stack after a token that the first symbol takes or leaves to those below
abbrev pub fed_on : Sym → ℕ → Option (List Sym) → List Sym → Option Stack → Option Stack
fed_on s u (Some next) below skipped = Some (record { used = after_token s u; syms = next ++ below })
fed_on s u None below skipped = if may_end s then skipped else None

-- the stack after a token, or None where it can't stand
abbrev pub feed : ℕ → List Sym → Kind → Option Stack
feed u [] k = None
feed u (s ∷ ss) k = fed_on s u (taking (kind_code k) (rules_of s)) ss (feed (left_out s u) ss k)

-- one less, and 0 stays
abbrev pub one_less : ℕ → ℕ
one_less zero = 0
one_less (suc n) = n

-- a brace that must still be closed is open, unless it must still be opened
abbrev pub opened_by : Sym → ℕ → ℕ
opened_by (one k) n =
    if kind_code k == kind_code close_brace then suc n
    else if kind_code k == kind_code open_brace then one_less n
    else n
opened_by s n = n

-- how many braces are open, where these symbols must still come
abbrev pub opened : List Sym → ℕ
opened [] = 0
opened (s ∷ ss) = opened_by s (opened ss)

-- how many braces must be open at one time
abbrev pub peak : List Sym → ℕ
peak [] = 0
peak (s ∷ ss) = max (opened (s ∷ ss)) (peak ss)

-- how many tokens a symbol of an expression needs
abbrev pub need : Sym → ℕ
need (inner k) = 1
need factor = 1
need s = 0

-- how many tokens the longest expression must have, where so many of the open one were read
abbrev pub want : ℕ → List Sym → ℕ
want u [] = u
want u (s ∷ ss) = if inside s then want (u + need s) ss else max u (want 0 ss)

-- whether a text within the limits may go on
abbrev pub goes_on : Limits → Stack → Bool
goes_on most st = nat_le (peak st.syms) most.braces && nat_le (want st.used st.syms) most.tokens

-- goes on after a token, or stops at it
abbrev pub trip_on : Limits → Option Stack → Spot → (Stack → Option Fault) → Option Fault
trip_on most None spot go = Some (expected spot)
trip_on most (Some st) spot go = if goes_on most st then go st else Some (too_nested spot)

-- the fault at the first token that can't stand, from a stack on
unfoldable pub trip : Limits → ℕ → List Sym → List Lexed → Option Fault
trip most u ss [] = None
trip most u ss (Ok t ∷ ts) = trip_on most (feed u ss t.kind) t.spot (λ st. trip most st.used st.syms ts)
trip most u ss (Err f ∷ ts) = Some (lexical f)

-- ---- whether a text states its division, by its first four tokens

-- a number of this value
abbrev pub has_value : ℕ → Kind → Bool
has_value n (Number v) = v == n
has_value n k = false

-- the word and the number of the version of scores that may state a division, and what ends them
abbrev pub opens_divided : Lexed → Lexed → Lexed → Bool
opens_divided (Ok w) (Ok n) (Ok e) =
    (kind_code w.kind == kind_code (kinds.Keyword Formula))
    && (has_value divided_version n.kind && (kind_code e.kind == kind_code semicolon))
opens_divided w n e = false

-- the name before a division
abbrev pub is_division : Lexed → Bool
is_division (Ok t) = (kind_code t.kind == kind_code Name) && bytes_eq t.text division_word
is_division (Err f) = false

-- this name comes first
abbrev pub says_division : List Lexed → Bool
says_division [] = false
says_division (t ∷ ts) = is_division t

-- whether a text states its division
abbrev pub is_divided : List Lexed → Bool
is_divided (w ∷ n ∷ e ∷ ts) = opens_divided w n e && says_division ts
is_divided ts = false

-- the fault at the first token of a text that can't stand
abbrev pub first_fault : List Lexed → Option Fault
first_fault ts = trip limits 0 (whole (is_divided ts)) ts
