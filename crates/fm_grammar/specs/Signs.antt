-- Tokens of each kind.
use Rattle.std.specs.Prelude.{ℕ, List, codes, Ok}
use Rattle.fm_lex.specs.declared.kind.Kind.{Kind}
use Rattle.fm_lex.specs.declared.kind.Kind.TheVariants.{Number, Symbol}
use Rattle.fm_lex.specs.declared.kind.Kind.TheVariants as kinds
use Rattle.fm_lex.specs.declared.keyword.Keyword.{Keyword}
use Rattle.fm_lex.specs.Tokens.{Lexed}
use Rattle.fm_grammar.specs.Score.{Leaf}
use Rattle.fm_grammar.specs.Grammar.{NumForm}

-- ;
abbrev pub semicolon : Kind
semicolon = Symbol 59

-- {
abbrev pub open_brace : Kind
open_brace = Symbol 123

-- }
abbrev pub close_brace : Kind
close_brace = Symbol 125

-- (
abbrev pub open_parenthesis : Kind
open_parenthesis = Symbol 40

-- )
abbrev pub close_parenthesis : Kind
close_parenthesis = Symbol 41

-- [
abbrev pub open_bracket : Kind
open_bracket = Symbol 91

-- ]
abbrev pub close_bracket : Kind
close_bracket = Symbol 93

-- ,
abbrev pub comma : Kind
comma = Symbol 44

-- =
abbrev pub equals : Kind
equals = Symbol 61

-- /
abbrev pub slash : Kind
slash = Symbol 47

-- +
abbrev pub plus_sign : Kind
plus_sign = Symbol 43

-- -
abbrev pub minus_sign : Kind
minus_sign = Symbol 45

-- *
abbrev pub asterisk : Kind
asterisk = Symbol 42

-- %
abbrev pub percent : Kind
percent = Symbol 37

-- the version of scores that may state their division
abbrev pub divided_version : ℕ
divided_version = 2

-- the name before a division
abbrev pub division_word : List ℕ
division_word = codes "division"

-- a token of a kind
abbrev pub tok : Kind → Leaf → Lexed
tok k l = Ok (record { kind = k; text = l.text; spot = l.spot })

-- a token that is a keyword
abbrev pub key : Keyword → Leaf → Lexed
key w l = tok (kinds.Keyword w) l

-- a token that is a number
abbrev pub num : NumForm → Lexed
num n = tok (Number n.value) n.leaf
