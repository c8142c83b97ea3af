-- Which score a text reads as, and at which token a text trips.
use Rattle.std.specs.Prelude.{◌≡◌, ◌⊎◌, List, [], ◌∷◌, ◌++◌, Ok, Err}
use Rattle.fm_lex.specs.declared.spot.Spot.{Spot}
use Rattle.fm_lex.specs.declared.token.LexFault.{LexFault}
use Rattle.fm_lex.specs.Tokens.{Lexed}
use Rattle.fm_grammar.specs.Score.{Score}
use Rattle.fm_grammar.specs.Grammar.{ScoreForm}
use Rattle.fm_grammar.specs.Spelling.{score_text}
use Rattle.fm_grammar.specs.Within.{Limits, limits, EntriesWithin, DivisionStands}
use Rattle.fm_grammar.specs.Standing.{score_tree}

-- the tokens spell a form of the grammar within the limits, with a division where one may stand, which stands for the
-- score
pub record Reads (most : Limits) (ts : List Lexed) (score : Score) : Type 0 where
  pub form : ScoreForm
  pub text : ts ≡ score_text form
  pub within : EntriesWithin most form.entries
  pub head : DivisionStands form.version form.divided
  pub stands_for : score ≡ score_tree form

-- some text of the grammar within the limits begins with the tokens
pub record Begins (most : Limits) (ts : List Lexed) : Type 0 where
  pub rest : List Lexed
  pub score : Score
  pub reads : Reads most (ts ++ rest) score

-- the first token, or fault of the tokens, with which no text within the grammar's limits goes on
pub record Trips (ts before : List Lexed) (at : Lexed) : Type 0 where
  pub after : List Lexed
  pub place : ts ≡ before ++ at ∷ after
  pub goes : Begins limits before
  pub stops : Begins limits (before ++ at ∷ []) → ⊥

-- why a text is refused, and where
pub data Fault : Type 0 where
  lexical : LexFault → Fault
  expected : Spot → Fault
  too_nested : Spot → Fault

-- the fault at a token behind others: it can't stand there in any text, or only in one that passes a limit
abbrev pub FaultAt : List Lexed → Lexed → Fault → Type 0
FaultAt before (Err f) (lexical g) = f ≡ g
FaultAt before (Ok t) (expected spot) =
    (spot ≡ t.spot) × ((most : Limits) → Begins most (before ++ Ok t ∷ []) → ⊥)
FaultAt before (Ok t) (too_nested spot) = (spot ≡ t.spot) × (most : Limits) × Begins most (before ++ Ok t ∷ [])
FaultAt before at fault = ⊥

-- the tokens trip, with this fault
pub record TripsWith (ts : List Lexed) (fault : Fault) : Type 0 where
  pub before : List Lexed
  pub at : Lexed
  pub trips : Trips ts before at
  pub why : FaultAt before at fault

-- the tokens read as a score, or trip with a fault
abbrev pub Verdict : List Lexed → Type 0
Verdict ts = ((score : Score) × Reads limits ts score) ⊎ ((fault : Fault) × TripsWith ts fault)
