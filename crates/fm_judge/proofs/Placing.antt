-- The number and the place of a fault of the parser.
use Rattle.std.proofs.Common.{◌≡◌, ℕ, ◌≤◌, List, length, Some, refl, sym, ◌∙◌, ap, subst}
use Rattle.fm_lex.specs.declared.lexer.TheConstants.{MAX_TEXT}
use Rattle.fm_lex.specs.declared.spot.Spot.{Spot}
use Rattle.fm_lex.specs.declared.token.LexFault.{LexFault}
use Rattle.fm_lex.specs.declared.token.LexFault.TheVariants.{BadByte, BadNumber}
use Rattle.fm_lex.specs.Tokens.{tokens}
use Rattle.fm_grammar.specs.Reads.{Fault, lexical, expected, too_nested, Reads, TripsWith}
use Rattle.fm_grammar.specs.Score.{Score}
use Rattle.fm_grammar.specs.Within.{limits}
use Rattle.fm_meaning.specs.Fault.{NumberedFault}
use Rattle.fm_meaning.specs.Faults.{score_faults, first_found}
use Rattle.fm_meaning.specs.Verdict.{grammar_fault, trips, finds, HasFault}
use Rattle.fm_rules.specs.Why.{why_number, fault_at}
use Rattle.fm_rules.specs.declared.why.Why.{Why}
use Rattle.fm_rules.specs.declared.fault.CheckFault.{CheckFault}
use Rattle.fm_rules.specs.declared.fault.CheckFault.TheVariants.{Refused, Memory}
use Rattle.fm_judge.specs.Judging.{IsFirst}
use Rattle.fm_terms.specs.declared.fault.ParseFault.{ParseFault}
use Rattle.fm_terms.specs.declared.fault.ParseFault.TheVariants.{Expected, TooNested}
use Rattle.fm_parse.specs.Whole.{IsFault}

-- the tokens trip
placed : (text : List ℕ) (why : Fault) (spot : Spot) (n : ℕ)
    → ◌≡◌ {A = NumberedFault} (record { spot = spot; number = n }) (grammar_fault why)
    → length text ≤ MAX_TEXT → TripsWith (tokens text) why → HasFault text spot.line spot.column n
placed text why spot n same short t = record { cause = trips short why t same }

-- at a byte that begins no token
pub placed_byte : (text : List ℕ) (f : LexFault) (spot : Spot) → f ≡ BadByte spot → length text ≤ MAX_TEXT
    → TripsWith (tokens text) (lexical f) → HasFault text spot.line spot.column 1
placed_byte text f spot byte short t =
    placed text (lexical (BadByte spot)) spot 1 refl short (subst (λ z. TripsWith (tokens text) (lexical z)) byte t)

-- at a number
pub placed_number : (text : List ℕ) (f : LexFault) (spot : Spot) → f ≡ BadNumber spot → length text ≤ MAX_TEXT
    → TripsWith (tokens text) (lexical f) → HasFault text spot.line spot.column 2
placed_number text f spot number short t =
    placed text (lexical (BadNumber spot)) spot 2 refl short (subst (λ z. TripsWith (tokens text) (lexical z)) number t)

-- at a token that can't stand there
pub placed_token : (text : List ℕ) (e : ParseFault) (spot : Spot) → e ≡ Expected spot → length text ≤ MAX_TEXT → IsFault e (tokens text)
    → HasFault text spot.line spot.column 3
placed_token text e spot same short t =
    placed text (expected spot) spot 3 refl short (subst (λ z. IsFault z (tokens text)) same t)

-- at a token past a limit
pub placed_deep : (text : List ℕ) (e : ParseFault) (spot : Spot) → e ≡ TooNested spot → length text ≤ MAX_TEXT → IsFault e (tokens text)
    → HasFault text spot.line spot.column 4
placed_deep text e spot same short t =
    placed text (too_nested spot) spot 4 refl short (subst (λ z. IsFault z (tokens text)) same t)

-- at the first fault of a score as which the text reads
pub placed_first : (text : List ℕ) (score : Score) (e : CheckFault) (why : Why) (spot : Spot) (n : ℕ) → e ≡ Refused why spot
    → n ≡ why_number why → length text ≤ MAX_TEXT → Reads limits (tokens text) score → IsFirst e score
    → HasFault text spot.line spot.column n
placed_first text score e why spot n same is short reads first =
    let found : first_found (score_faults score) ≡ Some (fault_at spot why) = subst (λ z. IsFirst z score) same first in
    record { cause = finds short score reads (found ∙ ap (λ k. Some (record { spot = spot; number = k })) (sym is)) }

-- the first fault, as the checker says it
pub first_said : (e : CheckFault) (score : Score)
    → ((why : Why) (spot : Spot) → e ≡ Refused why spot
    → first_found (score_faults score) ≡ Some (fault_at spot why))
    → IsFirst e score
first_said (Refused why spot) score said = said why spot refl
first_said Memory score said = tt
