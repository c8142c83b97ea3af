-- What the reading of a whole text says of it.
use Rattle.std.proofs.Common.{◌≡◌, ℕ, inl, inr, List, [], ◌∷◌, Option, None, Result, Ok, Err, refl, sym, ap, ◌∙◌, subst}
use Rattle.std.specs.Prelude.{IfOk, IfErr, ◌⊎◌}
use Rattle.fm_lex.specs.declared.kind.Kind.TheVariants.{End}
use Rattle.fm_lex.specs.Tokens.{Lexeme, Lexed, tokens}
use Rattle.fm_grammar.specs.declared.score.Score as code_score
use Rattle.fm_grammar.specs.Score.{Score, Leaf}
use Rattle.fm_grammar.specs.View.{score_view}
use Rattle.fm_grammar.specs.Grammar.{ScoreForm}
use Rattle.fm_grammar.specs.Signs.{tok}
use Rattle.fm_grammar.specs.Spelling.{score_text}
use Rattle.fm_grammar.specs.Standing.{score_tree}
use Rattle.fm_grammar.specs.Within.{limits, EntriesWithin, DivisionStands}
use Rattle.fm_grammar.specs.Reads.{Reads, Fault, lexical, expected, too_nested, TripsWith, Verdict}
use Rattle.fm_grammar.specs.Rules.{one, whole}
use Rattle.fm_grammar.specs.Table.{is_divided, first_fault, trip}
use Rattle.fm_grammar.proofs.Scores.{whole_alive, trips_with}
use Rattle.fm_grammar.proofs.OneTrip.{one_trip_fault, trips_excludes_reads}
use Rattle.fm_grammar.proofs.Texts.{text_verdict, found_fault, one_score}
use Rattle.fm_grammar.proofs.UniqueScore.{unique_score}
use Rattle.fm_terms.specs.declared.fault.ParseFault.{ParseFault}
use Rattle.fm_terms.specs.declared.fault.ParseFault.TheVariants.{Lex, Expected, TooNested, Memory}
use Rattle.fm_terms.specs.Reader.{tail}
use Rattle.fm_terms.specs.Follow.{At, Says, IsLexical}
use Rattle.fm_parse.specs.Whole.{IsFault, Answers, Refuses, fault_of}
use Rattle.fm_terms.proofs.Steps.{takes_one, lexical_here}

-- a text starts at the symbols of the whole
pub at_start : (ts : List Lexed) → At (first_fault ts) 0 (whole (is_divided ts)) ts
at_start ts = let alive = whole_alive (is_divided ts) in record { trips = refl; braces = alive.peaks; tokens = alive.wants }

-- behind the end nothing is left to trip
pub at_end : (F : Option Fault) (u : ℕ) (l : List Lexed) (e : Leaf) → l ≡ tok End e ∷ [] → At F u (one End ∷ []) l
    → F ≡ None
unfolding trip
at_end F u l e is a =
    let t : Lexeme = record { kind = End; text = e.text; spot = e.spot } in
    let here : l ≡ Ok t ∷ tail l = is ∙ ap (λ y. Ok t ∷ tail y) (sym is) in
    let behind = takes_one t l here F u End [] refl a in
    sym behind.trips ∙ ap (trip limits 0 []) (ap tail is)

module _ (text : List ℕ) where
  reads_of : (form : ScoreForm) (score : Score) → tokens text ≡ score_text form → score ≡ score_tree form
      → Verdict (tokens text)
      → first_fault (tokens text) ≡ None → Reads limits (tokens text) score
  reads_of form score spells stands (inl found) none =
      let other = found.1 in
      let same : form ≡ other.form = unique_score form other.form (sym spells ∙ other.text) in
      record {
        form = form;
        text = spells;
        within = subst (λ f. EntriesWithin limits f.entries) (sym same) other.within;
        head = subst (λ f. DivisionStands f.version f.divided) (sym same) other.head;
        stands_for = stands;
      }
  reads_of form score spells stands (inr found) none = let some = found_fault (tokens text) found.0 found.1 in cc

  -- a text that spells a score, and trips nowhere, reads as it
  pub reads_as : (form : ScoreForm) (score : Score) → tokens text ≡ score_text form → score ≡ score_tree form
      → first_fault (tokens text) ≡ None → Reads limits (tokens text) score
  reads_as form score spells stands none = reads_of form score spells stands (text_verdict text) none

-- the fault of an answer is the one with which the tokens trip
pub says_trips : (ts : List Lexed) (e : ParseFault) → Says e (first_fault ts) → IsFault e ts
says_trips ts (Lex f) says = trips_with ts (lexical f) says
says_trips ts (Expected s) says = trips_with ts (expected s) says
says_trips ts (TooNested s) says = trips_with ts (too_nested s) says
says_trips ts Memory says = tt

-- an error where the text reads is want of memory
err_reads : (ts : List Lexed) (score : Score) (e : ParseFault) → Reads limits ts score → IsFault e ts
    → Answers score (Err e)
err_reads ts score (Lex f) reads is = trips_excludes_reads ts is.before is.at score is.trips reads
err_reads ts score (Expected s) reads is = trips_excludes_reads ts is.before is.at score is.trips reads
err_reads ts score (TooNested s) reads is = trips_excludes_reads ts is.before is.at score is.trips reads
err_reads ts score Memory reads is = tt

-- the score is answered, or memory ran out
pub answered : (ts : List Lexed) (score : Score) (r : Result code_score.Score ParseFault)
    → IfOk r (λ s. Reads limits ts (score_view s)) → IfErr r (λ e. IsFault e ts) → Reads limits ts score
    → Answers score r
answered ts score (Ok s) ok err reads = one_score limits ts (score_view s) score ok reads
answered ts score (Err e) ok err reads = err_reads ts score e reads err

err_trips : (ts : List Lexed) (f : Fault) (e : ParseFault) → TripsWith ts f → IsFault e ts
    → (e ≡ fault_of f) ⊎ (e ≡ Memory)
err_trips ts f (Lex g) trips is = inl (ap fault_of (one_trip_fault ts (lexical g) f is trips))
err_trips ts f (Expected s) trips is = inl (ap fault_of (one_trip_fault ts (expected s) f is trips))
err_trips ts f (TooNested s) trips is = inl (ap fault_of (one_trip_fault ts (too_nested s) f is trips))
err_trips ts f Memory trips is = inr refl

-- the fault is answered, or memory ran out
pub refused_with : (ts : List Lexed) (f : Fault) (r : Result code_score.Score ParseFault)
    → IfOk r (λ s. Reads limits ts (score_view s)) → IfErr r (λ e. IsFault e ts) → TripsWith ts f → Refuses f r
refused_with ts f (Ok s) ok err trips = trips_excludes_reads ts trips.before trips.at (score_view s) trips.trips ok
refused_with ts f (Err e) ok err trips = err_trips ts f e trips err

-- a text that begins with a fault of the lexer
pub lexical_start : (ts : List Lexed) (e : ParseFault) → IsLexical e ts → IsFault e ts
lexical_start ts e is = says_trips ts e (lexical_here (first_fault ts) 0 (whole (is_divided ts)) e ts (at_start ts) is)
