-- The table from its start is the grammar.
use Rattle.std.proofs.Common.{◌≡◌, Bool, true, false, List, [], ◌∷◌, ◌++◌, Some, None, Ok, Err, sym, ap, ◌∙◌, subst, arith, append_assoc}
use Rattle.fm_lex.specs.Tokens.{Lexed}
use Rattle.fm_grammar.specs.Grammar.{division}
use Rattle.fm_grammar.specs.Signs.{semicolon, tok, num}
use Rattle.fm_grammar.specs.Within.{Limits, limits}
use Rattle.fm_grammar.specs.Reads.{Begins, Fault, lexical, expected, too_nested, FaultAt, TripsWith}
use Rattle.fm_grammar.specs.Rules.{whole}
use Rattle.fm_grammar.specs.Table.{opens_divided, is_divided, first_fault}
use Rattle.fm_grammar.proofs.Fits.{Derives}
use Rattle.fm_grammar.proofs.Alive.{IsAlive}
use Rattle.fm_grammar.proofs.Followers.{whole_fine}
use Rattle.fm_grammar.proofs.FromStatements.{fits_score}
use Rattle.fm_grammar.proofs.UniqueScore.{finish}
use Rattle.fm_grammar.proofs.Dividing.{no_truth, right_true, divided_longer, undivided_shorter, Four, four_of}
use Rattle.fm_grammar.proofs.Begun.{begins_from, Goes, bare, derives_begun}
use Rattle.fm_grammar.proofs.Tripping.{Why, tripped, accepted, goes_from}

-- the stack of a whole text is within the limits
pub whole_alive : (divided : Bool) → IsAlive limits 0 (whole divided)
whole_alive true = record { peaks = omega arith; wants = omega arith }
whole_alive false = record { peaks = omega arith; wants = omega arith }

-- ---- the first refusal

-- one token more in the middle
regrouped : (most : Limits) (divided : Bool) (before w : List Lexed) (at : Lexed)
    → Derives most 0 (whole divided) ((before ++ at ∷ []) ++ w) → Derives most 0 (whole divided) (before ++ at ∷ w)
regrouped most divided before w at derives =
    subst (λ (x : List Lexed). Derives most 0 (whole divided) x) (append_assoc before (at ∷ []) w) derives

grouped : (most : Limits) (divided : Bool) (before w : List Lexed) (at : Lexed) → Derives most 0 (whole divided) (before ++ at ∷ w)
    → Derives most 0 (whole divided) ((before ++ at ∷ []) ++ w)
grouped most divided before w at derives =
    subst (λ (x : List Lexed). Derives most 0 (whole divided) x) (sym (append_assoc before (at ∷ []) w)) derives

-- tokens and one more, which begin a text, as the whole text would
begun_as : (most : Limits) (divided : Bool) (before : List Lexed) (at : Lexed) → is_divided (before ++ at ∷ []) ≡ divided
    → Begins most (before ++ at ∷ []) → (w : List Lexed) × Derives most 0 (whole divided) (before ++ at ∷ w)
begun_as most divided before at same begins =
    let goes = subst (λ (d : Bool). Goes most d (before ++ at ∷ [])) same (derives_begun most (before ++ at ∷ []) begins) in
    (goes.0, regrouped most divided before goes.0 at goes.1)

fault_at : (divided : Bool) (before : List Lexed) (at : Lexed) (f : Fault) → is_divided (before ++ at ∷ []) ≡ divided
    → Why 0 (whole divided) before at f → FaultAt before at f
fault_at divided before (Err e) (lexical g) same why = why
fault_at divided before (Ok t) (expected spot) same why =
    (why.0, λ most begins. (let goes = begun_as most divided before (Ok t) same begins in why.1 most goes.0 goes.1))
fault_at divided before (Ok t) (too_nested spot) same (is, (most, w, derives)) = (
  is,
  most,
  begins_from most (before ++ Ok t ∷ []) w
      (subst (λ (d : Bool). Derives most 0 (whole d) ((before ++ Ok t ∷ []) ++ w)) (sym same)
      (grouped most divided before w (Ok t) derives)),
)
fault_at divided before at f same why = absurd why

-- what comes behind the first four tokens of a text without statements
abbrev closing : {a b c d : Lexed} → Four a b c d → List Lexed
closing f = num f.version ∷ tok semicolon f.ends ∷ finish f.word

stated : (a b c d : Lexed) (f : Four a b c d) → Derives limits 0 (whole true) (a ∷ b ∷ c ∷ d ∷ closing f)
stated a b c d f =
    subst (λ (y : List Lexed). Derives limits 0 (whole true) (y ++ closing f)) (sym (four_same f.first f.second f.third f.fourth))
    (fits_score limits (bare f.word f.version f.ends (division f.name f.version f.ends)) tt)
  where
    four_same : {x y z u : Lexed} → a ≡ x → b ≡ y → c ≡ z → d ≡ u → a ∷ b ∷ c ∷ d ∷ [] ≡ x ∷ y ∷ z ∷ u ∷ []
    four_same first second third fourth = cc

-- a text that states its division goes on with each of its first four tokens
long_before : (before : List Lexed) (at : Lexed) (after : List Lexed) → is_divided (before ++ at ∷ after) ≡ true
    → ((w : List Lexed) → Derives limits 0 (whole true) (before ++ at ∷ w) → ⊥) → is_divided before ≡ true
long_before [] a [] is stops = no_truth is
long_before [] a (b ∷ []) is stops = no_truth is
long_before [] a (b ∷ c ∷ []) is stops = no_truth (right_true (opens_divided a b c) false is)
long_before [] a (b ∷ c ∷ d ∷ ts) is stops =
    let f = four_of a b c d is in absurd (stops (b ∷ c ∷ d ∷ closing f) (stated a b c d f))
long_before (a ∷ []) b [] is stops = no_truth is
long_before (a ∷ []) b (c ∷ []) is stops = no_truth (right_true (opens_divided a b c) false is)
long_before (a ∷ []) b (c ∷ d ∷ ts) is stops =
    let f = four_of a b c d is in absurd (stops (c ∷ d ∷ closing f) (stated a b c d f))
long_before (a ∷ b ∷ []) c [] is stops = no_truth (right_true (opens_divided a b c) false is)
long_before (a ∷ b ∷ []) c (d ∷ ts) is stops =
    let f = four_of a b c d is in absurd (stops (d ∷ closing f) (stated a b c d f))
long_before (a ∷ b ∷ c ∷ []) d ts is stops =
    let f = four_of a b c d is in absurd (stops (closing f) (stated a b c d f))
long_before (a ∷ b ∷ c ∷ d ∷ before) at ts is stops = is

-- the test says of the tokens before a refusal, and with it, what it says of the whole text
record Alike (before : List Lexed) (at : Lexed) (divided : Bool) : Type 0 where
  without : is_divided before ≡ divided
  together : is_divided (before ++ at ∷ []) ≡ divided

alike : (before after : List Lexed) (at : Lexed) (divided : Bool) → is_divided (before ++ at ∷ after) ≡ divided
    → ((w : List Lexed) → Derives limits 0 (whole divided) (before ++ at ∷ w) → ⊥) → Alike before at divided
alike before after at true is stops =
    let long = long_before before at after is stops in
    record { without = long; together = divided_longer before (at ∷ []) long }
alike before after at false is stops = record {
  without = undivided_shorter before (at ∷ after) is;
  together = undivided_shorter (before ++ at ∷ []) after (ap is_divided (append_assoc before (at ∷ []) after) ∙ is);
}

-- the first refusal of the table is where the text trips
pub trips_with : (ts : List Lexed) (f : Fault) → first_fault ts ≡ Some f → TripsWith ts f
trips_with ts f found =
    let divided = is_divided ts in
    let t = tripped ts 0 (whole divided) f (whole_fine divided) (whole_alive divided) found in
    let same = alike t.before t.after t.at divided (ap is_divided (sym t.place)) t.stops in record {
      before = t.before;
      at = t.at;
      trips = record {
        after = t.after;
        place = t.place;
        goes = begins_from limits t.before t.rest
            (subst (λ (d : Bool). Derives limits 0 (whole d) (t.before ++ t.rest)) (sym same.without) t.goes);
        stops = λ begins. (let goes = begun_as limits divided t.before t.at same.together begins in t.stops goes.0 goes.1);
      };
      why = fault_at divided t.before t.at f same.together t.why;
    }

-- tokens that go on are not refused
pub begins_passes : (ts : List Lexed) → Begins limits ts → first_fault ts ≡ None
begins_passes ts begins =
    let goes = derives_begun limits ts begins in
    accepted ts 0 (whole (is_divided ts)) goes.0 (whole_fine (is_divided ts)) goes.1

-- and what is not refused goes on
pub passes_begins : (ts : List Lexed) → first_fault ts ≡ None → Begins limits ts
passes_begins ts none =
    let divided = is_divided ts in
    let on = goes_from ts 0 (whole divided) (whole_fine divided) (whole_alive divided) none in begins_from limits ts on.0 on.1
