-- Each text reads as one score, or trips at one token.
use Rattle.std.proofs.Common.{◌≡◌, ℕ, zero, suc, ◌↔◌, inl, inr, Bool, true, false, List, [], ◌∷◌, ◌++◌, Option, Some, None, Ok, Err, refl, sym, ap, ◌∙◌, subst, append_assoc}
use Rattle.std.proofs.lemmas.List.{append-nil}
use Rattle.fm_lex.specs.declared.kind.Kind.{Kind}
use Rattle.fm_lex.specs.declared.kind.Kind.TheVariants.{End}
use Rattle.fm_lex.specs.declared.token.LexFault.{LexFault}
use Rattle.fm_lex.specs.Tokens.{Lexed, tokens}
use Rattle.fm_lex.specs.Layout.{is_end, is_last, AreTokens}
use Rattle.fm_lex.proofs.LayoutLemmas.{laid}
use Rattle.fm_grammar.specs.Score.{Score}
use Rattle.fm_grammar.specs.Standing.{score_tree}
use Rattle.fm_grammar.specs.Within.{Limits, limits}
use Rattle.fm_grammar.specs.Reads.{Reads, Begins, Fault, TripsWith, Verdict}
use Rattle.fm_grammar.specs.Rules.{Sym, kind_code, whole}
use Rattle.fm_grammar.specs.Table.{after_token, left_out, is_divided, first_fault}
use Rattle.fm_grammar.proofs.Fits.{Fits, Derives}
use Rattle.fm_grammar.proofs.EndLast.{EndsBelow, end_last}
use Rattle.fm_grammar.proofs.Begun.{reads_from, derives_begun}
use Rattle.fm_grammar.proofs.Scores.{trips_with, begins_passes, passes_begins}
use Rattle.fm_grammar.proofs.OneTrip.{front_begins, one_trip_fault}
use Rattle.fm_grammar.proofs.UniqueScore.{unique_score}

-- ---- one score

-- tokens read as at most one score
pub one_score : (most : Limits) (ts : List Lexed) (a b : Score) → Reads most ts a → Reads most ts b → a ≡ b
one_score most ts a b left right =
    let same : left.form ≡ right.form = unique_score left.form right.form (sym left.text ∙ right.text) in
    left.stands_for ∙ ap score_tree same ∙ sym right.stands_for

-- ---- the last token

-- a list and its last entry, which ends it
record Closed (ts : List Lexed) : Type 0 where
  front : List Lexed
  last : Lexed
  split : ts ≡ front ++ last ∷ []
  ends : is_last last ≡ true

closed : (in_comment : Bool) (before left : List ℕ) (ts : List Lexed) → AreTokens in_comment before left ts → Closed ts
closed in_comment before left [] are = absurd are
closed in_comment before left (t ∷ []) are = record { front = []; last = t; split = refl; ends = are.last }
closed in_comment before left (t ∷ u ∷ us) are = on (closed false (before ++ (are.gap ++ _)) are.after (u ∷ us) are.next)
  where
    on : Closed (u ∷ us) → Closed (t ∷ u ∷ us)
    on c = record { front = t ∷ c.front; last = c.last; split = ap (λ (x : List Lexed). t ∷ x) c.split; ends = c.ends }

no_fault_inside : (most : Limits) (n u : ℕ) (ss : List Sym) (front : List Lexed) (f : LexFault) (w : List Lexed)
    → Fits most n u ss (front ++ Err f ∷ w) → ⊥
no_fault_inside most zero u ss front f w fits = fits
no_fault_inside most (suc n) u [] [] f w fits = cc
no_fault_inside most (suc n) u [] (x ∷ front) f w fits = cc
no_fault_inside most (suc n) u (s ∷ ss) [] f w (inl t) = cc
no_fault_inside most (suc n) u (s ∷ ss) (x ∷ front) f w (inl t) =
    let later : front ++ Err f ∷ w ≡ t.rest = cc in
    no_fault_inside most n (after_token s u) (t.next ++ ss) front f w
    (subst (λ (y : List Lexed). Fits most n (after_token s u) (t.next ++ ss) y) (sym later) t.fits)
no_fault_inside most (suc n) u (s ∷ ss) front f w (inr l) = no_fault_inside most n (left_out s u) ss front f w l.fits

end_code : (k : Kind) → is_end k ≡ true → kind_code k ≡ kind_code End
end_code End is = refl
end_code k is = cc

whole_ends : (divided : Bool) → EndsBelow (whole divided)
whole_ends true = (refl, (refl, (refl, (refl, (refl, (refl, (refl, (refl, refl))))))))
whole_ends false = (refl, (refl, (refl, (refl, (refl, refl)))))

-- behind the last token of a text nothing comes
ends_there : (divided : Bool) (front : List Lexed) (last : Lexed) (w : List Lexed) → is_last last ≡ true
    → Derives limits 0 (whole divided) ((front ++ last ∷ []) ++ w) → w ≡ []
ends_there divided front (Ok t) w is derives =
    end_last limits derives.steps 0 (whole divided) front t w (whole_ends divided) (end_code t.kind is)
    (subst (λ (x : List Lexed). Fits limits derives.steps 0 (whole divided) x) (append_assoc front (Ok t ∷ []) w) derives.fits)
ends_there divided front (Err f) w is derives =
    absurd (no_fault_inside limits derives.steps 0 (whole divided) front f w
    (subst (λ (x : List Lexed). Fits limits derives.steps 0 (whole divided) x) (append_assoc front (Err f ∷ []) w) derives.fits))

-- ---- reads or trips

whole_reads : (ts : List Lexed) → Closed ts → Begins limits ts → (score : Score) × Reads limits ts score
whole_reads ts closed begins =
    let divided = is_divided ts in
    let goes = derives_begun limits ts begins in
    let none : goes.0 ≡ [] = ends_there divided closed.front closed.last goes.0 closed.ends
    (subst (λ (x : List Lexed). Derives limits 0 (whole divided) (x ++ goes.0)) closed.split goes.1) in
    let alone : ts ++ goes.0 ≡ ts = ap (λ (x : List Lexed). ts ++ x) none ∙ append-nil ts in
    reads_from limits ts divided (λ is. is) (subst (λ (x : List Lexed). Derives limits 0 (whole divided) x) alone goes.1)

verdict : (ts : List Lexed) (found : Option Fault) → Closed ts → first_fault ts ≡ found → Verdict ts
verdict ts None closed is = inl (whole_reads ts closed (passes_begins ts is))
verdict ts (Some f) closed is = inr (f, trips_with ts f is)

-- each text reads as a score, or trips
pub text_verdict : (text : List ℕ) → Verdict (tokens text)
text_verdict text = verdict (tokens text) (first_fault (tokens text)) (closed false [] text (tokens text) ((laid text).fresh [])) refl

-- the table has the fault with which a text trips
pub found_fault : (ts : List Lexed) (f : Fault) → TripsWith ts f → first_fault ts ≡ Some f
found_fault ts f trips = by (first_fault ts) refl
  where
    by : (found : Option Fault) → first_fault ts ≡ found → first_fault ts ≡ Some f
    by None is =
        let goes = passes_begins ts is in
        absurd (trips.trips.stops (front_begins limits (trips.before ++ trips.at ∷ []) trips.trips.after
        (subst (Begins limits) (trips.trips.place ∙ sym (append_assoc trips.before (trips.at ∷ []) trips.trips.after)) goes)))
    by (Some g) is = is ∙ ap Some (one_trip_fault ts g f (trips_with ts g is) trips)

-- the table goes on exactly where a text of the grammar does
pub table_goes : (ts : List Lexed) → (first_fault ts ≡ None) ↔ Begins limits ts
table_goes ts = (passes_begins ts, begins_passes ts)

-- and refuses with the fault of the tokens
pub table_trips : (ts : List Lexed) (f : Fault) → (first_fault ts ≡ Some f) ↔ TripsWith ts f
table_trips ts f = (trips_with ts f, found_fault ts f)
