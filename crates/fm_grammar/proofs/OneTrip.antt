-- A list of tokens trips at one token at most, with one fault, and then it reads as no score.
use Rattle.std.proofs.Common.{◌≡◌, List, [], ◌∷◌, ◌++◌, refl, ap, sym, ◌∙◌, subst, append_assoc}
use Rattle.std.proofs.lemmas.List.{append-nil}
use Rattle.std.specs.Prelude.{Ok, Err}
use Rattle.fm_lex.specs.Tokens.{Lexed}
use Rattle.fm_grammar.specs.Reads.{Fault, lexical, expected, too_nested, Reads, Begins, Trips, TripsWith, FaultAt}
use Rattle.fm_grammar.specs.Score.{Score}
use Rattle.fm_grammar.specs.Within.{Limits, limits}

-- what begins a text has a beginning that does
pub front_begins : (most : Limits) (xs ys : List Lexed) → Begins most (xs ++ ys) → Begins most xs
front_begins most xs ys b = record {
  rest = ys ++ b.rest;
  score = b.score;
  reads = subst (λ ts. Reads most ts b.score) (append_assoc xs ys b.rest) b.reads;
}

-- what reads as a score begins a text
pub reads_begins : (most : Limits) (ts : List Lexed) (s : Score) → Reads most ts s → Begins most ts
reads_begins most ts s r = record { rest = []; score = s; reads = subst (λ us. Reads most us s) (sym (append-nil ts)) r }

-- what trips reads as no score
pub trips_excludes_reads : (ts before : List Lexed) (at : Lexed) (s : Score) → Trips ts before at → Reads limits ts s → ⊥
trips_excludes_reads ts before at s t r =
    let whole : ts ≡ (before ++ at ∷ []) ++ t.after = t.place ∙ sym (append_assoc before (at ∷ []) t.after) in
    t.stops (front_begins limits (before ++ at ∷ []) t.after
    (subst (Begins limits) whole (reads_begins limits ts s r)))

-- ---- where two splits of one list lie

-- the first token of a list, or this one
abbrev first_or : Lexed → List Lexed → Lexed
first_or x [] = x
first_or x (y ∷ ys) = y

-- the others
abbrev others : List Lexed → List Lexed
others [] = []
others (y ∷ ys) = ys

-- of two tokens behind these fronts in one list: they are at one place, or one is in the front of the other
data Compared (b : List Lexed) (x : Lexed) (c : List Lexed) (y : Lexed) : Type 0 where
  same : b ≡ c → x ≡ y → Compared b x c y
  earlier : (d : List Lexed) → c ≡ b ++ x ∷ d → Compared b x c y
  later : (d : List Lexed) → b ≡ c ++ y ∷ d → Compared b x c y

-- behind one token more in front of both
compared_behind : (t u : Lexed) (b c : List Lexed) (x y : Lexed) → t ≡ u → Compared b x c y → Compared (t ∷ b) x (u ∷ c) y
compared_behind t u b c x y e (same p q) = same (cc (e, p)) q
compared_behind t u b c x y e (earlier d p) = earlier d (cc (e, p))
compared_behind t u b c x y e (later d p) = later d (cc (e, p))

-- any two splits of one list
compared : (b : List Lexed) (x : Lexed) (d c : List Lexed) (y : Lexed) (e : List Lexed) → b ++ x ∷ d ≡ c ++ y ∷ e → Compared b x c y
compared [] x d [] y e is = same refl (ap (first_or x) is)
compared [] x d (u ∷ c) y e is = earlier c (ap (λ z. z ∷ c) (sym (ap (first_or x) is)))
compared (t ∷ b) x d [] y e is = later b (ap (λ z. z ∷ b) (ap (first_or t) is))
compared (t ∷ b) x d (u ∷ c) y e is = compared_behind t u b c x y (ap (first_or t) is) (compared b x d c y e (ap others is))

-- ---- one trip

-- nothing goes on from the token at which a list trips
stops_behind : (ts b c : List Lexed) (x : Lexed) (d : List Lexed) → Trips ts b x → c ≡ b ++ x ∷ d → Begins limits c → ⊥
stops_behind ts b c x d t is goes =
    t.stops (front_begins limits (b ++ x ∷ []) d (subst (Begins limits) (is ∙ sym (append_assoc b (x ∷ []) d)) goes))

-- a list trips at one place
one_place : (ts b c : List Lexed) (x y : Lexed) → Trips ts b x → Trips ts c y → Compared b x c y → (b ≡ c) × (x ≡ y)
one_place ts b c x y t u (same p q) = (p, q)
one_place ts b c x y t u (earlier d p) = absurd (stops_behind ts b c x d t p u.goes)
one_place ts b c x y t u (later d p) = absurd (stops_behind ts c b y d u p t.goes)

-- of one place there is one fault
one_fault_at : (b : List Lexed) (x : Lexed) (f g : Fault) → FaultAt b x f → FaultAt b x g → f ≡ g
one_fault_at b (Err e) (lexical f) (lexical g) p q = ap lexical (sym p ∙ q)
one_fault_at b (Ok t) (expected s) (expected r) p q = ap expected (p.0 ∙ sym q.0)
one_fault_at b (Ok t) (expected s) (too_nested r) p q = absurd (p.1 q.1 q.2)
one_fault_at b (Ok t) (too_nested s) (expected r) p q = absurd (q.1 p.1 p.2)
one_fault_at b (Ok t) (too_nested s) (too_nested r) p q = ap too_nested (p.0 ∙ sym q.0)
one_fault_at b (Err e) (lexical f) (expected r) p q = absurd q
one_fault_at b (Err e) (lexical f) (too_nested r) p q = absurd q
one_fault_at b (Err e) (expected s) g p q = absurd p
one_fault_at b (Err e) (too_nested s) g p q = absurd p
one_fault_at b (Ok t) (lexical f) g p q = absurd p
one_fault_at b (Ok t) (expected s) (lexical g) p q = absurd q
one_fault_at b (Ok t) (too_nested s) (lexical g) p q = absurd q

-- a list trips with one fault
pub one_trip_fault : (ts : List Lexed) (f g : Fault) → TripsWith ts f → TripsWith ts g → f ≡ g
one_trip_fault ts f g t u =
    let at_one = one_place ts t.before u.before t.at u.at t.trips u.trips
    (compared t.before t.at t.trips.after u.before u.at u.trips.after (sym t.trips.place ∙ u.trips.place)) in
    one_fault_at t.before t.at f g t.why
    (subst (λ x. FaultAt t.before x g) (sym at_one.1) (subst (λ b. FaultAt b u.at g) (sym at_one.0) u.why))

-- and at one token
pub one_trip : (ts b c : List Lexed) (x y : Lexed) → Trips ts b x → Trips ts c y → (b ≡ c) × (x ≡ y)
one_trip ts b c x y t u = one_place ts b c x y t u (compared b x t.after c y u.after (sym t.place ∙ u.place))
