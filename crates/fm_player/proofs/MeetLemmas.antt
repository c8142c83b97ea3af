-- A process starts where those that it waits for meet.
use Rattle.std.proofs.Common.{◌≡◌, refl, sym, ◌∙◌, ap, arith, ℕ, suc, ◌<◌, List, [], ◌∷◌, length, map, max, reverse, Bool, true, false, nat_lt, if◌then◌else◌, slice_index_or}
use Rattle.fm_line.specs.Line.{greatest}
use Rattle.fm_nest.specs.declared.place.Place.{Place}
use Rattle.fm_program.specs.Parts.{PlanParts, process_program}
use Rattle.fm_program.specs.Process.{Played, Spot, end_spot, plan_played, process_run, spot_reached, start_spot}
use Rattle.fm_program.specs.Fit.{PartsFit, ends_in, same_numbers}
use Rattle.fm_player.specs.Course.{end_place, first_place, later_place, latest_place, meeting_place, place_of, start_place}
use Rattle.fm_player.proofs.StockLemmas.{below_of, both, list_all-at, past_of}
use Rattle.fm_player.proofs.CourseLemmas.{process-as}
use Rattle.fm_player.proofs.StartLemmas.{first-start, same-of, waits}

-- a position in the levels in which the process j starts
abbrev start_at : PlanParts → ℕ → ℕ → Place
start_at p j x = place_of (record { position = x; origins = (process_run p j).start.origins })

-- a process that is waited for ends there
pub end-at : (p : PlanParts) (j k : ℕ) → PartsFit p → j < length p.programs → k < length (process_program p j).predecessors
    → end_place p (slice_index_or (process_program p j).predecessors k 0)
    ≡ start_at p j (end_spot (plan_played p) (slice_index_or (process_program p j).predecessors k 0)).position
unfolding end_place
end-at p j k fits below inside =
    let ws = (process_program p j).predecessors in
    let q = slice_index_or ws k 0 in
    let last = (process_run p q).run.last in
    let ends = both (same_numbers (reverse (map (λ l. l.warp) last.levels)) (process_program p j).levels)
    (same_numbers (spot_reached last).origins (process_run p j).start.origins)
    (list_all-at (λ x. ends_in (process_program p j).levels (process_run p j).start.origins (process_run p x)) ws k 0
    (waits p j fits below).ends inside) in
    ap (λ (os : List ℕ). place_of (record { position = last.position; origins = os })) (same-of _ _ ends.1)

later-max : (a b : ℕ) → (if nat_lt a b then b else a) ≡ max a b
later-max a b = at (nat_lt a b) refl
  where
    at : (c : Bool) → nat_lt a b ≡ c → (if c then b else a) ≡ max a b
    at true is = (let less = below_of a b is in omega arith)
    at false is = (let past = past_of a b is in omega arith)

-- the later one of two places in the same levels
later-at : (p : PlanParts) (j x y : ℕ) → later_place (start_at p j x) (start_at p j y) ≡ start_at p j (max x y)
later-at p j x y = at (nat_lt x y) refl
  where
    at : (c : Bool) → nat_lt x y ≡ c → (if c then start_at p j y else start_at p j x) ≡ start_at p j (max x y)
    at true is = ap (start_at p j) (let less = below_of x y is in let same : y ≡ max x y = omega arith in same)
    at false is = ap (start_at p j) (let past = past_of x y is in let same : x ≡ max x y = omega arith in same)

latest-at : (p : PlanParts) (j x : ℕ) (xs : List ℕ)
    → latest_place (start_at p j x) (map (start_at p j) xs) ≡ start_at p j (max x (greatest xs))
latest-at p j x [] = ap (start_at p j) (let same : x ≡ max x 0 = omega arith in same)
latest-at p j x (y ∷ ys) =
    ap (λ (a : Place). latest_place a (map (start_at p j) ys)) (later-at p j x y)
    ∙ latest-at p j (max x y) ys
    ∙ ap (start_at p j) (let same : max (max x y) (greatest ys) ≡ max x (max y (greatest ys)) = omega arith in same)

-- the latest of some ends
latest-position : (played : List Played) (js : List ℕ)
    → (start_spot played js).position ≡ greatest (map (λ q. (end_spot played q).position) js)
latest-position played [] = refl
latest-position played (q ∷ qs) =
    at (nat_lt (end_spot played q).position (start_spot played qs).position) refl
    ∙ later-max (end_spot played q).position (start_spot played qs).position
    ∙ ap (max (end_spot played q).position) (latest-position played qs)
  where
    at : (c : Bool) → nat_lt (end_spot played q).position (start_spot played qs).position ≡ c
        → (if c then start_spot played qs else end_spot played q).position
        ≡ (if c then (start_spot played qs).position else (end_spot played q).position)
    at true is = refl
    at false is = refl

map-each : (f g : ℕ → Place) (xs : List ℕ) → ((k : ℕ) → k < length xs → f (slice_index_or xs k 0) ≡ g (slice_index_or xs k 0))
    → map f xs ≡ map g xs
map-each f g [] each = refl
map-each f g (x ∷ xs) each =
    ap (λ (y : Place). y ∷ map f xs) (each 0 (omega arith))
    ∙ ap (λ (ys : List Place). g x ∷ ys) (map-each f g xs (λ k below. each (suc k) (omega arith)))

map-two : (p : PlanParts) (j : ℕ) (f : ℕ → ℕ) (xs : List ℕ) → map (λ q. start_at p j (f q)) xs ≡ map (start_at p j) (map f xs)
map-two p j f [] = refl
map-two p j f (x ∷ xs) = ap (λ (ys : List Place). start_at p j (f x) ∷ ys) (map-two p j f xs)

-- where those that are waited for meet, the process starts
pub starts-meeting : (p : PlanParts) (j : ℕ) → PartsFit p → j < length p.programs
    → start_place p j ≡ meeting_place (map (end_place p) (process_program p j).predecessors)
unfolding start_place
starts-meeting p j fits below = at (process_program p j).predecessors refl
  where
    begins : (process_run p j).start ≡ start_spot (plan_played p) (process_program p j).predecessors
    begins = (process-as p j below).start (waits p j fits below).below

    ends : map (end_place p) (process_program p j).predecessors
        ≡ map (start_at p j) (map (λ q. (end_spot (plan_played p) q).position) (process_program p j).predecessors)
    ends = map-each (end_place p) (λ q. start_at p j (end_spot (plan_played p) q).position) (process_program p j).predecessors
        (λ k inside. end-at p j k fits below inside)
        ∙ map-two p j (λ q. (end_spot (plan_played p) q).position) (process_program p j).predecessors

    at : (qs : List ℕ) → (process_program p j).predecessors ≡ qs
        → place_of (process_run p j).start ≡ meeting_place (map (end_place p) (process_program p j).predecessors)
    at [] none =
        ap place_of (begins ∙ ap (start_spot (plan_played p)) none)
        ∙ sym (ap (λ (qs : List ℕ). meeting_place (map (end_place p) qs)) none)
    at (q ∷ js) is =
        let pos : ℕ → ℕ = λ x. (end_spot (plan_played p) x).position in
        ap (start_at p j) (ap (λ (x : Spot). x.position) begins ∙ ap (λ (qs : List ℕ). (start_spot (plan_played p) qs).position) is
        ∙ latest-position (plan_played p) (q ∷ js))
        ∙ sym (latest-at p j (pos q) (map pos js))
        ∙ sym (ap meeting_place (ends ∙ ap (λ (qs : List ℕ). map (start_at p j) (map pos qs)) is))

pub first-place : (p : PlanParts) → PartsFit p → start_place p 0 ≡ first_place
unfolding start_place
first-place p fits = ap place_of (first-start p fits)

pub end-levels : (p : PlanParts) (j k : ℕ) → PartsFit p → j < length p.programs → k < length (process_program p j).predecessors
    → ((end_place p (slice_index_or (process_program p j).predecessors k 0)).depth ≡ (start_place p j).depth)
    × ((end_place p (slice_index_or (process_program p j).predecessors k 0)).origins ≡ (start_place p j).origins)
unfolding start_place
end-levels p j k fits below inside = (
  ap (λ (x : Place). x.depth) (end-at p j k fits below inside),
  ap (λ (x : Place). x.origins) (end-at p j k fits below inside),
)
