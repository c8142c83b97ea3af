-- What one quantum of each process leaves of all.
use Rattle.std.proofs.Common.{◌≡◌, ◌⊎◌, ℕ, zero, suc, ◌+◌, ◌-◌, ◌<◌, ◌≤◌, List, [], ◌∷◌, ◌++◌, length, map, drop, get_or, Bool, Option, Some, None, refl, sym, ap, ap₂, ◌∙◌, subst, inl, inr, arith, length-append}
use Rattle.std.proofs.Math.ListN.{get_or-map}
use Rattle.std.proofs.lemmas.Bool.{cases_lt}
use Rattle.std.proofs.lemmas.List.{length-map}
use Rattle.std.proofs.lemmas.List.Elements.{All-drop}
use Rattle.fm_msg.specs.Event.{TimedMessage}
use Rattle.fm_line.specs.declared.line.Line.{Line}
use Rattle.fm_buffer.specs.Outbox.{count_through}
use Rattle.fm_program.specs.Parts.{PlanParts}
use Rattle.fm_strand.specs.declared.strand.Strand.{Strand}
use Rattle.fm_strand.specs.Strand.{clock_of}
use Rattle.fm_round.specs.declared.lane.Lane.{Lane}
use Rattle.fm_round.specs.Lanes.{AllLanes, IsRun, IsLaneOf, Runs, RunsAll, RunsEach, left, lefts, load, loads, no_lane, room_of, lane, without_due}

-- ---- lane by lane

-- an element is read the same with any default
pub any_default : {A : Type 0} (xs : List A) (k : ℕ) (c d : A) → k < length xs → get_or xs k c ≡ get_or xs k d
any_default [] k c d lt = absurd (omega arith)
any_default (x ∷ xs) zero c d lt = refl
any_default (x ∷ xs) (suc k) c d lt = any_default xs k c d (omega arith)

pub lefts_same : (p : PlanParts) (ls : List Line) (old new : List Lane) → length new ≡ length old
    → ((k : ℕ) → k < length old → (events : List TimedMessage) → left p events (lane new k) ≡ left p events (lane old k))
    → lefts p ls new ≡ lefts p ls old
lefts_same p [] old new same each = refl
lefts_same p (l ∷ ls) [] [] same each = refl
lefts_same p (l ∷ ls) [] (t ∷ new) same each = absurd (omega arith)
lefts_same p (l ∷ ls) (s ∷ old) [] same each = absurd (omega arith)
lefts_same p (l ∷ ls) (s ∷ old) (t ∷ new) same each =
    ap₂ (λ (xs : List TimedMessage) (xss : List (List TimedMessage)). xs ∷ xss) (each 0 (omega arith) l.events)
    (lefts_same p ls old new (omega arith) (λ k within. each (suc k) (omega arith)))

pub rooms_same : (old new : List Lane) → length new ≡ length old
    → ((k : ℕ) → k < length old → room_of (lane new k) ≡ room_of (lane old k)) → map room_of new ≡ map room_of old
rooms_same [] [] same each = refl
rooms_same [] (t ∷ new) same each = absurd (omega arith)
rooms_same (s ∷ old) [] same each = absurd (omega arith)
rooms_same (s ∷ old) (t ∷ new) same each =
    ap₂ (λ (r : ℕ) (rs : List ℕ). r ∷ rs) (each 0 (omega arith))
    (rooms_same old new (omega arith) (λ k within. each (suc k) (omega arith)))

loads_less : (p : PlanParts) (first : ℕ) (old new : List Lane) → length new ≡ length old
    → ((k : ℕ) → k < length old → load p (first + k) (lane new k) ≤ load p (first + k) (lane old k))
    → loads p first new ≤ loads p first old
loads_less p first [] [] same each = omega arith
loads_less p first [] (t ∷ new) same each = absurd (omega arith)
loads_less p first (s ∷ old) [] same each = absurd (omega arith)
loads_less p first (s ∷ old) (t ∷ new) same each =
    let here : load p first t ≤ load p first s =
    subst (λ (n : ℕ). load p n t ≤ load p n s) at (each 0 (omega arith)) in
    let rest = loads_less p (suc first) old new (omega arith) (λ k within.
    subst (λ (n : ℕ). load p n (lane new k) ≤ load p n (lane old k)) (next k) (each (suc k) (omega arith))) in
    omega arith
  where
    at : first + 0 ≡ first
    at = omega arith

    next : (k : ℕ) → first + suc k ≡ suc first + k
    next k = omega arith

pub loads_fall : (p : PlanParts) (first : ℕ) (old new : List Lane) (j : ℕ) → length new ≡ length old → j < length old
    → ((k : ℕ) → k < length old → load p (first + k) (lane new k) ≤ load p (first + k) (lane old k))
    → load p (first + j) (lane new j) < load p (first + j) (lane old j)
    → loads p first new < loads p first old
loads_fall p first [] new j same there each falls = absurd (omega arith)
loads_fall p first (s ∷ old) [] j same there each falls = absurd (omega arith)
loads_fall p first (s ∷ old) (t ∷ new) zero same there each falls =
    let here : load p first t < load p first s = subst (λ (n : ℕ). load p n t < load p n s) at falls in
    let rest = loads_less p (suc first) old new (omega arith) (λ k within.
    subst (λ (n : ℕ). load p n (lane new k) ≤ load p n (lane old k)) (next k) (each (suc k) (omega arith))) in
    omega arith
  where
    at : first + 0 ≡ first
    at = omega arith

    next : (k : ℕ) → first + suc k ≡ suc first + k
    next k = omega arith
loads_fall p first (s ∷ old) (t ∷ new) (suc j) same there each falls =
    let here : load p first t ≤ load p first s =
    subst (λ (n : ℕ). load p n t ≤ load p n s) at (each 0 (omega arith)) in
    let rest = loads_fall p (suc first) old new j (omega arith) (omega arith) (λ k within.
    subst (λ (n : ℕ). load p n (lane new k) ≤ load p n (lane old k)) (next k) (each (suc k) (omega arith)))
    (subst (λ (n : ℕ). load p n (lane new j) < load p n (lane old j)) (next j) falls) in
    omega arith
  where
    at : first + 0 ≡ first
    at = omega arith

    next : (k : ℕ) → first + suc k ≡ suc first + k
    next k = omega arith

-- one quantum of each process
pub runs_all : (p : PlanParts) (limit : ℕ) (old new : List Lane) → length new ≡ length old → RunsEach p 0 limit old new
    → RunsAll p limit old new
runs_all p limit old new same each = record {
  same = λ ls. lefts_same p ls old new same (λ k within. (each k within).same);
  lanes = λ j within. subst (λ (n : ℕ). IsLaneOf p n (lane new j)) (zero_add j) (each j (omega arith)).fits;
  rooms = rooms_same old new same (λ k within. (each k within).room);
  less = loads_less p 0 old new same (λ k within. (each k within).less);
  moves = λ j within can. loads_fall p 0 old new j same within (λ k inside. (each k inside).less) ((each j within).moves can);
  idle = λ j within. (each j within).idle;
  begun = λ j within. (each j within).begun;
}
  where
    zero_add : (j : ℕ) → 0 + j ≡ j
    zero_add j = omega arith

-- ---- a release leaves as much to do

pub lane-map : (key : Option (ℕ × ℕ)) (ss : List Lane) (j : ℕ) → lane (map (without_due key) ss) j ≡ without_due key (lane ss j)
lane-map key ss j = get_or-map (without_due key) ss j no_lane

pub loads-release : (p : PlanParts) (first : ℕ) (key : Option (ℕ × ℕ)) (ss : List Lane)
    → loads p first (map (without_due key) ss) ≡ loads p first ss
loads-release p first key [] = refl
loads-release p first key (s ∷ ss) = ap (λ n. load p first s + n) (loads-release p (suc first) key ss)

pub rooms-release : (key : Option (ℕ × ℕ)) (ss : List Lane) → map room_of (map (without_due key) ss) ≡ map room_of ss
rooms-release key [] = refl
rooms-release key (s ∷ ss) = ap (λ rs. room_of s ∷ rs) (rooms-release key ss)

drop_none : (k : ℕ) → drop {A = TimedMessage} k [] ≡ []
drop_none zero = refl
drop_none (suc k) = refl

-- a lane without what was due is a lane of its process
lane_release : (p : PlanParts) (j : ℕ) (ended : Bool) (strand : Option Strand) (xs : List TimedMessage) (n : ℕ)
    → IsRun p j ended xs strand → IsRun p j ended (drop n xs) strand
lane_release p j ended None xs n run = (subst (λ (ys : List TimedMessage). drop n ys ≡ []) (sym run.0) (drop_none n), run.1)
lane_release p j ended (Some t) xs n run = record {
  course = run.course;
  process = run.process;
  early = All-drop (λ (e : TimedMessage). e.time ≤ clock_of p t) n xs run.early;
  at_end = run.at_end;
}

pub lanes_release : (p : PlanParts) (key : Option (ℕ × ℕ)) (ss : List Lane) → AllLanes p ss → AllLanes p (map (without_due key) ss)
lanes_release p key ss lanes j within =
    let inside : j < length ss = simp length-map at within in
    subst (IsLaneOf p j) (sym (lane-map key ss j))
    (lane_release p j (lane ss j).ended (lane ss j).strand (lane ss j).outbox.events
    (count_through key (lane ss j).outbox.events) (lanes j inside))

-- ---- two parts of the lanes

pub lane-left : (a b : List Lane) (k : ℕ) → k < length a → lane (a ++ b) k ≡ lane a k
lane-left [] b k within = absurd (omega arith)
lane-left (s ∷ a) b zero within = refl
lane-left (s ∷ a) b (suc k) within = lane-left a b k (omega arith)

pub lane-right : (a b : List Lane) (k j : ℕ) → k ≡ length a + j → lane (a ++ b) k ≡ lane b j
lane-right [] b k j is = let same : k ≡ j = omega arith in ap (lane b) same
lane-right (s ∷ a) b zero j is = absurd (omega arith)
lane-right (s ∷ a) b (suc k) j is = lane-right a b k j (omega arith)

-- what ran in each of two parts ran in both
pub runs_joined : (p : PlanParts) (first mid limit : ℕ) (old a b a' b' : List Lane) → old ≡ a ++ b → length a ≡ mid
    → length a' ≡ length a → RunsEach p first limit a a' → RunsEach p (first + mid) limit b b'
    → RunsEach p first limit old (a' ++ b')
runs_joined p first mid limit old a b a' b' parts long same ran_front ran_back k within =
    subst (λ (xs : List Lane). Runs p (first + k) limit (lane xs k) (lane (a' ++ b') k)) (sym parts) (by_part (cases_lt k (length a)))
  where
    by_part : (k < length a) ⊎ (length a ≤ k) → Runs p (first + k) limit (lane (a ++ b) k) (lane (a' ++ b') k)
    by_part (inl front) =
        subst (λ (s : Lane). Runs p (first + k) limit s (lane (a' ++ b') k)) (sym (lane-left a b k front))
        (subst (Runs p (first + k) limit (lane a k)) (sym (lane-left a' b' k (omega arith))) (ran_front k front))
    by_part (inr back) =
        let all : length old ≡ length a + length b = ap length parts ∙ length-append a b in
        let at : k ≡ length a + (k - length a) = omega arith in
        let at_new : k ≡ length a' + (k - length a) = omega arith in
        let number : first + mid + (k - length a) ≡ first + k = omega arith in
        subst (λ (s : Lane). Runs p (first + k) limit s (lane (a' ++ b') k)) (sym (lane-right a b k (k - length a) at))
        (subst (Runs p (first + k) limit (lane b (k - length a))) (sym (lane-right a' b' k (k - length a) at_new))
        (subst (λ (n : ℕ). Runs p n limit (lane b (k - length a)) (lane b' (k - length a))) number
        (ran_back (k - length a) (omega arith))))
