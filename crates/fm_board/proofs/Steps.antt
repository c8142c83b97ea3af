-- The steps of the calls, over what a seat is seen as.
use Rattle.std.proofs.Common.{◌≡◌, ◌≢◌, ℕ, ◌<◌, ◌≤◌, List, [], ◌∷◌, length, get_or, Bool, true, Option, Some, None, refl, sym, ap, ◌∙◌, subst, arith, eqb}
use Rattle.std.specs.Prelude.{◌||◌}
use mathlib.Core.Option.{none}
use prog.Atomic.{either}
use Rattle.atomic_table.specs.Seated.{TableId}
use Rattle.atomic_table.specs.Table.{Allows, rest, step}
use Rattle.fm_core.specs.Tags.{claimed_tag, is_claimable, is_ended}
use Rattle.fm_core.specs.declared.sight.Sight.{Sight as Look}
use Rattle.fm_core.specs.declared.tag.Tag.{Tag}
use Rattle.fm_program.specs.Parts.{PlanParts}
use Rattle.fm_board.specs.declared.about.About.{About}
use Rattle.fm_board.specs.declared.deposit.Deposit.{Deposit}
use Rattle.fm_board.specs.declared.view.Log.{Log}
use Rattle.fm_board.specs.declared.view.Mind.{Mind}
use Rattle.fm_board.specs.declared.view.View.{View}
use Rattle.fm_core.specs.declared.step.Step.TheVariants.{Claim}
use Rattle.fm_board.specs.Minds.{did, spotted, turned}
use Rattle.fm_board.specs.Plays.{Finds, Hands, Holder, Tells, claims, looks, recalls}
use Rattle.fm_board.specs.Seats.{IsOurs, IsSwept, SeatState, carried}
use Rattle.fm_board.specs.View.{is_over}
use Rattle.fm_board.specs.Answers.{Found}
use Rattle.fm_board.specs.Answers as answers
use Rattle.fm_board.specs.Calls.{IsHold}
use Rattle.fm_board.specs.Runs.{Extends}
use Rattle.fm_buffer.specs.Outbox.{EventQueue}
use Rattle.fm_strand.specs.declared.strand.Strand.{Strand}
use Rattle.fm_board.specs.StandsFor.{StandsForSome, count}
use Rattle.fm_board.specs.View.{InTurn, holding, processes}
use Rattle.fm_board.specs.Words.{spell, word_at}
use Rattle.fm_board.specs.declared.seen.Seen.{Seen}
use Rattle.fm_board.proofs.Loads.{looks_of}
use Rattle.fm_board.proofs.Claims.{claims_of}
use Rattle.fm_board.proofs.Peeks.{recalls_of}
use Rattle.fm_core.specs.declared.limits.TheConstants.{MAX_SEATS}

-- a process below the view's count is below the board's
pub below_count : (key a : About) (t : TableId) (x : SeatState) (p : ℕ) → key ≡ a → IsOurs t a x → p < processes x.mind.view → p < count key
below_count key a t x p same ours there =
    let plans : length x.mind.view.plan.programs ≡ length a.plan.programs = ap (λ (q : PlanParts). length q.programs) ours.plan in
    let keys : length key.plan.programs ≡ length a.plan.programs = ap (λ (b : About). length b.plan.programs) same in
    omega (arith, there, plans, keys)

-- a look
pub looks_at : (key a : About) (t : TableId) (slots id i p : ℕ) (m : Holder) (x : SeatState) → key ≡ a → IsOurs t a x → m.0 ≡ x.mind
    → i ≡ word_at p
    → InTurn x.mind.view p → Allows (StandsForSome key) slots id m i (λ n. n) (looks (step slots i 0 0 none) m)
looks_at key a t slots id i p m x same ours is at turn =
    subst (λ (j : ℕ). Allows (StandsForSome key) slots id m j (λ n. n) (looks (step slots j 0 0 none) m)) (sym at)
    (looks_of key slots id p m (below_count key a t x p same ours turn.there) (subst (λ (y : Mind). InTurn y.view p) (sym is) turn))

-- what was found, as it is told
pub found_as : (t t' : TableId) (p r : ℕ) (m m' : Holder) (f : View → Tag → ℕ → View) (g : Mind → Tag → Log) (s : Seen) (x : SeatState)
    → Finds m p r (f m.0.view) (g m.0) m'
    → s.seat < MAX_SEATS
    → r ≡ spell s.tag s.clock s.seat → t' ≡ t → record { table = t; mind = m.0 } ≡ x
    → Found x p s (f x.mind.view s.tag s.clock) (g x.mind s.tag) (record { table = t'; mind = m'.0 })
found_as t t' p r m m' f g s x finds few word kept is =
    subst (λ (y : SeatState). Found y p s (f y.mind.view s.tag s.clock) (g y.mind s.tag) (record { table = t'; mind = m'.0 })) is (record {
      tells = finds.tells s.tag s.clock s.seat few word;
      same = λ one first here. sym word ∙ finds.same one first here;
      sight = λ i. record {
        table = kept i;
        mind = (finds.mind s.tag s.clock s.seat few word
            ∙ ap (λ (n : ℕ). spotted m.0 p s.tag s.clock n (f m.0.view s.tag s.clock) (g m.0 s.tag)) word) i;
      };
      extends = finds.extends;
    })

-- what a seat keeps of itself
abbrev pub Tidy : ℕ → Bool → List Look → ℕ → Holder → Type 0
Tidy n o xs c m =
    (n ≡ m.0.view.number) × (n < MAX_SEATS) × (m.1 ≡ carried m.0.view.holds) × (m.0.view.holds ≢ None → o ≡ is_over m.0.view.holds)
    × IsSwept xs c m.0.view.sweep (length m.0.view.plan.programs)

-- a step that leaves the sweep
pub still_swept : (xs : List Look) (c : ℕ) (v v' : View) → IsSwept xs c v.sweep (length v.plan.programs) → v'.sweep ≡ v.sweep
    → v'.plan ≡ v.plan
    → IsSwept xs c v'.sweep (length v'.plan.programs)
still_swept xs c v v' swept sweep plan =
    subst (λ (y : List Look × PlanParts). IsSwept xs c y.0 (length y.1.programs)) (λ i. (sym sweep i, sym plan i)) swept

pub stays_tidy : (n : ℕ) (o : Bool) (xs : List Look) (c : ℕ) (m m' : Holder) → Tidy n o xs c m → m'.0.view.number ≡ m.0.view.number
    → m'.0.view.holds ≡ m.0.view.holds → m'.0.view.sweep ≡ m.0.view.sweep → m'.0.view.plan ≡ m.0.view.plan → m'.1 ≡ m.1 → Tidy n o xs c m'
stays_tidy n o xs c m m' tidy number holds sweep plan out = (
  tidy.0 ∙ sym number,
  tidy.1,
  out ∙ (tidy.2 ∙ ap carried (sym holds)),
  λ some. tidy.3 (λ none. some (holds ∙ none)) ∙ ap is_over (sym holds),
  still_swept xs c m.0.view m'.0.view tidy.4 sweep plan,
)

-- a seat that holds nothing
pub idle_tidy : (n : ℕ) (o : Bool) (xs : List Look) (c : ℕ) (m m' : Holder) → Tidy n o xs c m → m'.0.view.number ≡ m.0.view.number
    → m'.0.view.holds ≡ None → m'.0.view.sweep ≡ m.0.view.sweep → m'.0.view.plan ≡ m.0.view.plan → m'.1 ≡ [] → Tidy n o xs c m'
idle_tidy n o xs c m m' tidy number holds sweep plan out = (
  tidy.0 ∙ sym number,
  tidy.1,
  out ∙ ap carried (sym holds),
  λ some. absurd (some holds),
  still_swept xs c m.0.view m'.0.view tidy.4 sweep plan,
)

-- ---- claim

pub claims_at : (key a : About) (t : TableId) (slots id i p old new : ℕ) (tag held : Tag) (clock n number : ℕ) (m : Holder) (x : SeatState)
    → key ≡ a → IsOurs t a x
    → m.0 ≡ x.mind → i ≡ word_at p → p < processes x.mind.view → x.mind.view.holds ≡ None → is_claimable x.mind.view.number tag ≡ true
    → n < MAX_SEATS
    → old ≡ spell tag clock n → held ≡ claimed_tag tag → number ≡ m.0.view.number → new ≡ spell held clock number
    → Allows (StandsForSome key) slots id m i (λ z. either (eqb z old) new z) (claims (step slots i old new none) m)
claims_at key a t slots id i p old new tag held clock n number m x same ours is at there idle can few is_old is_held is_number is_new =
    subst (λ (j : ℕ). Allows (StandsForSome key) slots id m j (λ z. either (eqb z old) new z) (claims (step slots j old new none) m))
    (sym at)
    (claims_of key slots id p clock n old new tag m (ap (λ (y : Mind). y.view.holds) is ∙ idle)
    (below_count key a t x p same ours there) few
    (ap (λ (y : Mind). is_claimable y.view.number tag) is ∙ can) is_old (is_new ∙ (λ i. spell (is_held i) clock (is_number i))))

abbrev first_of : List (ℕ × Option Deposit) → Option Deposit
first_of [] = None
first_of (x ∷ xs) = x.1

pub same_some : {A : Type 0} (x y : A) → Some x ≡ Some y → x ≡ y
same_some x y e = cc

-- what an exchange takes out of a slot is what the seat knows to be there
pub taken_out : (cs : List (ℕ × Option Deposit)) (p : ℕ) (x y : Option Deposit) (xs ys : List (ℕ × Option Deposit)) → cs ≡ (p, x) ∷ xs
    → cs ≡ (p, y) ∷ ys → x ≡ y
taken_out cs p x y xs ys a b = ap first_of (sym a ∙ b)

pub is_out : (cs : List (ℕ × Option Deposit)) (p : ℕ) (x : Option Deposit) (xs : List (ℕ × Option Deposit)) → cs ≡ (p, x) ∷ xs
    → cs ≡ (p, x) ∷ rest cs
is_out cs p x xs e = e ∙ ap (λ (ys : List (ℕ × Option Deposit)). (p, x) ∷ ys) (sym (ap rest e))

-- the room that was taken out has a strand
pub room_is : (o : Option Deposit) (r : Deposit) (s : Strand) (b : EventQueue) → o ≡ Some r → o ≡ Some (record { strand = Some s; outbox = b })
    → r ≡ record { strand = Some s; outbox = b }
room_is o r s b e f = same_some r (record { strand = Some s; outbox = b }) (sym e ∙ f)

pub no_strand : (o : Option Deposit) (r : Deposit) (s : Strand) (b : EventQueue) → o ≡ Some r → o ≡ Some (record { strand = Some s; outbox = b })
    → r.strand ≡ None → ⊥
no_strand o r s b e f none_there =
    let is : r.strand ≡ Some s = ap (λ (y : Deposit). y.strand) (room_is o r s b e f) in absurd (cc)

pub held_tidy : (n : ℕ) (o o' : Bool) (xs : List Look) (s : ℕ) (m m1 m2 : Holder) (p c r : ℕ) (t : Tag) → Tidy n o' xs s m
    → m.0.view.holds ≡ None
    → Hands m p t c r m1 → m2 ≡ (m1.0, (p, None) ∷ rest m1.1) → o ≡ is_ended t → Tidy n o xs s m2
held_tidy n o o' xs s m m1 m2 p c r t tidy idle hit is over =
    let holds : m2.0.view.holds ≡ Some hit.hold = ap (λ (y : Holder). y.0.view.holds) is ∙ ap (λ (y : Mind). y.view.holds) hit.mind in
    let empty : m.1 ≡ [] = tidy.2 ∙ ap carried idle in
    let out : m2.1 ≡ (p, None) ∷ [] = ap (λ (y : Holder). y.1) is
    ∙ ap (λ (xs : List (ℕ × Option Deposit)). (p, None) ∷ xs) (ap rest hit.out ∙ empty) in
    let number : m2.0.view.number ≡ m.0.view.number =
    ap (λ (y : Holder). y.0.view.number) is ∙ ap (λ (y : Mind). y.view.number) hit.mind in (
      tidy.0 ∙ sym number,
      tidy.1,
      out ∙ ((λ i. (sym hit.is.process i, None) ∷ []) ∙ ap carried (sym holds)),
      λ _. over ∙ (sym hit.was_ended ∙ (ap (λ (b : Bool). b || hit.hold.was_ended) (sym hit.is.fresh) ∙ ap is_over (sym holds))),
      still_swept xs s m.0.view m2.0.view tidy.4
          (ap (λ (y : Holder). y.0.view.sweep) is ∙ ap (λ (y : Mind). y.view.sweep) hit.mind)
          (ap (λ (y : Holder). y.0.view.plan) is ∙ ap (λ (y : Mind). y.view.plan) hit.mind),
    )

pub hands_as : (a : About) (t0 t1 t2 t3 : TableId) (p n : ℕ) (e : Seen) (m m1 m2 : Holder) (o : Option Deposit) (r : Deposit) (s : Strand)
    (x : SeatState)
    → IsOurs t0 a x → n ≡ spell e.tag e.clock e.seat → (hit : Hands m p e.tag e.clock n m1) → m2 ≡ (m1.0, (p, None) ∷ rest m1.1)
    → o ≡ Some r → o ≡ Some (record { strand = Some hit.strand; outbox = hit.box }) → r.strand ≡ Some s
    → t3 ≡ t2 → t2 ≡ t1 → record { table = t1; mind = m.0 } ≡ x
    → answers.HasClaimed a x p e (record { process = p; strand = s; outbox = r.outbox }) (record { table = t3; mind = m2.0 })
hands_as a t0 t1 t2 t3 p n e m m1 m2 o r s x ours word hit is out was some k2 k1 seen =
    let room = room_is o r hit.strand hit.box out was in
    let strand : hit.strand ≡ s = same_some hit.strand s (sym (ap (λ (y : Deposit). y.strand) room) ∙ some) in
    let minds : m.0 ≡ x.mind = ap (λ (y : SeatState). y.mind) seen in
    let logs : m1.0.log ≡ m2.0.log = ap (λ (y : Holder). y.0.log) (sym is) in
    record {
      hold = hit.hold;
      berth = record {
        hold = subst (λ (y : PlanParts × ℕ × Strand × EventQueue). IsHold y.0 y.1 p hit.hold y.2 y.3)
            (λ i. (
              (ap (λ (y : Mind). y.view.plan) minds ∙ ours.plan) i,
              (ap (λ (y : Mind). y.room) minds ∙ ours.room) i,
              strand i,
              sym
                  (ap (λ (y : Deposit). y.outbox) room) i,
            )) hit.is;
        process = refl;
      };
      was_ended = hit.was_ended;
      at = hit.clock;
      tells = subst (λ (y : Mind). Tells y p e.tag e.clock) minds hit.tells;
      behind = subst (λ (y : Mind). hit.hold.left ≤ get_or y.left p 0) minds hit.behind;
      sight = λ i. record {
        table = (k2 ∙ (k1 ∙ ap (λ (y : SeatState). y.table) seen)) i;
        mind = (ap (λ (y : Holder). y.0) is ∙ (hit.mind
            ∙ (λ j. turned (spotted (minds j) p e.tag e.clock (word j) (holding (minds j).view hit.hold)
            (did (minds j) (Claim (minds j).view.number p) (logs j).seen))))) i;
      };
      extends = subst (λ (y : Mind × Log). Extends y.0.view.number y.0.log y.1) (λ i. (minds i, logs i)) hit.extends;
    }

-- ---- start

-- a load that is no look
pub recalls_at : (key a : About) (t : TableId) (slots id i p : ℕ) (m : Holder) (x : SeatState) → key ≡ a → IsOurs t a x → i ≡ word_at p
    → p < processes x.mind.view → Allows (StandsForSome key) slots id m i (λ n. n) (recalls (step slots i 0 0 none) m)
recalls_at key a t slots id i p m x same ours at there =
    subst (λ (j : ℕ). Allows (StandsForSome key) slots id m j (λ n. n) (recalls (step slots j 0 0 none) m)) (sym at)
    (recalls_of key slots id p m (below_count key a t x p same ours there))

pub widths : (m : Mind) (x : SeatState) → m ≡ x.mind → length m.over ≡ processes m.view → length x.mind.over ≡ processes x.mind.view
widths m x is wide = subst (λ (y : Mind). length y.over ≡ processes y.view) is wide
