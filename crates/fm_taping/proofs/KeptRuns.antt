-- The kept steps of a run are a run: they leave the same but the sweeps of workers, which no kept step reads.
use Rattle.std.proofs.Common.{◌≡◌, ◌≢◌, ◌⊎◌, ℕ, ◌+◌, ◌<◌, List, [], ◌∷◌, length, get_or, set, Bool, true, false, None, refl, sym, ap, ◌∙◌, subst, inl, inr, arith, length-set, get_or-set_same, get_or-set_other, eqb-true, eq-eqb, ltb-true}
use Rattle.std.specs.Prelude.{if◌then◌else◌, nat_eq, nat_lt, not, ◌&&◌, ◌||◌}
use Rattle.fm_line.specs.Line.{line, upper}
use Rattle.fm_core.proofs.Booleans.{clash, not_false, not_true}
use Rattle.fm_core.proofs.Elements.{or_set}
use Rattle.fm_core.proofs.GiveTests.{given_may, may_give}
use Rattle.fm_core.proofs.Reasons.{none_holds}
use Rattle.fm_core.specs.Effects.{Legal, after, run}
use Rattle.fm_core.specs.Floors.{floor_of, within}
use Rattle.fm_core.specs.State.{Desk, Setting, State, cell, desk, no_desk}
use Rattle.fm_core.specs.Steps.{Allowed, first, no_process, table}
use Rattle.fm_core.specs.Sweep.{least, sighted, swept}
use Rattle.fm_core.specs.Tags.{has_nothing}
use Rattle.fm_core.specs.Taking.{due_of, is_due}
use Rattle.fm_core.specs.declared.floor.Floor.{Floor}
use Rattle.fm_core.specs.declared.reason.Reason.{Reason}
use Rattle.fm_core.specs.declared.reason.Reason.TheVariants.{NoSeat, NoProcess, NotSwept, OutOfTurn, StillDue}
use Rattle.fm_core.specs.declared.sight.Sight.{Sight}
use Rattle.fm_core.specs.declared.step.Step.{Step}
use Rattle.fm_core.specs.declared.step.Step.TheVariants.{Look, Claim, Start, Record, Recall, Give, Publish, Pace, Release}
use Rattle.fm_taping.specs.KeptSteps.{IsKeptOf, PlaysAlike, is_worker_look}

-- these desks say of each seat what it paced, and of seat 0 its sweep
record Alike (h : State) (ds : List Desk) : Type 0 where
  pub some : 0 < length h.desks
  pub crew : length ds ≡ length h.desks
  pub paced : (s : ℕ) → (get_or ds s no_desk).paced ≡ (desk h s).paced
  pub sweep : (get_or ds 0 no_desk).sweep ≡ (desk h 0).sweep

-- the state with these desks
abbrev with_desks : State → List Desk → State
with_desks h ds = record h { desks = ds }

-- a step is allowed there as well, and leaves alike states
record GoesAlike (g : Setting) (h : State) (ds : List Desk) (x : Step) : Type 0 where
  pub allowed : Allowed g (with_desks h ds) x
  pub desks : List Desk
  pub is : after g (with_desks h ds) x ≡ with_desks (after g h x) desks
  pub alike : Alike (after g h x) desks

-- the tests of a table behind the first one
abbrev others : List (Bool × Reason) → List (Bool × Reason)
others [] = []
others (x ∷ xs) = xs

module _ (g : Setting) (h : State) (ds : List Desk) (q : Alike h ds) where
  -- a test of the seat answers the same
  seat_still : (s : ℕ) (rest : List (Bool × Reason)) → first ((not (nat_lt s (length h.desks)), NoSeat) ∷ rest) ≡ None
      → first ((not (nat_lt s (length ds)), NoSeat) ∷ rest) ≡ None
  seat_still s rest e = ap (λ (n : ℕ). first ((not (nat_lt s n), NoSeat) ∷ rest)) q.crew ∙ e

  -- a step that changes no desk
  same_desks : (x : Step) → Allowed g (with_desks h ds) x → after g (with_desks h ds) x ≡ with_desks (after g h x) ds
      → (after g h x).desks ≡ h.desks → GoesAlike g h ds x
  same_desks x allowed is same = record {
    allowed = allowed;
    desks = ds;
    is = is;
    alike = subst (λ (es : List Desk). Alike (record (after g h x) { desks = es }) ds) (sym same)
        (record { some = q.some; crew = q.crew; paced = q.paced; sweep = q.sweep });
  }

  -- a desk changes in both, alike
  one_desk : (z : State) (s : ℕ) (d e : Desk) → z.desks ≡ set h.desks s d → s < length h.desks → e.paced ≡ d.paced
      → (s ≡ 0 → e.sweep ≡ d.sweep) → Alike z (set ds s e)
  one_desk z s d e is below paced sweep = subst (λ (es : List Desk). Alike (record z { desks = es }) (set ds s e)) (sym is) (record {
    some = omega (arith, q.some, length-set h.desks s d);
    crew = length-set ds s e ∙ (q.crew ∙ sym (length-set h.desks s d));
    paced = λ j. or_set (λ (y : Desk). y.paced ≡ (get_or (set h.desks s d) j no_desk).paced) ds s j e no_desk
        (omega (arith, below, q.crew))
        (λ at. paced ∙ sym (ap (λ (y : Desk). y.paced)
        (ap (λ (i : ℕ). get_or (set h.desks s d) i no_desk) at ∙ get_or-set_same h.desks s d no_desk below)))
        (λ far. q.paced j ∙ sym (ap (λ (y : Desk). y.paced) (get_or-set_other h.desks s j d no_desk far)));
    sweep = or_set (λ (y : Desk). y.sweep ≡ (get_or (set h.desks s d) 0 no_desk).sweep) ds s 0 e no_desk
        (omega (arith, below, q.crew))
        (λ at. sweep (sym at) ∙ sym (ap (λ (y : Desk). y.sweep)
        (ap (λ (i : ℕ). get_or (set h.desks s d) i no_desk) at ∙ get_or-set_same h.desks s d no_desk below)))
        (λ far. q.sweep ∙ sym (ap (λ (y : Desk). y.sweep) (get_or-set_other h.desks s 0 d no_desk far)));
  })

  -- a look of seat 0
  looks_alike : (p : ℕ) → Allowed g h (Look 0 p) → GoesAlike g h ds (Look 0 p)
  looks_alike p allowed =
      let old : List Sight = (desk h 0).sweep in
      let now : List Sight = (get_or ds 0 no_desk).sweep in
      record {
        allowed = (λ i. first ((not (nat_lt 0 (q.crew i)), NoSeat) ∷ (no_process h p, NoProcess)
            ∷ (not (nat_eq p 0 || nat_eq p (length (q.sweep i)) || nat_eq (p + 1) (length (q.sweep i))), OutOfTurn) ∷ [])) ∙ allowed;
        desks = set ds 0 (record (get_or ds 0 no_desk) { sweep = swept now p (sighted g h now p) });
        is = refl;
        alike = one_desk (after g h (Look 0 p)) 0 (record (desk h 0) { sweep = swept old p (sighted g h old p) })
            (record (get_or ds 0 no_desk) { sweep = swept now p (sighted g h now p) }) refl q.some (q.paced 0)
            (λ e. ap (λ (l : List Sight). swept l p (sighted g h l p)) q.sweep);
      }

  -- a publish
  publishes_alike : Allowed g h Publish → GoesAlike g h ds Publish
  publishes_alike allowed = record {
    allowed = (λ i. first ((not (nat_eq (length (q.sweep i)) (length h.cells)), NotSwept) ∷ (is_due h.due, StillDue) ∷ [])) ∙ allowed;
    desks = set ds 0 (record (get_or ds 0 no_desk) { sweep = [] });
    is = λ i. record (with_desks h (set ds 0 (record (get_or ds 0 no_desk) { sweep = [] }))) {
      floor = floor_of (least (q.sweep i));
      due = due_of (least (q.sweep i));
      visited = (after g h Publish).visited;
    };
    alike = one_desk (after g h Publish) 0 (record (desk h 0) { sweep = [] }) (record (get_or ds 0 no_desk) { sweep = [] }) refl q.some
        (q.paced 0) (λ e. refl);
  }

  -- a pace
  paces_alike : (s : ℕ) → Allowed g h (Pace s) → GoesAlike g h ds (Pace s)
  paces_alike s allowed = record {
    allowed = seat_still s [] allowed;
    desks = set ds s (record (get_or ds s no_desk) { paced = h.floor });
    is = refl;
    alike = one_desk (after g h (Pace s)) s (record (desk h s) { paced = h.floor }) (record (get_or ds s no_desk) { paced = h.floor }) refl
        (ltb-true _ _ (not_false _ (none_holds (table g h (Pace s)) allowed 0))) refl
        (λ e. ap (λ (j : ℕ). (get_or ds j no_desk).sweep) e ∙ (q.sweep ∙ ap (λ (j : ℕ). (desk h j).sweep) (sym e)));
  }

  -- a give
  gives_alike : (s p t n now : ℕ) (ends : Bool) → Allowed g h (Give s p t n now ends) → GoesAlike g h ds (Give s p t n now ends)
  gives_alike s p t n now ends allowed =
      let m = given_may g h s p t n now ends allowed in
      same_desks (Give s p t n now ends) (may_give g (with_desks h ds) s p t n now ends (record {
        seat = omega (arith, m.seat, q.crew);
        process = m.process;
        held = m.held;
        take = m.take;
        fits = m.fits;
        none_more = m.none_more;
        low = λ i lt. ap (λ (f : Floor). within f g.lead (upper (line g.lines p) ((cell h p).computed + i))) (q.paced s) ∙ m.low i lt;
        roomy = m.roomy;
        on = m.on;
        within = m.within;
        same = m.same;
        stays = m.stays;
        whole = m.whole;
        at_end = m.at_end;
        recorded = m.recorded;
      })) refl refl

  -- each kept step
  goes_alike : (x : Step) → is_worker_look x ≡ false → Allowed g h x → GoesAlike g h ds x
  goes_alike (Look s p) mine allowed =
      let e : s ≡ 0 = eqb-true s 0 (not_false (nat_eq s 0) mine) in
      subst (λ (j : ℕ). GoesAlike g h ds (Look j p)) (sym e) (looks_alike p (subst (λ (j : ℕ). Allowed g h (Look j p)) e allowed))
  goes_alike (Claim s p) mine allowed =
      same_desks (Claim s p) (seat_still s (others (table g h (Claim s p))) allowed) refl refl
  goes_alike (Start s p) mine allowed =
      same_desks (Start s p) (seat_still s (others (table g h (Start s p))) allowed) refl refl
  goes_alike (Record s p) mine allowed =
      same_desks (Record s p) (seat_still s (others (table g h (Record s p))) allowed) refl refl
  goes_alike (Recall s p) mine allowed =
      same_desks (Recall s p) (seat_still s (others (table g h (Recall s p))) allowed) refl refl
  goes_alike (Give s p t n now ends) mine allowed = gives_alike s p t n now ends allowed
  goes_alike Publish mine allowed = publishes_alike allowed
  goes_alike (Pace s) mine allowed = paces_alike s allowed
  goes_alike (Release n) mine allowed = same_desks (Release n) allowed refl refl

  -- a worker's look is seen in its own sweep alone
  worker_apart : (x : Step) → is_worker_look x ≡ true → Allowed g h x
      → Alike (after g h x) ds × (with_desks (after g h x) ds ≡ with_desks h ds)
  worker_apart (Look s p) look allowed =
      let d : Desk = record (desk h s) { sweep = swept (desk h s).sweep p (sighted g h (desk h s).sweep p) } in
      let no : nat_eq s 0 ≡ false = not_true (nat_eq s 0) look in
      let far : 0 ≢ s = (λ e. clash (nat_eq s 0) (eq-eqb s 0 (sym e)) no) in
      let below : s < length h.desks = ltb-true _ _ (not_false _ (none_holds (table g h (Look s p)) allowed 0)) in (
        record {
          some = omega (arith, q.some, length-set h.desks s d);
          crew = q.crew ∙ sym (length-set h.desks s d);
          paced = λ j. q.paced j ∙ sym (or_set (λ (y : Desk). y.paced ≡ (desk h j).paced) h.desks s j d no_desk below
              (λ at. ap (λ (i : ℕ). (desk h i).paced) (sym at)) (λ other. refl));
          sweep = q.sweep ∙ sym (ap (λ (y : Desk). y.sweep) (get_or-set_other h.desks s 0 d no_desk far));
        },
        (λ i. record (with_desks h ds) { visited = (if no i && has_nothing (cell h p).tag then set h.visited p true else h.visited) }),
      )
  worker_apart (Claim s p) look allowed = absurd (cc)
  worker_apart (Start s p) look allowed = absurd (cc)
  worker_apart (Record s p) look allowed = absurd (cc)
  worker_apart (Recall s p) look allowed = absurd (cc)
  worker_apart (Give s p t n now ends) look allowed = absurd (cc)
  worker_apart Publish look allowed = absurd (cc)
  worker_apart (Pace s) look allowed = absurd (cc)
  worker_apart (Release n) look allowed = absurd (cc)

-- the kept steps are legal from there, and end alike
record Ends (g : Setting) (h : State) (ds : List Desk) (xs ys : List Step) : Type 0 where
  pub legal : Legal g (with_desks h ds) ys
  pub desks : List Desk
  pub is : run g (with_desks h ds) ys ≡ with_desks (run g h xs) desks

kept_ends : (g : Setting) (xs : List Step) (h : State) (ds : List Desk) (ys : List Step) → Alike h ds → Legal g h xs → IsKeptOf g h xs ys
    → Ends g h ds xs ys
kept_ends g [] h ds ys q legal none_left = subst (Ends g h ds []) (sym none_left) (record { legal = tt; desks = ds; is = refl })
kept_ends g (x ∷ xs) h ds ys q legal (inl kept) =
    let one = goes_alike g h ds q x kept.0 legal.0 in
    let more = kept_ends g xs (after g h x) one.desks kept.1 one.alike legal.1 kept.3 in
    subst (Ends g h ds (x ∷ xs)) (sym kept.2) (record {
      legal = (one.allowed, subst (λ (z : State). Legal g z kept.1) (sym one.is) more.legal);
      desks = more.desks;
      is = ap (λ (z : State). run g z kept.1) one.is ∙ more.is;
    })
kept_ends g (x ∷ xs) h ds ys q legal (inr (inl look, rest)) =
    let apart = worker_apart g h ds q x look legal.0 in
    let more = kept_ends g xs (after g h x) ds ys apart.0 legal.1 rest in
    record {
      legal = subst (λ (z : State). Legal g z ys) apart.1 more.legal;
      desks = more.desks;
      is = ap (λ (z : State). run g z ys) (sym apart.1) ∙ more.is;
    }
kept_ends g (x ∷ xs) h ds ys q legal (inr (inr same, rest)) =
    let more = kept_ends g xs h ds ys q (subst (λ (z : State). Legal g z xs) same legal.1)
    (subst (λ (z : State). IsKeptOf g z xs ys) same rest) in
    record {
      legal = more.legal;
      desks = more.desks;
      is = more.is ∙ ap (λ (z : State). with_desks (run g z xs) more.desks) (sym same);
    }

-- the kept steps of a run are a run to the same end
pub plays_alike : (g : Setting) (h : State) (xs ys : List Step) → 0 < length h.desks → Legal g h xs → IsKeptOf g h xs ys
    → PlaysAlike g h xs ys
plays_alike g h xs ys some legal kept =
    let ends = kept_ends g xs h h.desks ys (record { some = some; crew = refl; paced = λ s. refl; sweep = refl }) legal kept in
    record {
      legal = ends.legal;
      cells = ap (λ (z : State). z.cells) ends.is;
      floor = ap (λ (z : State). z.floor) ends.is;
      released = ap (λ (z : State). z.released) ends.is;
    }
