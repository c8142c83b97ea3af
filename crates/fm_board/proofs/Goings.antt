-- How many steps are left of each process, through the steps of the seats.
use Rattle.std.proofs.Common.{◌≡◌, ◌≢◌, ℕ, ◌<◌, ◌≤◌, List, length, get_or, set, Bool, true, false, Option, Some, refl, sym, ap, ◌∙◌, subst, ⊎_elim, arith, eqb, eq-eqb, ne_eqb, min, length-set}
use Rattle.std.specs.Prelude.{All, if◌then◌else◌}
use mathlib.Core.Option.{some, none, some-injective, some-ne-none}
use mathlib.Core.Option as maybe
use mathlib.Core.Logic.{dite}
use native.Mathlib.Decide.{ℕ_discrete}
use lib.ListN.{get_elem?}
use Rattle.atomic_table.proofs.Lists.{at_set}
use Rattle.fm_msg.specs.Event.{TimedMessage}
use Rattle.fm_line.specs.Line.{line}
use Rattle.fm_core.proofs.Elements.{or_set}
use Rattle.fm_core.specs.State.{State, cell, cell_in, unborn}
use Rattle.fm_core.specs.Tags.{is_unborn}
use Rattle.fm_core.specs.Taking.{outbox}
use Rattle.fm_core.specs.declared.cell.Cell.{Cell}
use Rattle.fm_core.specs.declared.tag.Tag.{Tag}
use Rattle.fm_program.specs.Parts.{PlanParts}
use Rattle.fm_program.specs.Process.{plan_lines}
use Rattle.fm_strand.specs.Course.{steps_of}
use Rattle.fm_strand.specs.Strand.{steps_left}
use Rattle.fm_strand.specs.declared.strand.Strand.{Strand}
use Rattle.fm_board.specs.declared.about.About.{About}
use Rattle.fm_board.specs.declared.deposit.Deposit.{Deposit}
use Rattle.fm_board.specs.declared.view.Hold.{Hold}
use Rattle.fm_board.specs.declared.view.Mind.{Mind}
use Rattle.fm_board.specs.Minds.{left_seen}
use Rattle.fm_board.specs.StandsFor.{Alone, Going, Table, count}
use Rattle.fm_board.specs.Words.{word_at}
use Rattle.fm_board.proofs.Frames.{at_below}
use Rattle.fm_board.proofs.Spellings.{set_or_same}

-- ---- one number changes

abbrev pub put_left : (ℕ → ℕ) → ℕ → ℕ → ℕ → ℕ
put_left f p n j = if eqb j p then n else f j

pub put_same : (f : ℕ → ℕ) (p n j : ℕ) → j ≡ p → put_left f p n j ≡ n
put_same f p n j e = ap (λ (b : Bool). if b then n else f j) (eq-eqb j p e)

pub put_other : (f : ℕ → ℕ) (p n j : ℕ) → j ≢ p → put_left f p n j ≡ f j
put_other f p n j d = ap (λ (b : Bool). if b then n else f j) (ne_eqb j p d)

pub put_less : (f : ℕ → ℕ) (p n j : ℕ) → n ≤ f p → put_left f p n j ≤ f j
put_less f p n j less =
    dite (ℕ_discrete j p) (λ e. let is = put_same f p n j e in let at = ap f e in omega (arith, is, at, less))
    (λ d. let is = put_other f p n j d in omega (arith, is))

-- ---- what a seat knows

-- a word that was seen tells no fewer steps than are left
pub seen_known : (a : About) (m : Mind) (f : ℕ → ℕ) (p : ℕ) (t : Tag) → m.view.plan ≡ a.plan
    → ((j : ℕ) → j < count a → f j ≤ get_or m.left j 0) → (is_unborn t ≡ false → f p ≤ steps_of a.plan p)
    → (j : ℕ) → j < count a → f j ≤ get_or (left_seen m p t) j 0
seen_known a m f p t plan known born = by_case (is_unborn t) refl
  where
    by_case : (b : Bool) → is_unborn t ≡ b → (j : ℕ) → j < count a → f j ≤ get_or (left_seen m p t) j 0
    by_case true e j lt =
        subst (λ (b : Bool). f j ≤ get_or (if b then m.left else set m.left p (min (get_or m.left p 0) (steps_of m.view.plan p))) j 0)
        (sym e) (known j lt)
    by_case false e j lt =
        let few : f p ≤ steps_of m.view.plan p = subst (λ (q : PlanParts). f p ≤ steps_of q p) (sym plan) (born e) in
        subst (λ (b : Bool). f j ≤ get_or (if b then m.left else set m.left p (min (get_or m.left p 0) (steps_of m.view.plan p))) j 0)
        (sym e)
        (set_or_same m.left p (min (get_or m.left p 0) (steps_of m.view.plan p)) 0 (λ i n. i < count a → f i ≤ n) known
        (λ here. least (f p) (get_or m.left p 0) (steps_of m.view.plan p) (known p here) few) j lt)
      where
        least : (x y z : ℕ) → x ≤ y → x ≤ z → x ≤ min y z
        least x y z one two = omega arith

-- and no more than it knew before
pub seen_fewer : (m : Mind) (p : ℕ) (t : Tag) (j : ℕ) → get_or (left_seen m p t) j 0 ≤ get_or m.left j 0
seen_fewer m p t j = by_case (is_unborn t) refl
  where
    most : (x y : ℕ) → min x y ≤ x
    most x y = omega arith

    by_case : (b : Bool) → is_unborn t ≡ b → get_or (left_seen m p t) j 0 ≤ get_or m.left j 0
    by_case true e =
        subst (λ (b : Bool). get_or (if b then m.left else set m.left p (min (get_or m.left p 0) (steps_of m.view.plan p))) j 0
        ≤ get_or m.left j 0) (sym e) (omega arith)
    by_case false e =
        subst (λ (b : Bool). get_or (if b then m.left else set m.left p (min (get_or m.left p 0) (steps_of m.view.plan p))) j 0
        ≤ get_or m.left j 0) (sym e)
        (set_or_same m.left p (min (get_or m.left p 0) (steps_of m.view.plan p)) 0 (λ i n. n ≤ get_or m.left i 0) (λ i. omega arith)
        (most (get_or m.left p 0) (steps_of m.view.plan p)) j)

-- ---- processes

-- a step that leaves clocks, births and outboxes
pub record SameCells (a : About) (h h' : State) : Type 0 where
  pub many : length h'.cells ≡ length h.cells
  pub clock : (p : ℕ) → (cell h' p).clock ≡ (cell h p).clock
  pub unborn : (p : ℕ) → is_unborn (cell h' p).tag ≡ is_unborn (cell h p).tag
  pub box : (p : ℕ) → outbox (line (plan_lines a.plan) p) (cell h' p) ≡ outbox (line (plan_lines a.plan) p) (cell h p)

pub same_cells : (a : About) (h h' : State) → h'.cells ≡ h.cells → SameCells a h h'
same_cells a h h' same = record {
  many = ap length same;
  clock = λ p. ap (λ (cs : List Cell). (cell_in cs p).clock) same;
  unborn = λ p. ap (λ (cs : List Cell). is_unborn (cell_in cs p).tag) same;
  box = λ p. ap (λ (cs : List Cell). outbox (line (plan_lines a.plan) p) (cell_in cs p)) same;
}

-- one process changes, and none of these of it
pub one_same : (a : About) (h h' : State) (p : ℕ) (c : Cell) → h'.cells ≡ set h.cells p c → p < length h.cells
    → c.clock ≡ (cell h p).clock → is_unborn c.tag ≡ is_unborn (cell h p).tag
    → outbox (line (plan_lines a.plan) p) c ≡ outbox (line (plan_lines a.plan) p) (cell h p) → SameCells a h h'
one_same a h h' p c same near clock born box = record {
  many = ap length same ∙ length-set h.cells p c;
  clock = λ q. subst (λ (cs : List Cell). (cell_in cs q).clock ≡ (cell h q).clock) (sym same)
      (or_set (λ (x : Cell). x.clock ≡ (cell h q).clock) h.cells p q c unborn near
      (λ e. clock ∙ ap (λ (z : ℕ). (cell h z).clock) (sym e)) (λ _. refl));
  unborn = λ q. subst (λ (cs : List Cell). is_unborn (cell_in cs q).tag ≡ is_unborn (cell h q).tag) (sym same)
      (or_set (λ (x : Cell). is_unborn x.tag ≡ is_unborn (cell h q).tag) h.cells p q c unborn near
      (λ e. born ∙ ap (λ (z : ℕ). is_unborn (cell h z).tag) (sym e)) (λ _. refl));
  box = λ q. subst (λ (cs : List Cell). outbox (line (plan_lines a.plan) q) (cell_in cs q)
      ≡ outbox (line (plan_lines a.plan) q) (cell h q)) (sym same)
      (or_set (λ (x : Cell). outbox (line (plan_lines a.plan) q) x ≡ outbox (line (plan_lines a.plan) q) (cell h q)) h.cells p q c unborn
      near
      (λ e. ap (λ (z : ℕ). outbox (line (plan_lines a.plan) z) c) e
      ∙ (box ∙ ap (λ (z : ℕ). outbox (line (plan_lines a.plan) z) (cell h z)) (sym e))) (λ _. refl));
}

-- ---- slots

abbrev pub Homes : Type 0
Homes = List (maybe.Option (Option Deposit))

-- what two slots have that are the same
pub same_stock : (x y : Deposit) → ◌≡◌ {A = maybe.Option (Option Deposit)} (some (Some x)) (some (Some y)) → x ≡ y
same_stock x y e = same_room (some-injective (Some x) (Some y) e)
  where
    same_room : ◌≡◌ {A = Option Deposit} (Some x) (Some y) → x ≡ y
    same_room f = cc

-- ---- steps

module _ (a : About) (s : Table) (h : State) (q : Going a s h) (id : ℕ) (m w : Mind) (at : get_elem? s.views id ≡ some m) where
  -- the seat makes a step that leaves all of this, and knows of no fewer steps than are left
  pub goes_on : (ws : List ℕ) (h' : State) → SameCells a h h'
      → ((x : Hold) → w.view.holds ≡ Some x → (y : Hold) × (m.view.holds ≡ Some y) × (x.left ≡ y.left) × (x.process ≡ y.process))
      → ((p : ℕ) → p < count a → q.left p ≤ get_or w.left p 0)
      → Going a (record { words = ws; homes = s.homes; views = set s.views id w }) h'
  goes_on ws h' c own known = record {
    left = q.left;
    home = q.home;
    held = λ k u e x holds. ⊎_elim
        (λ (y : (k ≡ id) × (w ≡ u)). let o = own x (ap (λ (z : Mind). z.view.holds) y.1 ∙ holds) in
        o.2 ∙ (q.held id m at o.0 o.1 ∙ ap q.left (sym o.3)))
        (λ (y : (k ≢ id) × (get_elem? s.views k ≡ some u)). q.held k u y.1 x holds) (at_set s.views id k w u e);
    known = λ k u e p lt. ⊎_elim
        (λ (y : (k ≡ id) × (w ≡ u)). subst (λ (z : Mind). q.left p ≤ get_or z.left p 0) y.1 (known p lt))
        (λ (y : (k ≢ id) × (get_elem? s.views k ≡ some u)). q.known k u y.1 p lt) (at_set s.views id k w u e);
    most = q.most;
    born = λ p lt b. let n = c.many in q.born p (omega (arith, n, lt)) (sym (c.unborn p) ∙ b);
    unborn = λ p lt b. let n = c.many in q.unborn p (omega (arith, n, lt)) (sym (c.unborn p) ∙ b);
    early = λ p lt. let n = c.many in subst (λ (y : ℕ × List TimedMessage). All (λ e. e.time ≤ y.0) y.1)
        (λ i. (sym (c.clock p) i, sym (c.box p) i)) (q.early p (omega (arith, n, lt)));
  }

  -- a process goes out with the seat
  pub goes_with : (ws : List ℕ) (p : ℕ) (x : Hold) (h' : State) → SameCells a h h' → w.view.holds ≡ Some x → x.process ≡ p
      → x.left ≡ q.left p
      → ((j : ℕ) → j < count a → q.left j ≤ get_or w.left j 0)
      → Going a (record { words = ws; homes = set s.homes p none; views = set s.views id w }) h'
  goes_with ws p x h' c holds process is known = record {
    left = q.left;
    home = λ j stock y there some_is. ⊎_elim
        (λ (z : (j ≡ p) × (none ≡ some (Some stock))). absurd (some-ne-none (Some stock) (sym z.1)))
        (λ (z : (j ≢ p) × (get_elem? s.homes j ≡ some (some (Some stock)))). q.home j stock y z.1 some_is)
        (at_set s.homes p j none (some (Some stock)) there);
    held = λ k u e y has. ⊎_elim
        (λ (z : (k ≡ id) × (w ≡ u)).
        let same : x ≡ y = held_same x y (sym holds ∙ (ap (λ (v : Mind). v.view.holds) z.1 ∙ has)) in
        ap (λ (v : Hold). v.left) (sym same) ∙ (is ∙ ap q.left (sym process ∙ ap (λ (v : Hold). v.process) same)))
        (λ (z : (k ≢ id) × (get_elem? s.views k ≡ some u)). q.held k u z.1 y has) (at_set s.views id k w u e);
    known = λ k u e j lt. ⊎_elim
        (λ (y : (k ≡ id) × (w ≡ u)). subst (λ (z : Mind). q.left j ≤ get_or z.left j 0) y.1 (known j lt))
        (λ (y : (k ≢ id) × (get_elem? s.views k ≡ some u)). q.known k u y.1 j lt) (at_set s.views id k w u e);
    most = q.most;
    born = λ p lt b. let n = c.many in q.born p (omega (arith, n, lt)) (sym (c.unborn p) ∙ b);
    unborn = λ p lt b. let n = c.many in q.unborn p (omega (arith, n, lt)) (sym (c.unborn p) ∙ b);
    early = λ p lt. let n = c.many in subst (λ (y : ℕ × List TimedMessage). All (λ e. e.time ≤ y.0) y.1)
        (λ i. (sym (c.clock p) i, sym (c.box p) i)) (q.early p (omega (arith, n, lt)));
  }
    where
      held_same : (x y : Hold) → Some x ≡ Some y → x ≡ y
      held_same x y e = cc

  -- a process has another number of steps left, which is no greater
  pub changes : (ws : List ℕ) (hs : Homes) (p n : ℕ) (c : Cell) (h' : State) → h'.cells ≡ set h.cells p c → p < length h.cells
      → is_unborn c.tag ≡ false → n ≤ steps_of a.plan p → n ≤ q.left p
      → All (λ e. e.time ≤ c.clock) (outbox (line (plan_lines a.plan) p) c)
      → ((j : ℕ) (stock : Deposit) (x : Strand) → get_elem? hs j ≡ some (some (Some stock)) → stock.strand ≡ Some x
      → steps_left a.plan x ≡ put_left q.left p n j)
      → ((x : Hold) → w.view.holds ≡ Some x → x.left ≡ put_left q.left p n x.process)
      → ((k : ℕ) (u : Mind) (x : Hold) → k ≢ id → get_elem? s.views k ≡ some u → u.view.holds ≡ Some x → x.process ≢ p)
      → ((j : ℕ) → j < count a → put_left q.left p n j ≤ get_or w.left j 0)
      → Going a (record { words = ws; homes = hs; views = set s.views id w }) h'
  changes ws hs p n c h' same near live most less soon home mine free known = record {
    left = put_left q.left p n;
    home = home;
    held = λ k u e x holds. ⊎_elim
        (λ (y : (k ≡ id) × (w ≡ u)). mine x (ap (λ (z : Mind). z.view.holds) y.1 ∙ holds))
        (λ (y : (k ≢ id) × (get_elem? s.views k ≡ some u)). q.held k u y.1 x holds
        ∙ sym (put_other q.left p n x.process (free k u x y.0 y.1 holds))) (at_set s.views id k w u e);
    known = λ k u e j lt. ⊎_elim
        (λ (y : (k ≡ id) × (w ≡ u)). subst (λ (z : Mind). put_left q.left p n j ≤ get_or z.left j 0) y.1 (known j lt))
        (λ (y : (k ≢ id) × (get_elem? s.views k ≡ some u)). let one = put_less q.left p n j less in let two = q.known k u y.1 j lt in
        omega (arith, one, two)) (at_set s.views id k w u e);
    most = λ j lt. let one = put_less q.left p n j less in let two = q.most j lt in omega (arith, one, two);
    born = λ j lt. subst (λ (cs : List Cell). is_unborn (cell_in cs j).tag ≡ false → put_left q.left p n j ≤ steps_of a.plan j)
        (sym same)
        (or_set (λ (x : Cell). is_unborn x.tag ≡ false → put_left q.left p n j ≤ steps_of a.plan j) h.cells p j c unborn near
        (λ e b. let is = put_same q.left p n j e in let at = ap (steps_of a.plan) e in omega (arith, is, at, most))
        (λ d b. let is = put_other q.left p n j d in let old = q.born j (there j lt) b in omega (arith, is, old)));
    unborn = λ j lt. subst (λ (cs : List Cell). is_unborn (cell_in cs j).tag ≡ true → steps_of a.plan j < put_left q.left p n j)
        (sym same)
        (or_set (λ (x : Cell). is_unborn x.tag ≡ true → steps_of a.plan j < put_left q.left p n j) h.cells p j c unborn near
        (λ e b. absurd (cc))
        (λ d b. let is = put_other q.left p n j d in let old = q.unborn j (there j lt) b in omega (arith, is, old)));
    early = λ j lt. subst (λ (cs : List Cell). All (λ e. e.time ≤ (cell_in cs j).clock)
        (outbox (line (plan_lines a.plan) j) (cell_in cs j)))
        (sym same)
        (or_set (λ (x : Cell). All (λ e. e.time ≤ x.clock) (outbox (line (plan_lines a.plan) j) x)) h.cells p j c unborn near
        (λ e. subst (λ (z : ℕ). All (λ e. e.time ≤ c.clock) (outbox (line (plan_lines a.plan) z) c)) (sym e) soon)
        (λ d. q.early j (there j lt)));
  }
    where
      there : (j : ℕ) → j < length h'.cells → j < length h.cells
      there j lt = let n = ap length same ∙ length-set h.cells p c in omega (arith, n, lt)

-- a process that is away has no slot
pub away : (a : About) (s : Table) (h : State) (q : Going a s h) (p n : ℕ) (j : ℕ) (stock : Deposit) (x : Strand)
    → get_elem? (set s.homes p none) j ≡ some (some (Some stock)) → stock.strand ≡ Some x
    → steps_left a.plan x ≡ put_left q.left p n j
away a s h q p n j stock x there is =
    ⊎_elim
    (λ (z : (j ≡ p) × (none ≡ some (Some stock))). absurd (some-ne-none (Some stock) (sym z.1)))
    (λ (z : (j ≢ p) × (get_elem? s.homes j ≡ some (some (Some stock)))). q.home j stock x z.1 is ∙ sym (put_other q.left p n j z.0))
    (at_set s.homes p j none (some (Some stock)) there)

-- a process that came home has what lies in its slot
pub back_home : (a : About) (s : Table) (h : State) (q : Going a s h) (p n : ℕ) (new : Deposit) (t : Strand) → new.strand ≡ Some t
    → steps_left a.plan t ≡ n
    → (j : ℕ) (stock : Deposit) (x : Strand)
    → get_elem? (set s.homes p (some (Some new))) j ≡ some (some (Some stock)) → stock.strand ≡ Some x
    → steps_left a.plan x ≡ put_left q.left p n j
back_home a s h q p n new t holds steps j stock x there is =
    ⊎_elim
    (λ (z : (j ≡ p) × (some (Some new) ≡ some (Some stock))).
    let same : new ≡ stock = same_stock new stock z.1 in
    let strands : t ≡ x = one t x (sym holds ∙ (ap (λ (r : Deposit). r.strand) same ∙ is)) in
    ap (steps_left a.plan) (sym strands) ∙ (steps ∙ sym (put_same q.left p n j z.0)))
    (λ (z : (j ≢ p) × (get_elem? s.homes j ≡ some (some (Some stock)))). q.home j stock x z.1 is ∙ sym (put_other q.left p n j z.0))
    (at_set s.homes p j (some (Some new)) (some (Some stock)) there)
  where
    one : (t x : Strand) → Some t ≡ Some x → t ≡ x
    one t x e = cc

-- ---- a seat that is the only one

pub alone_on : (a : About) (s : Table) (id : ℕ) (m w : Mind) (ws : List ℕ) (hs : Homes) → get_elem? s.views id ≡ some m
    → ((u : Mind) → get_elem? s.views 0 ≡ some u → u.made ≡ length s.views)
    → (id ≡ 0 → w.made ≡ 1 → w.at < count a → get_or ws (word_at w.at) 0 ≡ w.last)
    → Alone a (record { words = ws; homes = hs; views = set s.views id w })
alone_on a s id m w ws hs at made own u e one near =
    ⊎_elim
    (λ (y : (0 ≡ id) × (w ≡ u)). subst (λ (z : Mind). z.made ≡ 1 → z.at < count a → get_or ws (word_at z.at) 0 ≡ z.last) y.1
    (own (sym y.0)) one near)
    (λ (y : (0 ≢ id) × (get_elem? s.views 0 ≡ some u)).
    let many = made u y.1 in let below = at_below s.views id m at in
    absurd (y.0 (let z : id ≡ 0 = omega (arith, many, one, below) in sym z)))
    (at_set s.views id 0 w u e)

-- its words stay, and what it saw last
pub alone_still : (a : About) (s : Table) (id : ℕ) (m w : Mind) (ws : List ℕ) (hs : Homes) → get_elem? s.views id ≡ some m
    → ((u : Mind) → get_elem? s.views 0 ≡ some u → u.made ≡ length s.views) → Alone a s → w.made ≡ m.made → w.at ≡ m.at
    → w.last ≡ m.last → ((j : ℕ) → j < count a → get_or ws (word_at j) 0 ≡ get_or s.words (word_at j) 0)
    → Alone a (record { words = ws; homes = hs; views = set s.views id w })
alone_still a s id m w ws hs at made alone same_made same_at same_last words =
    alone_on a s id m w ws hs at made
    (λ zero_is one near. let here : m.at < count a = omega (arith, near, same_at) in
    ap (λ (j : ℕ). get_or ws (word_at j) 0) same_at
    ∙ (words m.at here ∙ (alone m (subst (λ (j : ℕ). get_elem? s.views j ≡ some m) zero_is at) (sym same_made ∙ one) here
    ∙ sym same_last)))
