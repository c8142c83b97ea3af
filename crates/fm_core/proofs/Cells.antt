-- One cell changes, and the state stays sound.
use Rattle.std.proofs.Common.{◌≡◌, ◌≢◌, ℕ, suc, ◌+◌, ◌<◌, ◌≤◌, List, [], ◌++◌, length, get_or, set, take, Bool, true, false, refl, sym, ap, ◌∙◌, subst, arith, le_trans, length-set}
use Rattle.std.specs.Prelude.{if◌then◌else◌}
use Rattle.fm_line.specs.Line.{line, event_at, upper, start}
use Rattle.fm_core.proofs.Bounds.{Onward, bounds_rise}
use Rattle.fm_core.proofs.Fitting.{live_fits}
use Rattle.fm_core.proofs.Elements.{or_set}
use Rattle.fm_core.specs.Invariant.{ValidSetting, Sound, Fits, NotBelow, of_process}
use Rattle.fm_core.specs.State.{Setting, State, cell, visited, unborn}
use Rattle.fm_core.specs.Sweep.{bound_within, bound}
use Rattle.fm_core.specs.Tags.{is_unborn, is_ended, is_held}
use Rattle.fm_core.specs.Taking.{covers}
use Rattle.fm_core.specs.declared.cell.Cell.{Cell}
use Rattle.fm_core.specs.declared.due.Due.TheVariants.{Nothing, Pair, Everything}
use Rattle.fm_core.specs.declared.floor.Floor.TheVariants.{At}
use Rattle.fm_core.specs.declared.tag.Tag.{Tag}
use Rattle.fm_core.specs.declared.tag.Tag.TheVariants.{Unborn, Home, Full, Out, Ended, EndedOut, Drained}
use Rattle.fm_msg.specs.Event.{TimedMessage}

-- a process that is out
pub out_fits : (g : Setting) (p now s computed taken : ℕ) (r : Bool) → taken ≤ computed → computed ≤ length (line g.lines p).events
    → computed ≤ taken + g.room → start g.lines p ≤ now → now ≤ upper (line g.lines p) computed
    → Fits g p (record { tag = Out; clock = now; seat = s; computed = computed; taken = taken; recorded = r })
out_fits g p now s computed taken r a b c d e =
    live_fits g p (record { tag = Out; clock = now; seat = s; computed = computed; taken = taken; recorded = r }) refl refl a b c
    (λ x. absurd (cc)) (λ x. absurd (cc)) d e

-- what holds of released, gathered and visited where a cell p becomes c
pub record Taken (g : Setting) (h : State) (p : ℕ) (c : Cell) (vs : List Bool) (gs : List TimedMessage) : Type 0 where
  pub marked : length vs ≡ length h.cells
  pub named : (k : ℕ) → k < length (h.released ++ gs) → (get_or (h.released ++ gs) k (event_at 0)).process < length h.cells
  pub kept : (q : ℕ) → q < length h.cells → q ≢ p → of_process q (h.released ++ gs) ≡ take (cell h q).taken (line g.lines q).events
  pub kept_here : of_process p (h.released ++ gs) ≡ take c.taken (line g.lines p).events
  pub not_due : h.due ≡ Nothing → gs ≡ []
  pub gathered_due : (k : ℕ) → k < length gs → covers h.due (get_or gs k (event_at 0)) ≡ true
  pub gathered : (q : ℕ) → q < length h.cells → length (of_process q gs) ≤ (if get_or vs q false then g.room else 0)
  pub visited_other : (q : ℕ) → q ≢ p → get_or vs q false ≡ visited h q
  pub visited_below : (m i k : ℕ) → h.due ≡ Pair m i → get_or vs p false ≡ true → c.taken ≤ k → k < length (line g.lines p).events
      → NotBelow m i (upper (line g.lines p) k) p
  pub visited_all : h.due ≡ Everything → get_or vs p false ≡ true → c.taken ≡ length (line g.lines p).events

module _ (g : Setting) (h : State) (valid : ValidSetting g) (ok : Sound g h) (p : ℕ) (c : Cell) (lt : p < length h.cells) where
  -- what holds of the new cell against the old one
  pub record Moves : Type 0 where
    pub fits : Fits g p c
    pub born : is_unborn c.tag ≡ false
    pub ended_on : is_ended (cell h p).tag ≡ true → is_ended c.tag ≡ true
    pub waited : (i : ℕ) → i < length (line g.lines p).predecessors
        → is_ended (cell h (get_or (line g.lines p).predecessors i 0)).tag ≡ true
    pub seat : is_held c.tag ≡ true → c.seat < length h.desks
    pub alone : (q : ℕ) → q < length h.cells → q ≢ p → is_held (cell h q).tag ≡ true → is_held c.tag ≡ true → (cell h q).seat ≢ c.seat
    pub clock : is_unborn (cell h p).tag ≡ false → (cell h p).clock ≤ c.clock
    pub birth : (i : ℕ) → is_unborn (cell h p).tag ≡ true → i < length (line g.lines p).predecessors
        → (cell h (get_or (line g.lines p).predecessors i 0)).clock ≤ c.clock
    pub computed : (cell h p).computed ≤ c.computed
    pub led : (f k : ℕ) → h.floor ≡ At f → k < c.computed → upper (line g.lines p) k ≤ f + g.lead

  -- the state where the process p becomes c, with these marks and this gather
  abbrev pub moved : List Bool → List TimedMessage → State
  moved vs gs = record {
    cells = set h.cells p c;
    floor = h.floor;
    desks = h.desks;
    due = h.due;
    visited = vs;
    gather = gs;
    released = h.released;
  }

  module _ (m : Moves) (vs : List Bool) (gs : List TimedMessage) where
    abbrev k : State
    k = moved vs gs

    each : (P : ℕ → Cell → Type 0) → P p c → ((q : ℕ) → q < length h.cells → q ≢ p → P q (cell h q)) → (q : ℕ) → q < length k.cells
        → P q (cell k q)
    each P here other q near = or_set (P q) h.cells p q c unborn lt (λ e. subst (λ (r : ℕ). P r c) (sym e) here)
        (λ n. other q (rw length-set at near) n)

    ended_stays : (q : ℕ) → is_ended (cell h q).tag ≡ true → is_ended (cell k q).tag ≡ true
    ended_stays q e = or_set (λ (x : Cell). is_ended x.tag ≡ true) h.cells p q c unborn lt
        (λ same. m.ended_on (subst (λ (r : ℕ). is_ended (cell h r).tag ≡ true) same e)) (λ n. e)

    ended_is_born : (t : Tag) → is_ended t ≡ true → is_unborn t ≡ false
    ended_is_born Unborn e = absurd (cc)
    ended_is_born Home e = refl
    ended_is_born Full e = refl
    ended_is_born Out e = refl
    ended_is_born Ended e = refl
    ended_is_born EndedOut e = refl
    ended_is_born Drained e = refl

    onward : Onward g h.cells k.cells
    onward = record {
      born = λ j e. or_set (λ (x : Cell). (is_unborn x.tag ≡ false) × ((cell h j).clock ≤ x.clock)) h.cells p j c unborn lt
          (λ same. (
            m.born,
            subst (λ (r : ℕ). (cell h r).clock ≤ c.clock) (sym same)
                (m.clock (subst (λ (r : ℕ). is_unborn (cell h r).tag ≡ false) same e)),
          )) (λ n. (e, omega arith));
      births = λ j i e. or_set (λ (x : Cell). is_unborn x.tag ≡ false → i < length (line g.lines j).predecessors
          → (is_unborn (cell h (get_or (line g.lines j).predecessors i 0)).tag ≡ false)
          × ((cell h (get_or (line g.lines j).predecessors i 0)).clock ≤ x.clock)) h.cells p j c unborn lt
          (λ same f. subst (λ (r : ℕ). i < length (line g.lines r).predecessors
          → (is_unborn (cell h (get_or (line g.lines r).predecessors i 0)).tag ≡ false)
          × ((cell h (get_or (line g.lines r).predecessors i 0)).clock ≤ c.clock)) (sym same)
          (λ near. (ended_is_born _ (m.waited i near), m.birth i (subst (λ (r : ℕ). is_unborn (cell h r).tag ≡ true) same e) near)))
          (λ n f near. absurd (cc));
    }

    higher : (j : ℕ) → bound g h j ≤ bound g k j
    higher j = let same : bound g k j ≡ bound_within (suc (length h.cells)) g k.cells j = ap (λ (n : ℕ). bound_within (suc n) g k.cells j)
        (length-set h.cells p c) in
        let up : bound g h j ≤ bound_within (suc (length h.cells)) g k.cells j =
        bounds_rise (suc (length h.cells)) g h.cells k.cells onward j in subst (λ (x : ℕ). bound g h j ≤ x) (sym same) up

    not_ended_before : (q : ℕ) → is_ended (cell k q).tag ≡ false → (b : Bool) → is_ended (cell h q).tag ≡ b
        → is_ended (cell h q).tag ≡ false
    not_ended_before q e true f = let x = ended_stays q f in absurd (cc)
    not_ended_before q e false f = f

    -- where the new process and what was taken are right, the state stays sound
    pub moved_sound : Taken g h p c vs gs → Sound g k
    moved_sound t = record {
      lined = length-set h.cells p c ∙ ok.lined;
      marked = t.marked ∙ sym (length-set h.cells p c);
      crew = ok.crew;
      root = or_set (λ (x : Cell). is_unborn x.tag ≡ false) h.cells p 0 c unborn lt (λ e. m.born) (λ n. ok.root);
      short = λ s near. rw length-set (ok.short s near);
      named = λ i near. rw length-set (t.named i near);
      fits = each (λ q x. Fits g q x) m.fits (λ q near n. ok.fits q near);
      after_all = λ q i near. or_set (λ (x : Cell). is_unborn x.tag ≡ false → i < length (line g.lines q).predecessors
          → is_ended (cell k (get_or (line g.lines q).predecessors i 0)).tag ≡ true) h.cells p q c unborn lt
          (λ same e. subst (λ (r : ℕ). i < length (line g.lines r).predecessors
          → is_ended (cell k (get_or (line g.lines r).predecessors i 0)).tag ≡ true) (sym same)
          (λ there. ended_stays _ (m.waited i there)))
          (λ n e there. ended_stays _ (ok.after_all q i (rw length-set at near) e there));
      seated = each (λ q x. is_held x.tag ≡ true → x.seat < length h.desks) m.seat (λ q near n. ok.seated q near);
      alone = λ a b near_a near_b. each (λ q x. is_held x.tag ≡ true → is_held (cell k b).tag ≡ true → x.seat ≡ (cell k b).seat → q ≡ b)
          (λ held. each (λ r y. is_held y.tag ≡ true → c.seat ≡ y.seat → p ≡ r) (λ _ _. refl)
          (λ r near n held_r same. absurd (m.alone r near n held_r held (sym same))) b near_b)
          (λ q near n held. each (λ r y. is_held y.tag ≡ true → (cell h q).seat ≡ y.seat
          → q ≡ r) (λ held_c same. absurd (m.alone q near n held held_c same))
          (λ r near_r _ held_r same. ok.alone q r near near_r held held_r same) b near_b) a near_a;
      seen = λ s i near there. le_trans (ok.seen s i near there) (higher i);
      seen_ended = λ s i near there e. let x = ok.seen_ended s i near there e in (ended_stays i x.0, x.1);
      paced = ok.paced;
      floored = λ f q e near open_there. le_trans
          (ok.floored f q e (rw length-set at near) (not_ended_before q open_there (is_ended (cell h q).tag) refl)) (higher q);
      swept_high = ok.swept_high;
      led = λ f q i e near. or_set (λ (x : Cell). i < x.computed → upper (line g.lines q) i ≤ f + g.lead) h.cells p q c unborn lt
          (λ same less. subst (λ (r : ℕ). upper (line g.lines r) i ≤ f + g.lead) (sym same) (m.led f i e less))
          (λ n. ok.led f q i e (rw length-set at near));
      done = λ q e near. ended_stays q (ok.done q e (rw length-set at near));
      done_seen = ok.done_seen;
      due_floor = ok.due_floor;
      due_rest = λ d i q j e near. or_set (λ (x : Cell). x.computed ≤ j → j < length (line g.lines q).events
          → NotBelow d i (upper (line g.lines q) j) q) h.cells p q c unborn lt
          (λ same le. ok.due_rest d i q j e (rw length-set at near)
          (le_trans (subst (λ (r : ℕ). (cell h r).computed ≤ c.computed) (sym same) m.computed) le))
          (λ n. ok.due_rest d i q j e (rw length-set at near));
      due_all = ok.due_all;
      kept = each (λ q x. of_process q (h.released ++ gs) ≡ take x.taken (line g.lines q).events) t.kept_here t.kept;
      not_due = t.not_due;
      gathered_due = t.gathered_due;
      gathered = λ q near. t.gathered q (rw length-set at near);
      visited_below = λ d i q j e near v. or_set (λ (x : Cell). x.taken ≤ j → j < length (line g.lines q).events
          → NotBelow d i (upper (line g.lines q) j) q) h.cells p q c unborn lt
          (λ same. subst (λ (r : ℕ). c.taken ≤ j → j < length (line g.lines r).events → NotBelow d i (upper (line g.lines r) j) r)
          (sym same) (t.visited_below d i j e (subst (λ (r : ℕ). get_or vs r false ≡ true) same v)))
          (λ n. ok.visited_below d i q j e (rw length-set at near) (sym (t.visited_other q n) ∙ v));
      visited_all = λ q e near v. or_set (λ (x : Cell). x.taken ≡ length (line g.lines q).events) h.cells p q c unborn lt
          (λ same. subst (λ (r : ℕ). c.taken ≡ length (line g.lines r).events) (sym same)
          (t.visited_all e (subst (λ (r : ℕ). get_or vs r false ≡ true) same v)))
          (λ n. ok.visited_all q e (rw length-set at near) (sym (t.visited_other q n) ∙ v));
      prefix = ok.prefix;
    }

  -- what was taken stays
  pub taken_stays : c.taken ≡ (cell h p).taken → Taken g h p c h.visited h.gather
  taken_stays same = record {
    marked = ok.marked;
    named = ok.named;
    kept = λ q near n. ok.kept q near;
    kept_here = ok.kept p lt ∙ ap (λ (n : ℕ). take n (line g.lines p).events) (sym same);
    not_due = ok.not_due;
    gathered_due = ok.gathered_due;
    gathered = ok.gathered;
    visited_other = λ q n. refl;
    visited_below = λ m i k e v le. ok.visited_below m i p k e lt v (omega arith);
    visited_all = λ e v. same ∙ ok.visited_all p e lt v;
  }
