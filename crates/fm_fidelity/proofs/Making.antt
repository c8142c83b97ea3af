-- What holds while programs are made: what they have played so far, where they ended, and in how many steps.
use Rattle.std.proofs.Common.{◌≡◌, ℕ, zero, suc, ◌+◌, ◌-◌, ◌<◌, ◌≤◌, Bool, true, false, List, [], ◌∷◌, ◌++◌, map, length, reverse, refl, sym, ap, ap₂, ◌∙◌, subst, arith, append_assoc, append-nil, length-append, ⊎_elim}
use Rattle.std.specs.Prelude.{slice_index_or, max, ◌&&◌}
use Rattle.std.specs.List.{list_all, AllByRecursion}
use Rattle.std.proofs.lemmas.Bool.{and_parts, and_from, cases_lt}
use Rattle.std.proofs.lemmas.List.{map-append, length-map}
use Rattle.std.proofs.lemmas.Option.{slice_get_past}
use Rattle.fm_line.specs.Marks.{Mark}
use Rattle.fm_program.specs.declared.plan.TheConstants.{MAX_STEPS}
use Rattle.fm_program.specs.declared.op.Op.{Op}
use Rattle.fm_program.specs.declared.op.Slot.{Slot}
use Rattle.fm_program.specs.Parts.{ProgramParts, no_program}
use Rattle.fm_program.specs.Action.{Action, action_of}
use Rattle.fm_program.specs.State.{OpenFrame, OpenLevel, Standing}
use Rattle.fm_program.specs.Run.{over, step, step_at, Run, run_done, run_from, program_run}
use Rattle.fm_program.specs.Process.{Spot, Played, no_played, later_spot, end_spot, start_spot, levels_opened, at_start, process_played, ending_mark, played_marks}
use Rattle.fm_program.specs.Fit.{ends_in, all_steps}
use Rattle.fm_meaning.specs.State.{OpenBlock, Now, started}
use Rattle.fm_meaning.specs.Played.{mark_of_end}
use Rattle.fm_expansion.specs.Outline.{Tables, stock_with}
use Rattle.fm_expansion.specs.Homes.{Home, Inside}
use Rattle.fm_expansion.specs.Expansion.{Emitting, with_ops, with_scopes, begun, whole}
use Rattle.fm_fidelity.proofs.Plain.{plain, heard}
use Rattle.fm_fidelity.proofs.Running.{Runs, plain_run, run_behind, nothing, after, begin_at}
use Rattle.fm_expansion.proofs.Frames.{frames_held, Held}
use Rattle.fm_fidelity.proofs.Drawing.{at}
use Rattle.fm_fidelity.proofs.Atoms.{around}
use Rattle.fm_expansion.proofs.Programs.{at_first, at_seam, performed, performed_more, performed_stays, performed_last, marks_more, steps_more, origins_of, warps_of, spot_in, later_in, later_outset, EndsAt, ends_there, ends_within, Named, levels_again, cycles_again}

-- ---- lists

-- a test of one element more
pub all_more : {A : Type 0} (f : A → Bool) (xs : List A) (x : A) → list_all f xs ≡ true → f x ≡ true
    → list_all f (xs ++ x ∷ []) ≡ true
all_more f [] x first last = and_from (f x) true last refl
all_more f (y ∷ xs) x first last =
    let both = and_parts (f y) (list_all f xs) first in
    and_from (f y) (list_all f (xs ++ x ∷ [])) both.0 (all_more f xs x both.1 last)

-- tests that agree on the elements
all_alike : (f g : ℕ → Bool) (j : ℕ) (xs : List ℕ) → AllByRecursion (λ q. q < j) xs
    → ((q : ℕ) → q < j → f q ≡ g q)
    → list_all f xs ≡ list_all g xs
all_alike f g j [] below same = refl
all_alike f g j (x ∷ xs) below same = ap₂ (λ a b. a && b) (same x below.0) (all_alike f g j xs below.1 same)

-- numbers below a greater bound
below_more : (j k : ℕ) (xs : List ℕ) → j ≤ k → AllByRecursion (λ q. q < j) xs → AllByRecursion (λ q. q < k) xs
below_more j k [] more below = tt
below_more j k (x ∷ xs) more below = (omega (arith, below.0, more), below_more j k xs more below.1)

module _ (t : Tables) (scopes : List (List Slot)) (seed : ℕ) where
  -- the operations of a program, with the tables of the whole plan
  abbrev pub code_of : List Op → List Action
  code_of ops = map (action_of (stock_with t scopes)) ops

  -- what programs play
  abbrev pub perf : List ProgramParts → List Played
  perf ps = performed (stock_with t scopes) seed ps

  -- a program at its start, behind others
  abbrev pub begins : ProgramParts → ℕ → List ProgramParts → Standing
  begins p j ps = at_start (stock_with t scopes) seed j p (start_spot (perf ps) p.predecessors)

  -- the predecessors of a process end in the levels in which it starts, and have smaller numbers
  pub record Waits (ps : List ProgramParts) (levels origins : List ℕ) (j : ℕ) (predecessors : List ℕ) :
      Type 0 where
    pub ends : list_all (λ q. ends_in levels origins (slice_index_or (perf ps) q no_played))
        predecessors ≡ true
    pub below : AllByRecursion (λ q. q < j) predecessors

  -- so do those of each program
  abbrev pub JoinedUp : List ProgramParts → Type 0
  JoinedUp ps = (j : ℕ) → j < length ps → Waits ps (slice_index_or ps j no_program).levels
      (slice_index_or (perf ps) j no_played).start.origins j (slice_index_or ps j no_program).predecessors

  -- they stay
  waits_more : (ps more : List ProgramParts) (levels origins : List ℕ) (j : ℕ) (qs : List ℕ) → j ≤ length ps
      → Waits ps levels origins j qs → Waits (ps ++ more) levels origins j qs
  waits_more ps more levels origins j qs within w = record {
    ends = all_alike (λ q. ends_in levels origins (slice_index_or (perf (ps ++ more)) q no_played))
        (λ q. ends_in levels origins (slice_index_or (perf ps) q no_played)) j qs w.below
        (λ q smaller. ap (ends_in levels origins)
        (performed_stays (stock_with t scopes) seed ps more q (omega (arith, smaller, within))))
        ∙ w.ends;
    below = w.below;
  }

  -- ---- what is known of programs

  -- of the programs that are whole and of the one that grows: which process it is; who waits for
  -- whom; what it made, in how many steps, and where it stands
  pub record Good (e : Emitting) (now : Now) (hs : List Home) (ls : List OpenLevel) (trace : List Mark)
      (most : ℕ) : Type 0 where
    pub number : now.process ≡ length e.finished
    pub births : now.births ≡ map ProgramParts.predecessors e.finished ++ e.current.predecessors ∷ []
    pub made : List Mark
    pub steps : ℕ
    pub runs : (more : List Op) → Runs (code_of (e.current.ops ++ more))
        (begins e.current now.process e.finished) steps made
        (at (length e.current.ops) now ls (frames_held hs [] now.blocks))
    pub heard_all : trace ≡ map plain (played_marks (perf e.finished)) ++ made
    pub ended : list_all (λ q. q.run.ended) (perf e.finished) ≡ true
    pub spent : all_steps (perf e.finished) + steps ≤ most
    pub waits : Waits e.finished e.current.levels
        (start_spot (perf e.finished) e.current.predecessors).origins (length e.finished)
        e.current.predecessors
    pub joins : JoinedUp e.finished

  -- said otherwise
  pub good_by : (e : Emitting) (now : Now) (hs : List Home) (ls : List OpenLevel) (tr ts : List Mark)
      (m n : ℕ) → tr ≡ ts → m ≤ n
      → Good e now hs ls tr m → Good e now hs ls ts n
  good_by e now hs ls tr ts m n same more g = record {
    number = g.number;
    births = g.births;
    made = g.made;
    steps = g.steps;
    runs = g.runs;
    heard_all = sym same ∙ g.heard_all;
    ended = g.ended;
    spent = omega (arith, g.spent, more);
    waits = g.waits;
    joins = g.joins;
  }

  -- in other homes with the same frames, in a state that stands at the same operation
  pub good_at : (e : Emitting) (now new : Now) (hs ks : List Home) (ls : List OpenLevel)
      (tr : List Mark) (m : ℕ)
      → new.process ≡ now.process → new.births ≡ now.births
      → at (length e.current.ops) now ls (frames_held hs [] now.blocks) ≡ at (length e.current.ops) new
      ls (frames_held ks [] new.blocks)
      → Good e now hs ls tr m → Good e new ks ls tr m
  good_at e now new hs ks ls tr m process births same g = record {
    number = process ∙ g.number;
    births = births ∙ g.births;
    made = g.made;
    steps = g.steps;
    runs = λ more. subst (λ s. Runs (code_of (e.current.ops ++ more))
        (begins e.current new.process e.finished) g.steps g.made s) same
        (subst (λ j. Runs (code_of (e.current.ops ++ more)) (begins e.current j e.finished) g.steps g.made
        (at (length e.current.ops) now ls (frames_held hs [] now.blocks))) (sym process) (g.runs more));
    heard_all = g.heard_all;
    ended = g.ended;
    spent = g.spent;
    waits = g.waits;
    joins = g.joins;
  }

  -- scopes more
  pub good_scopes : (ss : List (List Slot)) (e : Emitting) (now : Now) (hs : List Home)
      (ls : List OpenLevel) (tr : List Mark) (m : ℕ)
      → Good e now hs ls tr m → Good (with_scopes ss e) now hs ls tr m
  good_scopes ss e now hs ls tr m g = record {
    number = g.number;
    births = g.births;
    made = g.made;
    steps = g.steps;
    runs = g.runs;
    heard_all = g.heard_all;
    ended = g.ended;
    spent = g.spent;
    waits = g.waits;
    joins = g.joins;
  }

  -- operations more, that lead on
  pub extend : (e : Emitting) (now new : Now) (hs ks : List Home) (ls ms : List OpenLevel)
      (tr es : List Mark) (ops : List Op) (n m k : ℕ)
      → new.process ≡ now.process → new.births ≡ now.births → m + n ≤ k → Good e now hs ls tr m
      → ((more : List Op) → Runs (code_of (e.current.ops ++ (ops ++ more)))
      (at (length e.current.ops) now ls (frames_held hs [] now.blocks))
      n es (at (length (e.current.ops ++ ops)) new ms (frames_held ks [] new.blocks)))
      → Good (with_ops ops e) new ks ms (tr ++ es) k
  extend e now new hs ks ls ms tr es ops n m k process births room g on =
      let end = at (length (e.current.ops ++ ops)) new ms (frames_held ks [] new.blocks) in
      record {
        number = process ∙ g.number;
        births = births ∙ g.births;
        made = g.made ++ es;
        steps = g.steps + n;
        runs = λ more. subst (λ j. Runs (code_of ((e.current.ops ++ ops) ++ more))
            (begins e.current j e.finished) (g.steps + n)
            (g.made ++ es) end) (sym process)
            (subst (λ c. Runs (code_of c) (begins e.current now.process e.finished) (g.steps + n)
            (g.made ++ es) end)
            (sym (append_assoc e.current.ops ops more))
            (after (code_of (e.current.ops ++ (ops ++ more))) _ _ _ g.steps n g.made es
            (g.runs (ops ++ more)) (on more)));
        heard_all = ap (λ l. l ++ es) g.heard_all
            ∙ append_assoc (map plain (played_marks (perf e.finished))) g.made es;
        ended = g.ended;
        spent = omega (arith, g.spent, room);
        waits = g.waits;
        joins = g.joins;
      }

  -- ---- a process ends

  -- what is known of programs that are all whole
  pub record Closed (ps : List ProgramParts) (births : List (List ℕ)) (trace : List Mark) (most : ℕ) :
      Type 0 where
    pub births_are : births ≡ map ProgramParts.predecessors ps
    pub heard_all : trace ≡ map plain (played_marks (perf ps))
    pub ended : list_all (λ q. q.run.ended) (perf ps) ≡ true
    pub spent : all_steps (perf ps) ≤ most
    pub joins : JoinedUp ps

  -- said otherwise
  pub closed_by : (ps : List ProgramParts) (births : List (List ℕ)) (tr ts : List Mark) (m n : ℕ)
      → tr ≡ ts → m ≤ n
      → Closed ps births tr m → Closed ps births ts n
  closed_by ps births tr ts m n same more c = record {
    births_are = c.births_are;
    heard_all = sym same ∙ c.heard_all;
    ended = c.ended;
    spent = omega (arith, c.spent, more);
    joins = c.joins;
  }

  -- a run from the end of a program
  run_over : (code : List Action) (s : Standing) → step code s ≡ over → (k : ℕ)
      → program_run code k s ≡ run_done true s
  run_over code s is zero = ap (λ y. run_from y s (run_done false)) is
  run_over code s is (suc k) = ap (λ y. run_from y s (program_run code k)) is

  -- a run with these
  abbrev run_with : ℕ → List Mark → Standing → Run
  run_with steps marks last = record { ended = true; steps = steps; marks = marks; last = last }

  -- the run of the program that grows, if it were whole
  runs_out : (e : Emitting) (now : Now) (hs : List Home) (ls : List OpenLevel) (tr : List Mark)
      (m j : ℕ) → now.process ≡ j
      → m ≤ MAX_STEPS → (g : Good e now hs ls tr m)
      → plain_run (process_played (stock_with t scopes) seed j e.current (perf e.finished)).run
      ≡ run_with g.steps g.made (at (length e.current.ops) now ls (frames_held hs [] now.blocks))
  runs_out e now hs ls tr m j is small g =
      let ops = e.current.ops in
      let end = at (length ops) now ls (frames_held hs [] now.blocks) in
      let begin = begins e.current j e.finished in
      let k = MAX_STEPS - g.steps in
      let all : MAX_STEPS ≡ g.steps + k = omega (arith, g.spent, small) in
      let none : g.steps + 0 ≡ g.steps = omega arith in
      let runs = subst (λ p. Runs (code_of (ops ++ [])) (begins e.current p e.finished) g.steps g.made
      end) is (g.runs []) in
      let past : step (code_of (ops ++ [])) end ≡ over =
      ap (λ o. step_at o end) (slice_get_past (code_of (ops ++ [])) (length ops)
      (omega (arith, length-map (ops ++ []) (action_of (stock_with t scopes)), length-append ops []))) in
      ap (λ c. plain_run (program_run (code_of c) MAX_STEPS begin)) (sym (append-nil ops))
      ∙ ap (λ n. plain_run (program_run (code_of (ops ++ [])) n begin)) all
      ∙ runs.by k
      ∙ ap (λ r. run_behind g.steps g.made (plain_run r)) (run_over (code_of (ops ++ [])) end past k)
      ∙ ap₂ (λ n l. run_with n l end) none (append-nil g.made)

  -- what is known of a process that has ended
  pub record Finished (e : Emitting) (now : Now) (ls : List OpenLevel) (trace : List Mark) (most : ℕ) :
      Type 0 where
    pub closed : Closed (whole e) now.births (trace ++ heard ls (mark_of_end now ∷ [])) most
    pub ends : EndsAt (perf (whole e)) (length e.finished) now.position ls

  -- the process ends
  pub finish : (e : Emitting) (now : Now) (hs : List Home) (ls : List OpenLevel) (tr : List Mark)
      (m : ℕ) → m ≤ MAX_STEPS
      → Good e now hs ls tr m → Finished e now ls tr m
  finish e now hs ls tr m small g =
      let stock = stock_with t scopes in
      let ps = e.finished in
      let j = length ps in
      let p = process_played stock seed j e.current (perf ps) in
      let end = at (length e.current.ops) now ls (frames_held hs [] now.blocks) in
      let ran = runs_out e now hs ls tr m j g.number small g in
      let last : p.run.last ≡ end = ap Run.last ran in
      let more = performed_more stock seed ps e.current j refl in
      let here = performed_last stock seed ps e.current j [] refl in
      let own_marks : map plain (p.run.marks ++ ending_mark p.run.last ∷ []) ≡ g.made ++ heard ls
      (mark_of_end now ∷ []) =
      map-append plain p.run.marks (ending_mark p.run.last ∷ [])
      ∙ ap₂ (λ ms s. ms ++ plain (ending_mark s) ∷ []) (ap Run.marks ran) last in
      let spent : all_steps (perf (whole e)) ≤ m =
      omega (arith, ap all_steps more, steps_more (perf ps) p, ap Run.steps ran, g.spent) in
      record {
        closed = record {
          births_are = g.births ∙ sym (map-append ProgramParts.predecessors ps (e.current ∷ []));
          heard_all = ap (λ l. l ++ heard ls (mark_of_end now ∷ [])) g.heard_all
              ∙ append_assoc (map plain (played_marks (perf ps))) g.made (heard ls (mark_of_end now ∷ []))
              ∙ ap (λ l. map plain (played_marks (perf ps)) ++ l) (sym own_marks)
              ∙ sym (map-append plain (played_marks (perf ps)) (p.run.marks ++ ending_mark p.run.last ∷ []))
              ∙ ap (map plain) (sym (marks_more (perf ps) p))
              ∙ ap (λ l. map plain (played_marks l)) (sym more);
          ended = subst (λ l. list_all (λ q. q.run.ended) l ≡ true) (sym more)
              (all_more (λ q. q.run.ended) (perf ps) p g.ended (ap Run.ended ran));
          spent = spent;
          joins = λ k within. ⊎_elim (earlier k)
              (λ le. own k (omega (arith, within, length-append ps (e.current ∷ []), le)) here)
              (cases_lt k j);
        };
        ends = record {
          position = ap (λ q. q.run.last.position) here ∙ ap Standing.position last;
          levels = ap (λ q. q.run.last.levels) here ∙ ap Standing.levels last;
        };
      }
    where
      all_ps : List ProgramParts
      all_ps = whole e

      earlier : (k : ℕ) → k < length e.finished → Waits all_ps (slice_index_or all_ps k no_program).levels
          (slice_index_or (perf all_ps) k no_played).start.origins k
          (slice_index_or all_ps k no_program).predecessors
      earlier k within =
          let ps = e.finished in
          let same = at_first ps (e.current ∷ []) k no_program within in
          let still = performed_stays (stock_with t scopes) seed ps (e.current ∷ []) k within in
          subst (λ q. Waits all_ps q.levels (slice_index_or (perf all_ps) k no_played).start.origins k
          q.predecessors) (sym same)
          (subst (λ q. Waits all_ps (slice_index_or ps k no_program).levels q.start.origins k
          (slice_index_or ps k no_program).predecessors)
          (sym still) (waits_more ps (e.current ∷ []) _ _ k _ (omega (arith, within)) (g.joins k within)))

      own : (k : ℕ) → k ≡ length e.finished
          → slice_index_or (perf all_ps) (length e.finished) no_played
          ≡ process_played (stock_with t scopes) seed (length e.finished) e.current (perf e.finished)
          → Waits all_ps (slice_index_or all_ps k no_program).levels
          (slice_index_or (perf all_ps) k no_played).start.origins k
          (slice_index_or all_ps k no_program).predecessors
      own k is here =
          let ps = e.finished in
          let j = length ps in
          let same = at_seam ps e.current [] no_program in
          subst (λ i. Waits all_ps (slice_index_or all_ps i no_program).levels
          (slice_index_or (perf all_ps) i no_played).start.origins i
          (slice_index_or all_ps i no_program).predecessors) (sym is)
          (subst (λ q. Waits all_ps q.levels (slice_index_or (perf all_ps) j no_played).start.origins j
          q.predecessors) (sym same)
          (subst (λ q. Waits all_ps e.current.levels q.start.origins j e.current.predecessors) (sym here)
          (waits_more ps (e.current ∷ []) _ _ j _ (omega arith) g.waits)))

  -- ---- a process begins

  -- these processes all end in these levels, the last of them at a position, or at 0 where there is none
  abbrev pub EndAll : List ProgramParts → List ℕ → List OpenLevel → ℕ → Type 0
  EndAll ps [] ls end = end ≡ 0
  EndAll ps (q ∷ qs) ls end =
      (x : ℕ) × (y : ℕ) × (q < length ps) × EndsAt (perf ps) q x ls × EndAll ps qs ls y × (end ≡ max x y)

  -- an end stays
  pub ends_more : (ps more : List ProgramParts) (q x : ℕ) (ls : List OpenLevel) → q < length ps
      → EndsAt (perf ps) q x ls
      → EndsAt (perf (ps ++ more)) q x ls
  ends_more ps more q x ls below e =
      let still = performed_stays (stock_with t scopes) seed ps more q below in
      record {
        position = ap (λ p. p.run.last.position) still ∙ e.position;
        levels = ap (λ p. p.run.last.levels) still ∙ e.levels;
      }

  -- with programs behind them
  pub end_all_more : (ps more : List ProgramParts) (qs : List ℕ) (ls : List OpenLevel) (end : ℕ)
      → EndAll ps qs ls end
      → EndAll (ps ++ more) qs ls end
  end_all_more ps more [] ls end h = h
  end_all_more ps more (q ∷ qs) ls end (x, y, below, ends, others, is) = (
    x,
    y,
    omega (arith, below, length-append ps more),
    ends_more ps more q x ls below ends,
    end_all_more ps more qs ls y others,
    is,
  )

  -- what follows starts there
  pub starts_there : (ps : List ProgramParts) (q : ℕ) (qs : List ℕ) (ls : List OpenLevel) (end : ℕ)
      → EndAll ps (q ∷ qs) ls end
      → start_spot (perf ps) (q ∷ qs) ≡ spot_in end ls
  starts_there ps q [] ls end (x, y, below, ends, others, is) =
      let same : x ≡ end = omega (arith, others, is) in
      later_outset (end_spot (perf ps) q) ∙ ends_there (perf ps) q x ls ends ∙ ap (λ z. spot_in z ls) same
  starts_there ps q (r ∷ rs) ls end (x, y, below, ends, others, is) =
      ap₂ later_spot (ends_there (perf ps) q x ls ends) (starts_there ps r rs ls y others)
      ∙ later_in x y ls ∙ ap (λ z. spot_in z ls) (sym is)

  -- there is one
  abbrev pub HasOne : List ℕ → Type 0
  HasOne [] = ⊥
  HasOne (q ∷ qs) = Unit {0}

  -- what follows them starts there
  pub starts_all : (ps : List ProgramParts) (qs : List ℕ) (ls : List OpenLevel) (end : ℕ) → HasOne qs
      → EndAll ps qs ls end
      → start_spot (perf ps) qs ≡ spot_in end ls
  starts_all ps [] ls end some ends = absurd some
  starts_all ps (q ∷ qs) ls end some ends = starts_there ps q qs ls end ends

  -- each of them is waited for
  pub waits_all : (ps : List ProgramParts) (qs : List ℕ) (ls : List OpenLevel) (end : ℕ) → EndAll ps qs ls end
      → Waits ps (warps_of ls) (origins_of ls) (length ps) qs
  waits_all ps [] ls end h = record { ends = refl; below = tt }
  waits_all ps (q ∷ qs) ls end (x, y, below, ends, others, is) =
      let w = waits_all ps qs ls y others in
      record {
        ends = and_from (ends_in (warps_of ls) (origins_of ls) (slice_index_or (perf ps) q no_played))
            (list_all (λ r. ends_in (warps_of ls) (origins_of ls) (slice_index_or (perf ps) r no_played)) qs)
            (ends_within (perf ps) q x ls ends) w.ends;
        below = (below, w.below);
      }

  -- a process begins where others have ended
  pub fresh_good : (ps : List ProgramParts) (qs : List ℕ) (i : Inside) (p : ℕ) (bs : List OpenBlock)
      (births : List (List ℕ))
      (ls : List OpenLevel) (tr : List Mark) (m : ℕ) (ss : List (List Slot))
      → map OpenLevel.warp ls ≡ i.warps → Named t ls
      → Held t i.homes [] bs → Closed ps births tr m → start_spot (perf ps) qs ≡ spot_in p ls
      → Waits ps (warps_of ls) (origins_of ls) (length ps) qs
      → Good (record { finished = ps; current = begun i qs; scopes = ss })
      (started (around seed i) qs p bs births) i.homes ls tr m
  fresh_good ps qs i p bs births ls tr m ss warps named held c start waits =
      let stock = stock_with t scopes in
      let j = length births in
      let now = started (around seed i) qs p bs births in
      let e : Emitting = record { finished = ps; current = begun i qs; scopes = ss } in
      let levels = ap (λ ws. levels_opened stock (reverse ws) (origins_of ls) []) (sym warps)
      ∙ levels_again t scopes ls named in
      let there : List OpenLevel → List OpenFrame → Standing = λ k fs. at 0 now k fs in
      let begin : begins (begun i qs) j ps ≡ at 0 now ls (frames_held i.homes [] now.blocks) =
      ap (λ s. at_start stock seed j (begun i qs) s) start
      ∙ ap₂ there levels (cycles_again t scopes i.homes bs held) in
      record {
        number = ap length c.births_are ∙ length-map ps ProgramParts.predecessors;
        births = ap (λ l. l ++ qs ∷ []) c.births_are;
        made = [];
        steps = 0;
        runs = λ more. begin_at (code_of more) _ _ _ 0 [] begin
            (nothing (code_of more) (at 0 now ls (frames_held i.homes [] now.blocks)));
        heard_all = c.heard_all ∙ sym (append-nil (map plain (played_marks (perf ps))));
        ended = c.ended;
        spent = omega (arith, c.spent);
        waits = subst (λ ws. Waits ps (reverse ws) (start_spot (perf ps) qs).origins (length ps) qs) warps
            (subst (λ os. Waits ps (warps_of ls) os (length ps) qs) (sym (ap Spot.origins start)) waits);
        joins = c.joins;
      }
