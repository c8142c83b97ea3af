-- The parts of the plan of a score fit.
use Rattle.std.proofs.Common.{◌≡◌, ◌≢◌, ℕ, ◌-◌, ◌<◌, ◌≤◌, ◌⊎◌, inl, inr, true, [], length, refl, sym, ap, ◌∙◌, subst, arith, length-append}
use Rattle.std.specs.Prelude.{nat_eq, nat_lt, ◌&&◌, if◌then◌else◌, All}
use Rattle.std.specs.List.{list_all}
use Rattle.std.proofs.lemmas.Bool.{and_from, cases_eq, eq-eqb, ne_eqb, lt-ltb, le-leb}
use Rattle.fm_msg.specs.declared.profile.Profile.{Profile}
use Rattle.fm_pattern.specs.declared.cursor.TheConstants.{MAX_ENTRIES}
use Rattle.fm_line.specs.Line.{line, ValidLines}
use Rattle.fm_line.specs.Validity.{all_once}
use Rattle.fm_line.proofs.NumberTests.{each_below_from, below_from, once_from}
use Rattle.fm_program.specs.declared.op.TheConstants.{MAX_PITCHES}
use Rattle.fm_program.specs.Parts.{PlanParts, process_program}
use Rattle.fm_program.specs.Process.{plan_lines, process_run}
use Rattle.fm_program.specs.Fit.{has_up_to, scope_fits, ends_in, joins, ends_in_time, PartsFit}
use Rattle.fm_program.proofs.Lines.{plan-lines-length, plan-lines-waits}
use Rattle.fm_meaning.specs.Resolved.{Resolved}
use Rattle.fm_meaning.specs.Lines.{played_lines}
use Rattle.fm_meaning.specs.Places as places
use Rattle.fm_expansion.specs.Outline.{Tables, Block}
use Rattle.fm_expansion.specs.Expansion.{whole, outermost, nothing_made, expanded, expansion}
use Rattle.fm_fidelity.proofs.Fits.{FitsIn}
use Rattle.fm_expansion.proofs.Resolving.{HasWarpsIn}
use Rattle.fm_expansion.proofs.Growing.{prefix_self, expand_in_grows}
use Rattle.fm_fidelity.proofs.Static.{Inner}
use Rattle.fm_fidelity.proofs.Shapes.{ShapedAll, closed_shape, begun_fits, expand_in_shaped}
use Rattle.fm_fidelity.proofs.Whole.{Plannable, all_scopes, outer_setting, finished, lines_agree}

-- nothing is open round a score
outer_inner : (t : Tables) (b : Block) → Inner t (all_scopes b) places.outermost outermost []
outer_inner t b =
    let g = expand_in_grows b outermost nothing_made in
    record {
      set = outer_setting b;
      there = omega (arith, ap length g.is, length-append nothing_made.scopes g.more);
      homes = tt;
      warps = refl;
    }

-- the programs of a score fit
shapes : (t : Tables) (b : Block) (r : Resolved) → Plannable t b r → HasWarpsIn t b
    → ShapedAll t (all_scopes b) (whole (expanded b)) (all_scopes b)
shapes t b r p warps =
    let inner = outer_inner t b in
    closed_shape t (all_scopes b) (expanded b)
    (expand_in_shaped t (all_scopes b) b places.outermost outermost [] nothing_made
    (subst (FitsIn places.outermost) (sym p.stands) p.fits) warps
    inner (prefix_self (all_scopes b))
    (record {
      finished = refl;
      current = begun_fits t (all_scopes b) places.outermost outermost [] []
          inner;
      root = refl;
      slots = refl;
    }))

-- the number of those that a process waits for
waits_count : (p : PlanParts) (j : ℕ) → ValidLines (plan_lines p) → j < length p.programs → (j ≡ 0) ⊎ (j ≢ 0)
    → (if nat_eq j 0 then nat_eq (length (process_program p j).predecessors) 0 else nat_lt 0
    (length (process_program p j).predecessors))
    ≡ true
waits_count p j valid within (inl none) =
    let first : length (process_program p j).predecessors ≡ 0 =
    ap length (sym (plan-lines-waits p j))
    ∙ ap (λ k. length (line (plan_lines p) k).predecessors) none ∙ ap length valid.root in
    ap (λ b. if b then nat_eq (length (process_program p j).predecessors) 0 else nat_lt 0
    (length (process_program p j).predecessors))
    (eq-eqb j 0 none)
    ∙ eq-eqb (length (process_program p j).predecessors) 0 first
waits_count p j valid within (inr some) =
    let least : 0 < j = omega (arith, some) in
    let there : j < length (plan_lines p) = omega (arith, within, plan-lines-length p) in
    ap (λ b. if b then nat_eq (length (process_program p j).predecessors) 0 else nat_lt 0
    (length (process_program p j).predecessors))
    (ne_eqb j 0 some)
    ∙ lt-ltb 0 (length (process_program p j).predecessors)
    (subst (λ qs. 0 < length qs) (plan-lines-waits p j) (valid.waits j least there))

-- the plan of an outline fits
pub parts_fit : (t : Tables) (b : Block) (r : Resolved) → Plannable t b r → HasWarpsIn t b
    → list_all (has_up_to MAX_ENTRIES) t.lists ≡ true
    → list_all (has_up_to MAX_PITCHES) t.chords ≡ true → ValidLines (played_lines r)
    → (profile : Profile) → PartsFit (expansion t r.seed profile b)
parts_fit t b r plannable warps lists chords good profile =
    let p = expansion t r.seed profile b in
    let ps = whole (expanded b) in
    let closed = (finished t b r plannable).closed in
    let shaped = shapes t b r plannable warps in
    let valid = subst ValidLines (sym (lines_agree t b r plannable profile)) good in
    let many = plan-lines-length p in
    record {
      some = shaped.some;
      few = omega (arith, valid.few, many);
      stock = and_from (list_all (has_up_to MAX_ENTRIES) t.lists && list_all (has_up_to MAX_PITCHES) t.chords)
          (list_all scope_fits (all_scopes b))
          (and_from (list_all (has_up_to MAX_ENTRIES) t.lists)
          (list_all (has_up_to MAX_PITCHES) t.chords) lists chords) shaped.slots;
      programs = shaped.programs;
      root = shaped.root;
      joins = each_below_from (length ps) (joins p) (λ j within. joined j within valid);
      runs = closed.ended;
      in_time = each_below_from (length ps) (ends_in_time p) (λ j within. in_time j valid many);
      steps = omega (arith, closed.spent, plannable.steps);
      events = valid.events;
    }
  where
    plan : PlanParts
    plan = expansion t r.seed profile b

    joined : (j : ℕ) → j < length (whole (expanded b)) → ValidLines (plan_lines plan) → joins plan j ≡ true
    joined j within valid =
        let closed = (finished t b r plannable).closed in
        let waits = (process_program plan j).predecessors in
        let start = (process_run plan j).start in
        let same = plan-lines-waits plan j in
        let count = if nat_eq j 0 then nat_eq (length waits) 0 else nat_lt 0 (length waits) in
        let below = list_all (λ q. nat_lt q j) waits in
        let ends = list_all (λ q. ends_in (process_program plan j).levels start.origins
        (process_run plan q)) waits in
        and_from (count && below && all_once waits) ends
        (and_from (count && below) (all_once waits)
        (and_from count below (waits_count plan j valid within (cases_eq j 0))
        (below_from j waits (subst (λ qs. All (λ q. q < j) qs) same (valid.below j))))
        (subst (λ qs. all_once qs ≡ true) same
        (once_from (line (plan_lines plan) j).predecessors (valid.once j))))
        (closed.joins j within).ends

    in_time : (j : ℕ) → ValidLines (plan_lines plan) → length (plan_lines plan) ≡ length plan.programs
        → ends_in_time plan j ≡ true
    in_time j valid many =
        le-leb (line (plan_lines plan) j).end (line (plan_lines plan) (length plan.programs - 1)).end
        (subst (λ n. (line (plan_lines plan) j).end ≤ (line (plan_lines plan) (n - 1)).end) many
        (valid.ends j).1)
