-- A pace, or a look of seat 0, that leaves the view of its seat leaves the state of the core.
use Rattle.std.proofs.Common.{◌≡◌, ℕ, ◌<◌, List, [], ◌∷◌, length, get_or, set, Bool, true, refl, sym, ap, ◌∙◌, subst, arith, length-set, get_or-set_same}
use Rattle.std.proofs.lemmas.List.{set-get_or}
use lib.ListN.{get_elem?}
use mathlib.Core.Option.{some}
use Rattle.atomic_table.proofs.Lists.{set_here}
use Rattle.fm_core.specs.Effects.{after, visits_by_look}
use Rattle.fm_core.specs.State.{Desk, Setting, State, cell, desk, no_desk}
use Rattle.fm_core.specs.Sweep.{sighted, swept}
use Rattle.fm_core.specs.declared.floor.Floor.{Floor}
use Rattle.fm_core.specs.declared.sight.Sight.{Sight}
use Rattle.fm_core.specs.declared.step.Step.{Step}
use Rattle.fm_core.specs.declared.step.Step.TheVariants.{Look, Pace}
use Rattle.fm_board.specs.declared.about.About.{About}
use Rattle.fm_board.specs.declared.view.Mind.{Mind}
use Rattle.fm_board.specs.declared.view.View.{View}
use Rattle.fm_board.specs.Follows.{Follows}
use Rattle.fm_board.specs.StandsFor.{IsSeat, StandsForSome, Table, setting}
use Rattle.fm_board.proofs.Frames.{at_below}
use Rattle.fm_board.proofs.StepByStep.{core_step_by_step}

module _ (a : About) (s t : Table) (x : Step) (k : StandsForSome a s) (l : StandsForSome a t) (f : Follows s t (x ∷ [])) where
  abbrev h : State
  h = k.core

  -- the state after is what the step leaves
  is_after : after (setting a) h x ≡ l.core
  is_after = (core_step_by_step a s t (x ∷ []) k l f).after

  seat_was : IsSeat a h f.seat f.old
  seat_was = k.stands.views.viewed f.seat f.old f.was

  seat_is : IsSeat a (after (setting a) h x) f.seat f.new
  seat_is = subst (λ (z : State). IsSeat a z f.seat f.new) (sym is_after)
      (l.stands.views.viewed f.seat f.new (ap (λ (vs : List Mind). get_elem? vs f.seat) f.is
      ∙ set_here s.views f.seat f.new (at_below s.views f.seat f.old f.was)))

  -- a desk that says the same is the same
  desk_same : (s : ℕ) (d : Desk) → d ≡ desk h s → set h.desks s d ≡ h.desks
  desk_same s d same = ap (set h.desks s) same ∙ set-get_or h.desks s no_desk

  pub pace_stays : x ≡ Pace f.seat → f.new.view ≡ f.old.view → l.core ≡ h
  pace_stays pace same =
      let d : Desk = record (desk h f.seat) { paced = h.floor } in
      let now : IsSeat a (after (setting a) h (Pace f.seat)) f.seat f.new =
      subst (λ (y : Step). IsSeat a (after (setting a) h y) f.seat f.new) pace seat_is in
      let here : get_or (set h.desks f.seat d) f.seat no_desk ≡ d = get_or-set_same h.desks f.seat d no_desk seat_was.here in
      let floor : h.floor ≡ (desk h f.seat).paced =
      sym (now.is.paced ∙ ap (λ (y : Desk). y.paced) here) ∙ (ap (λ (v : View). v.paced) same ∙ seat_was.is.paced) in
      sym is_after ∙ (ap (after (setting a) h) pace
      ∙ ap (λ (es : List Desk). record h { desks = es })
      (desk_same f.seat d (ap (λ (y : Floor). record (desk h f.seat) { paced = y }) floor)))

  pub look_stays : (p : ℕ) → x ≡ Look f.seat p → f.seat ≡ 0 → f.new.view ≡ f.old.view → l.core ≡ h
  look_stays p look first same =
      let d : Desk =
      record (desk h f.seat) { sweep = swept (desk h f.seat).sweep p (sighted (setting a) h (desk h f.seat).sweep p) } in
      let now : IsSeat a (after (setting a) h (Look f.seat p)) f.seat f.new =
      subst (λ (y : Step). IsSeat a (after (setting a) h y) f.seat f.new) look seat_is in
      let here : get_or (set h.desks f.seat d) f.seat no_desk ≡ d = get_or-set_same h.desks f.seat d no_desk seat_was.here in
      let sweep : d.sweep ≡ (desk h f.seat).sweep =
      sym (now.is.sweep ∙ ap (λ (y : Desk). y.sweep) here) ∙ (ap (λ (v : View). v.sweep) same ∙ seat_was.is.sweep) in
      let visits : visits_by_look h f.seat p ≡ h.visited =
      sym (now.zero first).visited ∙ (ap (λ (v : View). v.visited) same ∙ (seat_was.zero first).visited) in
      sym is_after ∙ (ap (after (setting a) h) look
      ∙ (λ i. record h {
        desks = desk_same f.seat d (ap (λ (y : List Sight). record (desk h f.seat) { sweep = y }) sweep) i;
        visited = visits i;
      }))
