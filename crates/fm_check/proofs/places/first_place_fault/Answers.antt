use Rattle.std.proofs.Common.{◌≡◌, Option, None, ap, sym, subst}
use Rattle.fm_rules.specs.Found.{IsFirst}
use Rattle.fm_rules.specs.declared.fault.Fault.{Fault}
use Rattle.fm_lex.specs.declared.spot.Spot.{Spot}
use Rattle.fm_meaning.specs.Faults.{first_found}
use Rattle.fm_meaning.specs.Places.{Depths, outermost, passage_faults}
use Rattle.fm_outline.specs.Asking.{TellsFaults}
use Rattle.fm_outline.specs.Needs.{missing}
use Rattle.fm_outline.specs.OfScore.{passage_of_outline}
use Rattle.fm_outline.specs.View.{look_of, tables_view}
use Rattle.fm_outline.proofs.RefusalLemmas.{no_first}
use Rattle.fm_check.proofs.PlaceLemmas.{none_missing, outermost_within}
use Rattle.fm_check.proofs.places.first_place_fault.Goals as goal

pub returns-in-None : goal.returns-in-None
returns-in-None c =
    let o = c.args.outline.now in
    let p = passage_of_outline o in
    let start : Spot = record { line = 1; column = 1 } in
    let told : TellsFaults (passage_faults p) c.steps_ask.result
    = (rw c.deref.ensures.value at (c.steps_ask.ensures (tables_view o.tables) (look_of o)
    (rw c.deref.ensures.value c.requires.block))).faults in
    let first : None ≡ first_found (missing start c.steps_ask.result outermost)
    = subst (λ (x : Option Fault). IsFirst x (missing start c.steps_ask.result outermost)) c.in-None.is
    (subst (λ (d : Depths). IsFirst c.first_missing.result (missing start c.steps_ask.result d)) c.nothing_open.ensures
    c.first_missing.ensures) in
    ap first_found (sym (none_missing start (passage_faults p) c.steps_ask.result outermost told outermost_within
    (no_first _ first)))
