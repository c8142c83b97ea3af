use Rattle.std.proofs.Common.{◌∷◌, ◌∙◌, ap, refl}
use Rattle.fm_grammar.specs.View.{name_view}
use Rattle.fm_meaning.specs.Faults.{first_found}
use Rattle.fm_meaning.specs.Ranges.{entries_faults}
use Rattle.fm_rules.specs.Why.{fault_at}
use Rattle.fm_names.specs.Named.{named}
use Rattle.fm_outline.proofs.RefusalLemmas.{handed, passed, failed}
use Rattle.fm_outline.proofs.NameLemmas.{new_free, new_told}
use Rattle.fm_outline.proofs.WalkLemmas.{parts_faults, shape_walked, name_refused, inside_refused}
use Rattle.fm_outline.proofs.walk.Walk.add_shape.Goals as goal

pub returns-in_err-check_new-clause-refused : goal.returns-in_err-check_new-clause-refused
returns-in_err-check_new-clause-refused c = λ why spot is score rest r.
    let name = name_view c.args.name.now in
    name_refused r name (fault_at spot why) (λ ns. parts_faults ns.whole c.args.parts.now)
    (λ ns. entries_faults (record ns { shapes = name.text ∷ ns.shapes }) rest) (λ ns. refl)
    (new_told name (named c.args.self.now.known.names name.text) c.in_err-check_new.field-0.0 c.in_err-check_new.ensures
    why spot (handed is c.from_residual.ensures.1))

pub returns-in_err-answered-clause-refused : goal.returns-in_err-answered-clause-refused
returns-in_err-answered-clause-refused c = λ why spot is score rest r.
    let name = name_view c.args.name.now in
    let parts = c.args.parts.now in
    inside_refused r name (fault_at spot why) (λ ns. parts_faults ns.whole parts)
    (λ ns. entries_faults (record ns { shapes = name.text ∷ ns.shapes }) rest) (λ ns. refl)
    (new_free name (named c.args.self.now.known.names name.text) _ c.in_ok-check_new.ensures)
    (λ k look knows.
    ap (λ w. first_found (parts_faults w parts)) knows.whole
    ∙ failed c.check_parts.result c.in_err-answered.field-0.0 (parts_faults c.args.self.now.known.whole parts)
    c.in_err-answered.ensures c.check_parts.ensures why spot
    (handed is c.from_residual-in_err-answered.ensures.1))

pub returns-clause-ok : goal.returns-clause-ok
returns-clause-ok c = λ score rest r.
    let known = c.args.self.now.known in
    shape_walked c.in_ok-index.index c.in_ok-warp.warp r
    (new_free (name_view c.args.name.now) (named known.names c.args.name.now.text.now) _ c.in_ok-check_new.ensures)
    (passed c.check_parts.result _ (parts_faults known.whole c.args.parts.now) c.in_ok-answered.ensures
    c.check_parts.ensures)
    c.in_ok-warp.ensures c.in_ok-index.ensures.at c.in_ok-index.ensures.added c.in_ok-define.ensures.ok
