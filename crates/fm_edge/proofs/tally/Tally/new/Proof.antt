-- The machine makes a struct of one empty field; what the new value holds is chosen here.
use Rattle.fm_edge.proofs.Noting.{[], ◌∷◌, refl, proved, Val, vstruct, vcons, vnil, raw, ◌$◌, ◌∵◌, !, qed, done, keep, join, suffices, enter, no_more, and_then, returns, agg, alloc_all, pass_all, free_all, look_at, get, sets, pure_i, nothing, on_entry, says, ends_at}
use Rattle.fm_edge.specs.Calls.{uncalled}
use Rattle.fm_edge.specs.declared.tally.Tally.{Tally}
use Rattle.fm_edge.specs.contracts.tally.Tally as type
use Rattle.fm_edge.specs.contracts.tally.Tally.new as call
use Rattle.fm_edge.proofs.tally.Tally.new.Statement.{statement}
use Rattle.fm_edge.proofs.tally.Tally.new.Code as code

abbrev empty : Val
empty = vstruct vnil

abbrev made : Val
made = vstruct (vcons empty vnil)

abbrev fresh : Tally
fresh = record { marker = record {}; calls = uncalled }

pub new_spec : {M : Type 1} → statement M
new_spec 𝓤 𝓛 𝓜 𝓡 wired =
    let clauses = call.clauses 𝓛 𝓜.mem 𝓡.returns in
    proved 𝓛 call.ended tt clauses 𝓜 𝓡 tt call.Key.name code.function (code.unfolded 𝓤 𝓛.H 𝓜 𝓡 wired)
    (λ κs. tt) (λ κs. tt) (λ κs qs bounds a g are.
    qed 𝓛 (raw (on_entry 𝓛 call.signature κs qs a tt) ∷ raw ((clauses κs a).requires g) ∷ []) ∵ keep ! [] $
    enter ! _ _ _ _ _ $ alloc_all ! (λ l. pass_all ! refl tt $
    -- the empty field, then the struct
    sets ! (agg ! (no_more !)) refl (tt, tt) $
    sets ! (agg ! (and_then ! (get ! refl) (no_more !))) refl (tt, (tt, tt)) $
    returns ! (look_at ! 0 refl) $ free_all ! refl $
    -- it owns nothing, so it is a value that holds this
    pure_i ! (type.the_row.own_val fresh (made ∷ [])) ((λ us. (tt, ((λ ws. (tt, tt)), tt))), tt)
    (((empty ∷ [], tt), (refl, ((tt, (refl, tt)), tt))), tt) $
    suffices ! _ (ends_at 𝓛 call.ended tt clauses ((κs, qs, bounds, a, tt), g) made fresh tt tt) $
    says ! refl $ nothing ! $ join ! $ nothing ! $ done !))
