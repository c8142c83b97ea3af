-- The body is empty: the borrow is opened, and closed at the value with one more call.
use Rattle.fm_edge.proofs.Noting.{[], ◌∷◌, refl, proved, vunit, id⊢, ftrue, flft, named, ‵, ◌⊛◌, ◌$◌, ◌∵◌, !, qed, done, move, keep, use1, split, join, fsplit, fsplit3, feq_i, suffices, frame, group, enter, of_opd, unit_lit, returns, alloc_all, pass_all, free_all, look_at, sets, yes, MutRef, mut_vals, mut_Tells, plain, nothing, opens, closes, Stays, says, stay_ref, Goes-ref, ends_at}
use Rattle.fm_edge.specs.Calls.{answered}
use Rattle.fm_edge.specs.declared.tally.Tally.{Tally}
use Rattle.fm_edge.specs.contracts.tally.Tally as type
use Rattle.fm_edge.specs.contracts.tally.Tally.answer as call
use Rattle.fm_edge.proofs.tally.Tally.answer.Statement.{statement}
use Rattle.fm_edge.proofs.tally.Tally.answer.Code as code

abbrev stayed : Stays call.ended.signature.params call.ended.kept
stayed = (stay_ref (0 ∷ []) tt (plain (λ _. type.the_row)), tt)

pub answer_spec : {M : Type 1} → statement M
answer_spec 𝓤 𝓛 𝓜 𝓡 wired =
    let clauses = call.clauses 𝓛 𝓜.mem 𝓡.returns in
    proved 𝓛 call.ended stayed clauses 𝓜 𝓡
    (Goes-ref 𝓛 1 0 tt (plain (λ _. type.the_row)), tt)
    call.Key.name code.function (code.unfolded 𝓤 𝓛.H 𝓜 𝓡 wired)
    (λ κs. (mut_vals, tt))
    (λ κs. (mut_Tells (named 0) κs.0 type.the_row, tt))
    (λ κs qs bounds a _ are.
    let self = a.0 in let b = self.ref_ptr.0 in let o = self.ref_ptr.1 in
    let changed : Tally = record self.now { calls = answered self.now.calls } in
    qed 𝓛 (((‵ (flft κs.0 qs.0) ⊛ ‵ ftrue) ⊛ ‵ ((MutRef (named 0) κs.0 type.the_row).own_val self (mut_vals self)) ⊛ ‵ ftrue) ∷ ‵ ftrue ∷ []) ∵
    split ! $ split ! $ move ! (2 ∷ []) $ split ! $ keep ! (0 ∷ 2 ∷ 1 ∷ 3 ∷ []) $
    -- [the reference; its token; no other argument; no other token]
    fsplit3 ! $ enter ! _ _ _ _ _ $
    alloc_all ! (λ l. pass_all ! refl ((tt, tt), tt) $
    move ! (1 ∷ 2 ∷ 3 ∷ []) $ opens ! tt type.the_row b o (λ us.
    sets ! (of_opd ! (unit_lit !)) refl (tt, tt) $
    -- what lies there is a value of the other count too, since it owns nothing
    move ! (1 ∷ []) $ use1 𝓛 (‵ (type.the_row.own_val changed us)) (id⊢ 𝓤 _) $ move ! (1 ∷ 0 ∷ []) $
    closes ! tt type.the_row changed us b o $
    returns ! (look_at ! 0 refl) $ free_all ! refl $ keep ! (3 ∷ 0 ∷ 1 ∷ 4 ∷ 2 ∷ 5 ∷ []) $
    suffices ! _ (ends_at 𝓛 call.ended stayed clauses ((κs, qs, bounds, a, (mut_vals self, tt)), tt) vunit tt (changed, tt) (tt, tt)) $
    says ! refl $ group ! 3 $ join ! $ move ! (1 ∷ 2 ∷ []) $ join ! $ frame ! $ frame ! $ feq_i ! _ (vunit ∷ []) _ refl $ done !)))
