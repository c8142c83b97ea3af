use Rattle.std.proofs.Common.{◌∙◌, ℕ, List, sym, subst}
use Rattle.atomic_table.specs.Table.{opening}
use Rattle.fm_board.specs.Minds.{first_mind}
use Rattle.fm_board.specs.StandsFor.{StandsForSome}
use Rattle.fm_board.proofs.Openings.{opens}
use Rattle.fm_board.proofs.Stocks.{stocked}
use Rattle.fm_board.proofs.opening.laid.Goals as goal

pub new-requires : goal.new-requires
new-requires c =
    let a = c.args.about in
    subst (λ (ws : List ℕ). StandsForSome a (opening ws c.in_ok-slots.slots.items (first_mind a)))
    (sym (c.as_slice.ensures.value ∙ c.in_ok-words.ensures))
    (opens a c.in_ok-slots.slots.items (stocked a c.in_ok-slots.slots.items c.in_ok-slots.ensures))
