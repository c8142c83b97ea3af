-- A tree that is built while its text is read.
use Rattle.std.specs.Prelude.{◌≡◌, false, [], ◌∷◌, ◌++◌, map}
use Rattle.fm_grammar.specs.declared.item.Item.{Item}
use Rattle.fm_lex.specs.declared.spot.Spot.{Spot}
use Rattle.fm_grammar.specs.Opening.{Opening}
use Rattle.fm_grammar.specs.Score.{Entry, Postfix}
use Rattle.fm_grammar.specs.View.{PlacedStmt, entry_view, expr_view, item_view, opening_view}
use Rattle.fm_parse.specs.declared.builder.Builder.{Builder}
use Rattle.fm_parse.specs.declared.builder.Tested.{Tested}
use Rattle.fm_parse.specs.declared.opening.Opened.{Opened}

-- where memory was there for all, a tree has one entry more than before
abbrev pub IsGrown : Builder → Entry → Builder → Type 0
IsGrown before e behind =
    behind.is_short ≡ false
    → (before.is_short ≡ false) × (map entry_view behind.entries.items ≡ map entry_view before.entries.items ++ e ∷ [])

-- the item is the statement, and the tree is as before
abbrev pub IsSame : Builder → PlacedStmt → Item → Builder → Type 0
IsSame before stmt item behind = (item_view item ≡ stmt) × (before ≡ behind)

-- what stands before a block is kept as it is
abbrev pub IsSameOpening : Builder → Spot → Opening → Opened → Builder → Type 0
IsSameOpening before spot what opened behind =
    (opened.spot ≡ spot) × (opening_view opened.opening ≡ what) × (before ≡ behind)

-- the expression of a choice is kept as it is
abbrev pub IsSameTest : Builder → Spot → Postfix → Tested → Builder → Type 0
IsSameTest before spot test tested behind =
    (tested.spot ≡ spot) × (expr_view tested.test ≡ test) × (before ≡ behind)
