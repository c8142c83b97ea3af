-- Numbers that lie in their ranges.
use Rattle.std.specs.Prelude.{ℤ, pos, neg_ℤ, ◌≤ℤ◌, ⊤}
use Rattle.fm_grammar.specs.Score as text

-- the least number of a message
abbrev pub least_number : ℤ
least_number = neg_ℤ (pos 8192)

-- the greatest number of a message
abbrev pub most_number : ℤ
most_number = pos 8191

-- a literal lies in the widest range of all messages
abbrev pub AmountFits : text.Amount → Type 0
AmountFits (text.literal value spot) = (least_number ≤ℤ value) × (value ≤ℤ most_number)
AmountFits (text.Amount.computed expr) = ⊤

-- the same of a pitch
abbrev pub PitchFits : text.Pitch → Type 0
PitchFits (text.named key spot) = ⊤
PitchFits (text.keyed amount spot) = AmountFits amount
