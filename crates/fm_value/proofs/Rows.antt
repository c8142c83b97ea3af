-- Values of single expressions, and the first draws of the generator.
use Rattle.std.proofs.Common.{◌≡◌, ◌/◌, ◌^◌, [], ◌∷◌, refl}
use Rattle.std.specs.Prelude.{pos, negsuc, true, false, None}
use Rattle.fm_value.specs.declared.node.Node.TheVariants.{Literal, Register, Index, Add, Subtract, Multiply, Pick}
use Rattle.fm_value.specs.declared.node.TheConstants.{MAX_VALUE}
use Rattle.fm_value.specs.Generator.{next_state, draw_below}
use Rattle.fm_value.specs.Operation.{floor_div, floor_rem}
use Rattle.fm_value.specs.Tree.{register, index}
use Rattle.fm_value.specs.Value.{readable, tree_value, value_at, value_of, is_expr}

-- the first draw of the state 0 shows 167951807
first_draw : next_state 0 / 2 ^ 33 ≡ 167951807
first_draw = refl

first_pitch : (value_of (readable [] []) (Literal 12 ∷ Pick ∷ []) 0).value ≡ pos 11
first_pitch = refl

-- 60 + pick(12), the generator stepped once
pitch_and_state : (value_of (readable [] []) (Literal 60 ∷ Literal 12 ∷ Pick ∷ Add ∷ []) 0)
    ≡ record { value = pos 71; state = next_state 0 }
pitch_and_state = refl

-- a draw below 0 is 0, and steps the state all the same
draw_below_0 : (value_of (readable [] []) (Literal 0 ∷ Pick ∷ []) 0) ≡ record { value = pos 0; state = next_state 0 }
draw_below_0 = refl

-- of no number there is none to draw
draws_below_1 : draw_below (pos 0) (2 ^ 33) ∷ draw_below (negsuc 6) (2 ^ 33) ∷ draw_below (pos 1) (2 ^ 33) ∷ [] ≡ pos 0 ∷ pos 0 ∷ pos 0 ∷ []
draws_below_1 = refl

-- a register or an index that is not there is 0, and so is what is no expression
absent_values : tree_value (readable [] []) (register 3) 5 ∷ tree_value (readable [] []) (index 3) 5 ∷ value_at (readable [] []) None 5 ∷ []
    ≡ record { value = pos 0; state = 5 } ∷ record { value = pos 0; state = 5 } ∷ record { value = pos 0; state = 5 } ∷ []
absent_values = refl

-- the left operand is drawn first
left_is_drawn_first : (value_of (readable [] []) (Literal MAX_VALUE ∷ Pick ∷ Literal 1000 ∷ Pick ∷ Subtract ∷ []) 0).value
    ≡ pos 951383
left_is_drawn_first = refl

floors : floor_div (negsuc 6) (pos 2) ≡ negsuc 3
floors = refl

remainder_has_the_sign_of_the_divisor : floor_rem (negsuc 6) (pos 2) ≡ pos 1
remainder_has_the_sign_of_the_divisor = refl

-- a register, an index and a product that is clamped
clamped_product : (value_of (readable (pos 3 ∷ negsuc 999 ∷ []) (7 ∷ 2000 ∷ [])) (Register 1 ∷ Index 1 ∷ Multiply ∷ []) 5)
    ≡ record { value = negsuc 999999; state = 5 }
clamped_product = refl

one_expression : is_expr 1 (Literal MAX_VALUE ∷ Register 7 ∷ Index 0 ∷ Add ∷ Multiply ∷ []) ≡ true
one_expression = refl

two_values : is_expr 1 (Literal 1 ∷ Literal 2 ∷ []) ≡ false
two_values = refl

no_operand : is_expr 1 (Literal 1 ∷ Add ∷ []) ≡ false
no_operand = refl

literal_above : is_expr 0 (Literal 1000001 ∷ []) ≡ false
literal_above = refl

no_register : is_expr 0 (Register 8 ∷ []) ≡ false
no_register = refl

no_loop : is_expr 1 (Index 1 ∷ []) ≡ false
no_loop = refl
