-- Worked records: the bytes of each kind of step, a whole run of a score without notes, and heads that cannot stand.
use Rattle.std.proofs.Common.{◌≡◌, ℕ, List, [], ◌∷◌, ◌++◌, true, false, Some, None, refl}
use Rattle.fm_core.specs.declared.step.Step.{Step}
use Rattle.fm_core.specs.declared.step.Step.TheVariants.{Look, Claim, Start, Record, Recall, Give, Publish, Pace, Release}
use Rattle.fm_record.specs.Head.{bad_field, head_bytes}
use Rattle.fm_record.specs.Reading.{read}
use Rattle.fm_record.specs.StepBytes.{step_bytes, steps_bytes}

-- ---- steps

each_kind_has_its_bytes : (step_bytes (Look 1 258) ≡ 1 ∷ 1 ∷ 1 ∷ 2 ∷ [])
    × (step_bytes (Claim 16 16383) ≡ 2 ∷ 16 ∷ 63 ∷ 255 ∷ [])
    × (step_bytes (Start 3 1029) ≡ 3 ∷ 3 ∷ 4 ∷ 5 ∷ [])
    × (step_bytes (Record 0 7) ≡ 4 ∷ 0 ∷ 0 ∷ 7 ∷ [])
    × (step_bytes (Recall 2 256) ≡ 5 ∷ 2 ∷ 1 ∷ 0 ∷ [])
    × (step_bytes (Give 16 16383 64 300 1099511627776 true)
    ≡ 6 ∷ 16 ∷ 63 ∷ 255 ∷ 64 ∷ 1 ∷ 44 ∷ 1 ∷ 0 ∷ 0 ∷ 0 ∷ 0 ∷ 0 ∷ 1 ∷ [])
    × (step_bytes (Give 1 258 3 1029 694488913125 false)
    ≡ 6 ∷ 1 ∷ 1 ∷ 2 ∷ 3 ∷ 4 ∷ 5 ∷ 0 ∷ 161 ∷ 178 ∷ 195 ∷ 212 ∷ 229 ∷ 0 ∷ [])
    × (step_bytes Publish ≡ 7 ∷ [])
    × (step_bytes (Pace 3) ≡ 8 ∷ 3 ∷ [])
    × (step_bytes (Release 16909060) ≡ 9 ∷ 1 ∷ 2 ∷ 3 ∷ 4 ∷ [])
    × (step_bytes (Release 1048576) ≡ 9 ∷ 0 ∷ 16 ∷ 0 ∷ 0 ∷ [])
each_kind_has_its_bytes = (refl, refl, refl, refl, refl, refl, refl, refl, refl, refl, refl)

a_step_is_read_from_its_bytes : (read (8 ∷ 3 ∷ 7 ∷ []) ≡ Some (Pace 3, 2))
    × (read (1 ∷ 1 ∷ 1 ∷ 2 ∷ []) ≡ Some (Look 1 258, 4))
    × (read (6 ∷ 1 ∷ 1 ∷ 2 ∷ 3 ∷ 4 ∷ 5 ∷ 0 ∷ 161 ∷ 178 ∷ 195 ∷ 212 ∷ 229 ∷ 0 ∷ 9 ∷ [])
    ≡ Some (Give 1 258 3 1029 694488913125 false, 14))
a_step_is_read_from_its_bytes = (refl, refl, refl)

-- no kind of this number, fields that are cut, and an answer that is neither 0 nor 1
no_step_begins_these : (read (0 ∷ []) ≡ None)
    × (read (10 ∷ []) ≡ None)
    × (read (1 ∷ 0 ∷ 0 ∷ []) ≡ None)
    × (read (8 ∷ []) ≡ None)
    × (read (6 ∷ 0 ∷ 0 ∷ 0 ∷ 0 ∷ 0 ∷ 0 ∷ 0 ∷ 0 ∷ 0 ∷ 0 ∷ 0 ∷ 0 ∷ []) ≡ None)
    × (read (6 ∷ 0 ∷ 0 ∷ 0 ∷ 0 ∷ 0 ∷ 0 ∷ 0 ∷ 0 ∷ 0 ∷ 0 ∷ 0 ∷ 0 ∷ 2 ∷ []) ≡ None)
no_step_begins_these = (refl, refl, refl, refl, refl, refl)

-- ---- the record of a score without notes

-- `formula 1;`
abbrev text : List ℕ
text = 102 ∷ 111 ∷ 114 ∷ 109 ∷ 117 ∷ 108 ∷ 97 ∷ 32 ∷ 49 ∷ 59 ∷ []

abbrev whole : List Step
whole = Claim 0 0 ∷ Record 0 0 ∷ Give 0 0 0 0 0 true ∷ []

abbrev whole_bytes : List ℕ
whole_bytes = 2 ∷ 0 ∷ 0 ∷ 0 ∷ 4 ∷ 0 ∷ 0 ∷ 0 ∷ 6 ∷ 0 ∷ 0 ∷ 0 ∷ 0 ∷ 0 ∷ 0 ∷ 0 ∷ 0 ∷ 0 ∷ 0 ∷ 0 ∷ 0 ∷ 1 ∷ []

its_head_stands_first : head_bytes 1 1 0 text
    ≡ 70 ∷ 77 ∷ 82 ∷ 49 ∷ 1 ∷ 1 ∷ 0 ∷ 0 ∷ 0 ∷ 0 ∷ 0 ∷ 0 ∷ 0 ∷ 10 ∷ text
its_head_stands_first = refl

its_steps_follow : steps_bytes whole ≡ whole_bytes
its_steps_follow = refl

its_head_can_stand : bad_field (head_bytes 1 1 0 text ++ whole_bytes) ≡ None
its_head_can_stand = refl

-- ---- heads that cannot stand

the_first_field_is_told : (bad_field [] ≡ Some 0)
    × (bad_field (70 ∷ 77 ∷ 82 ∷ []) ≡ Some 0)
    × (bad_field (70 ∷ 77 ∷ 82 ∷ 50 ∷ 0 ∷ []) ≡ Some 0)
    × (bad_field (70 ∷ 77 ∷ 82 ∷ 49 ∷ []) ≡ Some 4)
    × (bad_field (70 ∷ 77 ∷ 82 ∷ 49 ∷ 0 ∷ 1 ∷ []) ≡ Some 4)
    × (bad_field (70 ∷ 77 ∷ 82 ∷ 49 ∷ 18 ∷ 1 ∷ []) ≡ Some 4)
    × (bad_field (70 ∷ 77 ∷ 82 ∷ 49 ∷ 17 ∷ []) ≡ Some 5)
    × (bad_field (70 ∷ 77 ∷ 82 ∷ 49 ∷ 17 ∷ 65 ∷ []) ≡ Some 5)
    × (bad_field (70 ∷ 77 ∷ 82 ∷ 49 ∷ 17 ∷ 64 ∷ 0 ∷ 0 ∷ 0 ∷ []) ≡ Some 6)
    × (bad_field (70 ∷ 77 ∷ 82 ∷ 49 ∷ 17 ∷ 64 ∷ 0 ∷ 15 ∷ 66 ∷ 65 ∷ []) ≡ Some 6)
    × (bad_field (70 ∷ 77 ∷ 82 ∷ 49 ∷ 17 ∷ 64 ∷ 0 ∷ 15 ∷ 66 ∷ 64 ∷ 0 ∷ 0 ∷ 0 ∷ []) ≡ Some 10)
    × (bad_field (70 ∷ 77 ∷ 82 ∷ 49 ∷ 17 ∷ 64 ∷ 0 ∷ 15 ∷ 66 ∷ 64 ∷ 0 ∷ 16 ∷ 0 ∷ 1 ∷ []) ≡ Some 10)
    × (bad_field (70 ∷ 77 ∷ 82 ∷ 49 ∷ 1 ∷ 1 ∷ 0 ∷ 0 ∷ 0 ∷ 0 ∷ 0 ∷ 0 ∷ 0 ∷ 1 ∷ []) ≡ Some 10)
    × (bad_field (70 ∷ 77 ∷ 82 ∷ 49 ∷ 17 ∷ 64 ∷ 0 ∷ 15 ∷ 66 ∷ 64 ∷ 0 ∷ 0 ∷ 0 ∷ 0 ∷ []) ≡ None)
the_first_field_is_told = (refl, refl, refl, refl, refl, refl, refl, refl, refl, refl, refl, refl, refl, refl)
