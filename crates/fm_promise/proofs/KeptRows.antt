-- What keeps the limits of the language and what does not: each limit, and one beyond it.
use Rattle.std.proofs.Common.{◌≡◌, ℕ, [], ◌∷◌, ◌++◌, map, replicate, true, false, refl, pos, negsuc, true≢false, sym, arith}
use Rattle.fm_value.specs.declared.node.Node.TheVariants.{Literal, Register, Index, Negate}
use Rattle.fm_pattern.specs.declared.cursor.TheConstants.{MAX_ENTRIES}
use Rattle.fm_meaning.specs.Rules.{most_pitches}
use Rattle.fm_meaning.specs.Resolved.{given, drawn, ticks, counted, beat, times, at_most, control, program, bend, duration, articulation, loudness, note, rest, assign, par, warp, channel, steady, under, done, joined, branch}
use Rattle.fm_meaning.specs.Places.{outermost, in_branching, in_list}
use Rattle.fm_promise.specs.Kept.{key_kept, point_kept, span_kept, count_kept, entry_kept, has_some_to, DepthsKept, Kept}

-- a key is 0 to 127
keys : map (λ v. key_kept 0 (given v)) (negsuc 0 ∷ pos 0 ∷ pos 127 ∷ pos 128 ∷ []) ≡ false ∷ true ∷ true ∷ false ∷ []
keys = refl

-- so are a controller, its value and a program
points :
    map (λ c. point_kept 0 (control c) (given (pos 0))) (0 ∷ 127 ∷ 128 ∷ [])
    ++ map (λ v. point_kept 0 (control 7) (given v)) (negsuc 0 ∷ pos 0 ∷ pos 127 ∷ pos 128 ∷ [])
    ++ map (λ v. point_kept 0 program (given v)) (negsuc 0 ∷ pos 0 ∷ pos 127 ∷ pos 128 ∷ [])
    ≡ true ∷ true ∷ false ∷ false ∷ true ∷ true ∷ false ∷ false ∷ true ∷ true ∷ false ∷ []
points = refl

-- a bend is -8,192 to 8,191
bends : map (λ v. point_kept 0 bend (given v)) (negsuc 8192 ∷ negsuc 8191 ∷ pos 8191 ∷ pos 8192 ∷ [])
    ≡ false ∷ true ∷ true ∷ false ∷ []
bends = refl

-- a duration has at most 1,000,000 ticks, written out or computed
durations :
    map (λ n. span_kept outermost (ticks n)) (0 ∷ 1000000 ∷ 1000001 ∷ [])
    ++ map (λ n. span_kept outermost (counted (Literal 1 ∷ []) n)) (0 ∷ 1000000 ∷ 1000001 ∷ [])
    ≡ true ∷ true ∷ false ∷ true ∷ true ∷ false ∷ []
durations = refl

-- the next duration of a rhythm stands in a rhythm
beats : map (λ d. span_kept d beat) (outermost ∷ in_list articulation outermost ∷ in_list duration outermost ∷ [])
    ≡ false ∷ false ∷ true ∷ []
beats = refl

-- a loop has at most 1,000,000 rounds, written out or computed
counts :
    map (λ n. count_kept 0 (times n)) (0 ∷ 1000000 ∷ 1000001 ∷ [])
    ++ map (λ n. count_kept 0 (at_most (Literal 1 ∷ []) n)) (0 ∷ 1000000 ∷ 1000001 ∷ [])
    ≡ true ∷ true ∷ false ∷ true ∷ true ∷ false ∷ []
counts = refl

-- an expression reads the indices of open loops alone, and has one value
expressions :
    map (λ e. key_kept 1 (drawn e)) ((Index 0 ∷ []) ∷ (Index 1 ∷ []) ∷ (Register 7 ∷ []) ∷ [] ∷ (Negate ∷ []) ∷ [])
    ++ map (λ e. span_kept outermost (counted e 1)) ((Index 0 ∷ []) ∷ [])
    ++ map (λ e. count_kept 0 (at_most e 1)) ((Index 0 ∷ []) ∷ [])
    ≡ true ∷ false ∷ true ∷ false ∷ false ∷ false ∷ false ∷ []
expressions = refl

-- an entry is at most 1,000,000 ticks, 0 to 400 percent, or a velocity of 1 to 127
entries :
    map (entry_kept duration) (0 ∷ 1000000 ∷ 1000001 ∷ [])
    ++ map (entry_kept articulation) (0 ∷ 400 ∷ 401 ∷ [])
    ++ map (entry_kept loudness) (0 ∷ 1 ∷ 127 ∷ 128 ∷ [])
    ≡ true ∷ true ∷ false ∷ true ∷ true ∷ false ∷ false ∷ true ∷ true ∷ false ∷ []
entries = refl

-- a note has 1 to 16 pitches, a list 1 to 256 entries
lists :
    map (λ n. has_some_to {A = ℕ} most_pitches (replicate n 60)) (0 ∷ 1 ∷ 16 ∷ 17 ∷ [])
    ++ map (λ n. has_some_to {A = ℕ} MAX_ENTRIES (replicate n 60)) (0 ∷ 1 ∷ 256 ∷ 257 ∷ [])
    ≡ false ∷ true ∷ true ∷ false ∷ false ∷ true ∷ true ∷ false ∷ []
lists = refl

-- eight warps and sixteen loops and lists may be open, and no more
eight_warps : DepthsKept (record outermost { warps = 8; frames = 16; loops = 16 })
eight_warps = record { warps = omega arith; frames = omega arith; loops = omega arith }

nine_warps : DepthsKept (record outermost { warps = 9 }) → ⊥
nine_warps kept = let warps = kept.warps in omega (arith, warps)

seventeen_frames : DepthsKept (record outermost { frames = 17 }) → ⊥
seventeen_frames kept = let frames = kept.frames in omega (arith, frames)

-- r7 is the last register, 15 the last channel
no_register_8 : Kept outermost (assign 8 (Literal 1 ∷ [])) → ⊥
no_register_8 kept = let register = kept.0 in omega (arith, register)

no_channel_16 : Kept outermost (channel 16 done) → ⊥
no_channel_16 kept = let number = kept.0 in omega (arith, number)

-- a velocity, a percentage and each entry of a list are tested, and each pitch of a note
no_volume_0 : Kept outermost (steady loudness 0 done) → ⊥
no_volume_0 kept = true≢false (sym kept.0)

no_entry_of_401_percent : Kept outermost (under articulation (400 ∷ 401 ∷ []) done) → ⊥
no_entry_of_401_percent kept = true≢false (sym kept.1)

no_second_key_128 : Kept outermost (note (given (pos 0) ∷ given (pos 128) ∷ []) (ticks 480)) → ⊥
no_second_key_128 kept = true≢false (sym kept.1)

no_rest_of_a_rhythm : Kept outermost (rest beat) → ⊥
no_rest_of_a_rhythm kept = true≢false (sym kept)

-- no fork in a choice, none without a branch, and no warp without parts
no_fork_in_a_choice : Kept (in_branching outermost) (par (branch done joined)) → ⊥
no_fork_in_a_choice kept = true≢false kept.0

no_fork_without_branches : Kept outermost (par joined) → ⊥
no_fork_without_branches kept = kept.1

no_warp_without_parts : Kept outermost (warp [] done) → ⊥
no_warp_without_parts kept = let some = kept.0 in omega (arith, some)
