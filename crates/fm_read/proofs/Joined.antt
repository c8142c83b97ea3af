-- The bytes of a track's entries, one after another, are its body.
use Rattle.std.proofs.Common.{◌≡◌, ◌+◌, ℕ, zero, suc, ◌-◌, ◌<◌, ◌≤◌, Bool, true, false, cond, nat_eq, List, [], ◌∷◌, ◌++◌, length, drop, Option, Ok, refl, sym, ◌∙◌, ap, arith}
use Rattle.std.proofs.lemmas.Bool.Decides.{nat_tests}
use Rattle.fm_read.specs.declared.fault.ReadKind.TheVariants.{AfterEnd}
use Rattle.fm_read.specs.Reading.{Read, stop, Pair, read_entry, in_force}
use Rattle.fm_read.specs.Tracks.{ends_track, then_entries, entries_from, entries, joined_entries}
use Rattle.fm_read.proofs.EndsLemmas.{bind_ok, either_way, ok_is, ends_shorter, ends_rest, entry_ends}

-- an entry and what follows it
joined_then : (e : Pair) (bytes rest : List ℕ) (r : Read (List Pair)) (es : List Pair) → (e.lead ++ e.bytes) ++ rest ≡ bytes →
    ((more : List Pair) → r ≡ Ok more → joined_entries more ≡ rest) → then_entries e rest r ≡ Ok es → joined_entries es ≡ bytes
joined_then e bytes rest r es parts later is =
    either_way (ends_track e.bytes) _ _ es is
    (λ ends. either_way (nat_eq (length rest) 0) _ _ es ends
    (λ same.
    let none : rest ≡ [] = no_bytes rest (nat_eq (length rest) 0) refl ends in
    ap joined_entries (sym (ok_is (e ∷ []) es same)) ∙ ap (λ (z : List ℕ). (e.lead ++ e.bytes) ++ z) (sym none) ∙ parts)
    (λ wrong. absurd cc))
    (λ goes.
    let b = bind_ok r (λ more. Ok (e ∷ more)) es goes in
    ap joined_entries (sym (ok_is (e ∷ b.0) es b.2)) ∙ ap (λ (z : List ℕ). (e.lead ++ e.bytes) ++ z) (later b.0 b.1) ∙ parts)
  where
    no_bytes : (rest : List ℕ) (b : Bool) → nat_eq (length rest) 0 ≡ b →
        cond (nat_eq (length rest) 0) (Ok (e ∷ [])) (stop AfterEnd (length rest)) ≡ Ok es → rest ≡ []
    no_bytes [] b is same = refl
    no_bytes (byte ∷ rest) true is same = absurd (grind (arith, nat_tests))
    no_bytes (byte ∷ rest) false is same = absurd (cc (ap (λ z. cond z (Ok (e ∷ [])) (stop AfterEnd (length (byte ∷ rest)))) is))

joined_from : (k : ℕ) (running : Option ℕ) (bytes : List ℕ) (es : List Pair) → k ≤ length bytes → entries_from k running bytes ≡ Ok es →
    joined_entries es ≡ drop k bytes
unfolding entries_from
joined_from k running [] es few e = absurd cc
joined_from (suc k) running (byte ∷ rest) es few e = joined_from k running rest es (omega arith) e
joined_from zero running (byte ∷ rest) es few e =
    let b = bind_ok (read_entry running (byte ∷ rest)) (λ x.
    then_entries x.0 x.1 (entries_from (length rest - length x.1) (in_force x.0.status) rest)) es e in
    let parts = entry_ends running (byte ∷ rest) b.0 b.1 in
    let shorter : length b.0.1 < length (byte ∷ rest) = ends_shorter _ _ parts.ends in
    let count : length (byte ∷ rest) - length b.0.1 ≡ suc (length rest - length b.0.1) = omega arith in
    let same : drop (length rest - length b.0.1) rest ≡ b.0.1 =
    ap (λ n. drop n (byte ∷ rest)) (sym count) ∙ ends_rest (byte ∷ rest) b.0.1 parts.ends in
    joined_then b.0.0 (byte ∷ rest) b.0.1 _ es parts.joined_entries
    (λ more is. joined_from (length rest - length b.0.1) (in_force b.0.0.status) rest more (omega arith) is ∙ same) b.2

pub entries_joined : (running : Option ℕ) (body : List ℕ) (es : List Pair) → entries running body ≡ Ok es → joined_entries es ≡ body
entries_joined running body es e = joined_from 0 running body es (omega arith) e

-- ---- no more entries than bytes

few_then : (e : Pair) (bytes rest : List ℕ) (r : Read (List Pair)) (es : List Pair) → length rest < length bytes →
    ((more : List Pair) → r ≡ Ok more → length more ≤ length rest) → then_entries e rest r ≡ Ok es → length es ≤ length bytes
few_then e bytes rest r es shorter later is =
    either_way (ends_track e.bytes) _ _ es is
    (λ ends. either_way (nat_eq (length rest) 0) _ _ es ends
    (λ same. omega (arith, ap length (ok_is (e ∷ []) es same)))
    (λ wrong. absurd cc))
    (λ goes.
    let b = bind_ok r (λ more. Ok (e ∷ more)) es goes in
    omega (arith, ap length (ok_is (e ∷ b.0) es b.2), later b.0 b.1))

few_from : (k : ℕ) (running : Option ℕ) (bytes : List ℕ) (es : List Pair) → k ≤ length bytes → entries_from k running bytes ≡ Ok es →
    length es + k ≤ length bytes
unfolding entries_from
few_from k running [] es few e = absurd cc
few_from (suc k) running (byte ∷ rest) es few e = omega (arith, few_from k running rest es (omega arith) e)
few_from zero running (byte ∷ rest) es few e =
    let b = bind_ok (read_entry running (byte ∷ rest)) (λ x.
    then_entries x.0 x.1 (entries_from (length rest - length x.1) (in_force x.0.status) rest)) es e in
    let shorter : length b.0.1 < length (byte ∷ rest) = ends_shorter _ _ (entry_ends running (byte ∷ rest) b.0 b.1).ends in
    omega (
      arith,
      few_then b.0.0 (byte ∷ rest) b.0.1 _ es shorter
          (λ more is. omega (arith, few_from (length rest - length b.0.1) (in_force b.0.0.status) rest more (omega arith) is)) b.2,
    )

pub entries_few : (running : Option ℕ) (body : List ℕ) (es : List Pair) → entries running body ≡ Ok es → length es ≤ length body
entries_few running body es e = omega (arith, few_from 0 running body es (omega arith) e)
