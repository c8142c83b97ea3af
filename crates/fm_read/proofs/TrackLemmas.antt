-- A track entry by entry.
use Rattle.std.proofs.Common.{◌≡◌, ℕ, zero, suc, ◌-◌, ◌<◌, ◌≤◌, Bool, true, false, cond, nat_eq, List, [], ◌∷◌, length, drop, Option, None, Ok, Err, refl, sym, ◌∙◌, ap, subst, arith}
use Rattle.std.proofs.lemmas.Bool.Decides.{nat_tests}
use Rattle.fm_read.specs.declared.fault.ReadKind.TheVariants.{NoEnd, AfterEnd}
use Rattle.fm_read.specs.declared.fault.Stop.{Stop}
use Rattle.fm_read.specs.Reading.{Read, stop, ◌>>=◌, Pair, read_entry, in_force}
use Rattle.fm_read.specs.Tracks.{ends_track, judged, then_entries, entries_from, entries, entries_left, IsRead, pairs_read}
use Rattle.fm_read.proofs.EndsLemmas.{Ends, ends_shorter, ends_rest, entry_ends}

-- bytes of an entry that is read already are passed over
pub covered : (k : ℕ) (running : Option ℕ) (bytes : List ℕ) → k ≤ length bytes →
    entries_from k running bytes ≡ entries running (drop k bytes)
unfolding entries_from
covered zero running bytes few = refl
covered (suc k) running [] few = absurd (omega arith)
covered (suc k) running (byte ∷ rest) few = covered k running rest (omega arith)

-- what the body of an entry leaves is what follows the entry
after_entry : (running : Option ℕ) (byte : ℕ) (rest more : List ℕ) → Ends (byte ∷ rest) more →
    entries_from (length rest - length more) running rest ≡ entries running more
after_entry running byte rest more ends =
    let shorter : length more < length (byte ∷ rest) = ends_shorter _ _ ends in
    let count : length (byte ∷ rest) - length more ≡ suc (length rest - length more) = omega arith in
    let same : drop (length rest - length more) rest ≡ more =
    ap (λ n. drop n (byte ∷ rest)) (sym count) ∙ ends_rest (byte ∷ rest) more ends in
    covered _ running rest (omega arith) ∙ ap (entries running) same

-- an entry, and what is read behind it
pub entries_step : (running : Option ℕ) (bytes : List ℕ) (x : Pair × List ℕ) → read_entry running bytes ≡ Ok x → 0 < length bytes →
    entries running bytes ≡ then_entries x.0 x.1 (entries (in_force x.0.status) x.1)
unfolding entries_from
entries_step running [] x e some = absurd (omega arith)
entries_step running (byte ∷ rest) x e some =
    rw e (ap (then_entries x.0 x.1) (after_entry (in_force x.0.status) byte rest x.1 (entry_ends running (byte ∷ rest) x e).ends))

-- a fault of an entry ends it
pub entries_stop : (running : Option ℕ) (bytes : List ℕ) (s : Stop) → read_entry running bytes ≡ Err s → 0 < length bytes →
    entries running bytes ≡ Err s
unfolding entries_from
entries_stop running [] s e some = absurd (omega arith)
entries_stop running (byte ∷ rest) s e some = rw e refl

pub entries_none : (running : Option ℕ) (bytes : List ℕ) → length bytes ≡ 0 → entries running bytes ≡ stop NoEnd 0
unfolding entries_from
entries_none running [] e = refl
entries_none running (byte ∷ rest) e = absurd (omega arith)

-- ---- what a loop over the entries keeps

pub judged_step : (running : Option ℕ) (bytes : List ℕ) (x : Pair × List ℕ) → read_entry running bytes ≡ Ok x → 0 < length bytes →
    ends_track x.0.bytes ≡ false → judged (entries running bytes) ≡ judged (entries (in_force x.0.status) x.1)
judged_step running bytes x e some goes =
    ap judged (entries_step running bytes x e some)
    ∙ ap (λ b. judged (cond b (cond (nat_eq (length x.1) 0) (Ok (x.0 ∷ [])) (stop AfterEnd (length x.1)))
    (entries (in_force x.0.status) x.1 >>= λ es. Ok (x.0 ∷ es)))) goes
    ∙ judged_more x.0 (entries (in_force x.0.status) x.1)
  where
    judged_more : (e : Pair) (r : Read (List Pair)) → judged (r >>= λ es. Ok (e ∷ es)) ≡ judged r
    judged_more e (Ok es) = refl
    judged_more e (Err s) = refl

pub judged_end : (running : Option ℕ) (bytes : List ℕ) (x : Pair × List ℕ) → read_entry running bytes ≡ Ok x → 0 < length bytes →
    ends_track x.0.bytes ≡ true → length x.1 ≡ 0 → judged (entries running bytes) ≡ Ok tt
judged_end running bytes x e some ends none =
    ap judged (entries_step running bytes x e some) ∙ rw (ends, none) refl

pub judged_after : (running : Option ℕ) (bytes : List ℕ) (x : Pair × List ℕ) → read_entry running bytes ≡ Ok x → 0 < length bytes →
    ends_track x.0.bytes ≡ true → 0 < length x.1 → judged (entries running bytes) ≡ stop AfterEnd (length x.1)
judged_after running bytes x e some ends more =
    let more_is : nat_eq (length x.1) 0 ≡ false = grind (arith, nat_tests) in
    ap judged (entries_step running bytes x e some) ∙ rw (ends, more_is) refl

pub judged_stop : (running : Option ℕ) (bytes : List ℕ) (s : Stop) → read_entry running bytes ≡ Err s → 0 < length bytes →
    judged (entries running bytes) ≡ Err s
judged_stop running bytes s e some = ap judged (entries_stop running bytes s e some)

pub judged_none : (running : Option ℕ) (bytes : List ℕ) → length bytes ≡ 0 → judged (entries running bytes) ≡ stop NoEnd 0
judged_none running bytes e = ap judged (entries_none running bytes e)

-- ---- what an iterator keeps

-- one entry is given, and what remains is read too
pub record GivesOne (running : Option ℕ) (bytes : List ℕ) (x : Pair × List ℕ) : Type 0 where
  pub is_read : IsRead (entries_left (in_force x.0.status) x.1)
  pub is : pairs_read (entries_left running bytes) ≡ x.0 ∷ pairs_read (entries_left (in_force x.0.status) x.1)

remaining_some : (running : Option ℕ) (bytes : List ℕ) → 0 < length bytes → entries_left running bytes ≡ entries running bytes
unfolding entries_left
remaining_some running [] some = absurd (omega arith)
remaining_some running (byte ∷ rest) some = refl

remaining_none : (running : Option ℕ) (bytes : List ℕ) → length bytes ≡ 0 → entries_left running bytes ≡ Ok []
unfolding entries_left
remaining_none running [] none = refl
remaining_none running (byte ∷ rest) none = absurd (omega arith)

some_entry : (running : Option ℕ) (bytes : List ℕ) (x : Pair × List ℕ) → read_entry running bytes ≡ Ok x → 0 < length bytes
some_entry running bytes x e = omega (arith, ends_shorter _ _ (entry_ends running bytes x e).ends)

gives_more : (running : Option ℕ) (rest : List ℕ) (e : Pair) (r : Read (List Pair)) → r ≡ entries running rest →
    IsRead (r >>= λ es. Ok (e ∷ es)) →
    (IsRead (entries_left running rest)) × (pairs_read (r >>= λ es. Ok (e ∷ es)) ≡ e ∷ pairs_read (entries_left running rest))
gives_more running [] e (Ok es) is fine = absurd (cc (entries_none running [] refl))
gives_more running (byte ∷ rest) e (Ok es) is fine =
    let same : entries_left running (byte ∷ rest) ≡ Ok es = remaining_some running (byte ∷ rest) (omega arith) ∙ sym is in
    (subst IsRead (sym same) tt, ap (λ z. e ∷ pairs_read z) (sym same))
gives_more running rest e (Err s) is fine = absurd fine

gives_then : (e : Pair) (rest : List ℕ) (last : Bool) (none : Bool) → ends_track e.bytes ≡ last → nat_eq (length rest) 0 ≡ none →
    IsRead (then_entries e rest (entries (in_force e.status) rest)) →
    (IsRead (entries_left (in_force e.status) rest))
    × (pairs_read (then_entries e rest (entries (in_force e.status) rest)) ≡ e ∷ pairs_read (entries_left (in_force e.status) rest))
gives_then e rest false none ends_is none_is fine =
    let at : then_entries e rest (entries (in_force e.status) rest) ≡ (entries (in_force e.status) rest >>= λ es. Ok (e ∷ es)) =
    rw ends_is refl in
    let more = gives_more (in_force e.status) rest e (entries (in_force e.status) rest) refl (subst IsRead at fine) in
    (more.0, ap pairs_read at ∙ more.1)
gives_then e rest true true ends_is none_is fine =
    let at : then_entries e rest (entries (in_force e.status) rest) ≡ Ok (e ∷ []) = rw (ends_is, none_is) refl in
    let zero_is : length rest ≡ 0 = grind (arith, nat_tests) in
    let rest_is = remaining_none (in_force e.status) rest zero_is in
    (subst IsRead (sym rest_is) tt, ap pairs_read at ∙ ap (λ z. e ∷ pairs_read z) (sym rest_is))
gives_then e rest true false ends_is none_is fine =
    let at : then_entries e rest (entries (in_force e.status) rest) ≡ stop AfterEnd (length rest) = rw (ends_is, none_is) refl in
    absurd (subst IsRead at fine)

pub gives_one : (running : Option ℕ) (bytes : List ℕ) (x : Pair × List ℕ) → read_entry running bytes ≡ Ok x →
    IsRead (entries_left running bytes) → GivesOne running bytes x
gives_one running bytes x e fine =
    let some : 0 < length bytes = some_entry running bytes x e in
    let whole = remaining_some running bytes some ∙ entries_step running bytes x e some in
    let more = gives_then x.0 x.1 (ends_track x.0.bytes) (nat_eq (length x.1) 0) refl refl (subst IsRead whole fine) in
    record { is_read = more.0; is = ap pairs_read whole ∙ more.1 }

-- no entry is given only where none is left
pub gives_none : (running : Option ℕ) (bytes : List ℕ) (s : Stop) → read_entry running bytes ≡ Err s →
    IsRead (entries_left running bytes) → pairs_read (entries_left running bytes) ≡ []
gives_none running [] s e fine = ap pairs_read (remaining_none running [] refl)
gives_none running (byte ∷ rest) s e fine =
    let some : 0 < length (byte ∷ rest) = omega arith in
    absurd (subst IsRead (remaining_some running (byte ∷ rest) some ∙ entries_stop running (byte ∷ rest) s e some) fine)

-- a body that is read begins an iterator with its entries
pub begun : (body : List ℕ) (r : Read (Unit {0})) → judged (entries None body) ≡ r → r ≡ Ok tt →
    (IsRead (entries_left None body)) × (entries None body ≡ Ok (pairs_read (entries_left None body)))
begun body r is fine = begun_by body (entries None body) refl (is ∙ fine)
  where
    begun_by : (body : List ℕ) (r : Read (List Pair)) → entries None body ≡ r → judged r ≡ Ok tt →
        (IsRead (entries_left None body)) × (r ≡ Ok (pairs_read (entries_left None body)))
    begun_by [] r is fine = absurd (cc (entries_none None [] refl))
    begun_by (byte ∷ rest) (Ok es) is fine =
        let same : entries_left None (byte ∷ rest) ≡ Ok es = remaining_some None (byte ∷ rest) (omega arith) ∙ is in
        (subst IsRead (sym same) tt, ap (λ z. Ok (pairs_read z)) (sym same))
    begun_by (byte ∷ rest) (Err s) is fine = absurd cc

-- a body that is read has entries to come
pub read_body : (body : List ℕ) → IsRead (entries None body) →
    (IsRead (entries_left None body)) × (pairs_read (entries None body) ≡ pairs_read (entries_left None body))
read_body [] fine = absurd (subst IsRead (entries_none None [] refl) fine)
read_body (byte ∷ rest) fine =
    let same = remaining_some None (byte ∷ rest) (omega arith) in (subst IsRead (sym same) fine, ap pairs_read (sym same))
