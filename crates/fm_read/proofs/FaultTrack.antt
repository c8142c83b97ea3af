-- Why bytes are no body of a track.
use Rattle.std.proofs.Common.{◌≡◌, ℕ, zero, suc, ◌-◌, ◌<◌, ◌≤◌, false, nat_eq, List, [], ◌∷◌, ◌++◌, length, drop, Option, Ok, Err, refl, sym, ◌∙◌, ap, subst, arith, append_assoc}
use Rattle.std.proofs.lemmas.List.{append-nil}
use Rattle.std.proofs.lemmas.Bool.Decides.{nat_tests}
use Rattle.fm_read.specs.declared.fault.ReadKind.TheVariants.{AfterEnd}
use Rattle.fm_read.specs.declared.fault.Stop.{Stop}
use Rattle.fm_read.specs.Reading.{Read, stop, Pair, read_entry, in_force}
use Rattle.fm_read.specs.Tracks.{ends_track, then_entries, entries_from, entries, joined_entries}
use Rattle.fm_read.specs.Form.{IsEntry, IsTrack}
use Rattle.fm_read.specs.FaultForm.{AreEntries, force_after, NoBody}
use Rattle.fm_read.specs.FaultForm.NoBody.{no_end, after_end, no_entry}
use Rattle.fm_read.proofs.EndsLemmas.{ends_shorter, ends_rest, entry_ends}
use Rattle.fm_read.proofs.TrackLemmas.{entries_step, entries_stop, entries_none}
use Rattle.fm_read.proofs.FormTook.{entry_took, goes_on}
use Rattle.fm_read.proofs.FormRead.{entry_read}
use Rattle.fm_read.proofs.FaultFails.{fell, step_fails, stopped, stop_is}
use Rattle.fm_read.proofs.FaultEntry.{entry_fails}
use Rattle.fm_read.proofs.FaultRead.{no_entry_read}

-- ---- a fault, told

-- behind one entry more
behind_one : (running : Option ℕ) (e : Pair) (bytes rest : List ℕ) (s : Stop) → IsEntry running e → ends_track e.bytes ≡ false →
    (e.lead ++ e.bytes) ++ rest ≡ bytes → NoBody (in_force e.status) rest s → NoBody running bytes s
behind_one running e bytes rest s here more parts (no_end es are body is) =
    no_end (e ∷ es) (here, more, are) (sym parts ∙ ap (λ (z : List ℕ). (e.lead ++ e.bytes) ++ z) body) is
behind_one running e bytes rest s here more parts (after_end es rest2 are some body is) =
    after_end (e ∷ es) rest2 (goes_on running e es here more are) some
    (sym parts ∙ ap (λ (z : List ℕ). (e.lead ++ e.bytes) ++ z) body ∙ sym (append_assoc (e.lead ++ e.bytes) (joined_entries es) rest2)) is
behind_one running e bytes rest s here more parts (no_entry es rest2 are some body is) =
    no_entry (e ∷ es) rest2 (here, more, are) some
    (sym parts ∙ ap (λ (z : List ℕ). (e.lead ++ e.bytes) ++ z) body ∙ sym (append_assoc (e.lead ++ e.bytes) (joined_entries es) rest2)) is

then_fails : (running : Option ℕ) (e : Pair) (bytes rest : List ℕ) (r : Read (List Pair)) (s : Stop) → IsEntry running e →
    (e.lead ++ e.bytes) ++ rest ≡ bytes → (r ≡ Err s → NoBody (in_force e.status) rest s) → then_entries e rest r ≡ Err s →
    NoBody running bytes s
then_fails running e bytes rest r s here parts later is =
    fell (ends_track e.bytes) _ _ s is
    (λ ends last. fell (nat_eq (length rest) 0) _ _ s last
    (λ none wrong. absurd cc)
    (λ none stops.
    let some : 0 < length rest = grind (arith, nat_tests) in
    after_end (e ∷ []) rest (here, ends) some (sym parts ∙ ap (λ (z : List ℕ). z ++ rest) (sym (append-nil (e.lead ++ e.bytes))))
    (sym (stop_is {A = List Pair} _ s stops))))
    (λ ends more. step_fails r (λ es. Ok (e ∷ es)) s more
    (λ stops. behind_one running e bytes rest s here ends parts (later stops))
    (λ es same wrong. absurd cc))

body_fails_from : (k : ℕ) (running : Option ℕ) (bytes : List ℕ) (s : Stop) → k ≤ length bytes → entries_from k running bytes ≡ Err s →
    NoBody running (drop k bytes) s
unfolding entries_from
body_fails_from zero running [] s few e = no_end [] tt refl (sym (stop_is {A = List Pair} _ s e))
body_fails_from (suc k) running [] s few e = absurd (omega arith)
body_fails_from (suc k) running (byte ∷ rest) s few e = body_fails_from k running rest s (omega arith) e
body_fails_from zero running (byte ∷ rest) s few e =
    step_fails (read_entry running (byte ∷ rest)) (λ x.
    then_entries x.0 x.1 (entries_from (length rest - length x.1) (in_force x.0.status) rest)) s e
    (λ stops. no_entry [] (byte ∷ rest) tt (omega arith) refl (entry_fails running (byte ∷ rest) s stops))
    (λ x is more.
    let parts = entry_ends running (byte ∷ rest) x is in
    let shorter : length x.1 < length (byte ∷ rest) = ends_shorter _ _ parts.ends in
    let count : length (byte ∷ rest) - length x.1 ≡ suc (length rest - length x.1) = omega arith in
    let same : drop (length rest - length x.1) rest ≡ x.1 =
    ap (λ n. drop n (byte ∷ rest)) (sym count) ∙ ends_rest (byte ∷ rest) x.1 parts.ends in
    then_fails running x.0 (byte ∷ rest) x.1 _ s (entry_took running (byte ∷ rest) x is) parts.joined_entries
    (λ stops. subst (λ (z : List ℕ). NoBody (in_force x.0.status) z s) same
    (body_fails_from (length rest - length x.1) (in_force x.0.status) rest s (omega arith) stops)) more)

pub body_fails : (running : Option ℕ) (body : List ℕ) (s : Stop) → entries running body ≡ Err s → NoBody running body s
body_fails running body s e = body_fails_from 0 running body s (omega arith) e

-- ---- a fault, found

entry_some : (running : Option ℕ) (bytes : List ℕ) (x : Pair × List ℕ) → read_entry running bytes ≡ Ok x → 0 < length bytes
entry_some running bytes x e = omega (arith, ends_shorter _ _ (entry_ends running bytes x e).ends)

-- behind entries
behind_entries : (running : Option ℕ) (es : List Pair) (rest : List ℕ) (s : Stop) → AreEntries running es →
    entries (force_after running es) rest ≡ Err s → entries running (joined_entries es ++ rest) ≡ Err s
behind_entries running [] rest s are is = is
behind_entries running (e ∷ es) rest s are is =
    let here : read_entry running ((e.lead ++ e.bytes) ++ (joined_entries es ++ rest)) ≡ Ok (e, joined_entries es ++ rest) =
    entry_read running e (joined_entries es ++ rest) are.0 in
    let later : entries (in_force e.status) (joined_entries es ++ rest) ≡ Err s = behind_entries (in_force e.status) es rest s are.2 is in
    ap (entries running) (append_assoc (e.lead ++ e.bytes) (joined_entries es) rest)
    ∙ entries_step running _ _ here (entry_some running _ _ here) ∙ rw (are.1, later) refl

-- behind a track
behind_track : (running : Option ℕ) (es : List Pair) (rest : List ℕ) → IsTrack running es → 0 < length rest →
    entries running (joined_entries es ++ rest) ≡ stop AfterEnd (length rest)
behind_track running [] rest is some = absurd is
behind_track running (e ∷ []) rest is some =
    let here : read_entry running ((e.lead ++ e.bytes) ++ rest) ≡ Ok (e, rest) = entry_read running e rest is.0 in
    let more : nat_eq (length rest) 0 ≡ false = grind (arith, nat_tests) in
    ap (entries running) (append_assoc (e.lead ++ e.bytes) [] rest)
    ∙ entries_step running _ _ here (entry_some running _ _ here) ∙ rw (is.1, more) refl
behind_track running (e ∷ next ∷ es) rest is some =
    let after : List ℕ = joined_entries (next ∷ es) ++ rest in
    let here : read_entry running ((e.lead ++ e.bytes) ++ after) ≡ Ok (e, after) = entry_read running e after is.0 in
    let later : entries (in_force e.status) after ≡ stop AfterEnd (length rest) =
    behind_track (in_force e.status) (next ∷ es) rest is.2 some in
    ap (entries running) (append_assoc (e.lead ++ e.bytes) (joined_entries (next ∷ es)) rest)
    ∙ entries_step running _ _ here (entry_some running _ _ here) ∙ rw (is.1, later) refl

pub no_body_read : (running : Option ℕ) (body : List ℕ) (s : Stop) → NoBody running body s → entries running body ≡ Err s
no_body_read running body s (no_end es are parts is) =
    ap (entries running) (parts ∙ sym (append-nil (joined_entries es)))
    ∙ behind_entries running es [] s are (entries_none (force_after running es) [] refl ∙ ap stopped (sym is))
no_body_read running body s (after_end es rest are some parts is) =
    ap (entries running) parts ∙ behind_track running es rest are some ∙ ap stopped (sym is)
no_body_read running body s (no_entry es rest are some parts is) =
    ap (entries running) parts
    ∙ behind_entries running es rest s are
    (entries_stop (force_after running es) rest s (no_entry_read (force_after running es) rest s is) some)
