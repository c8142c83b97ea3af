-- A file chunk by chunk.
use Rattle.std.proofs.Common.{◌≡◌, ℕ, zero, suc, ◌-◌, ◌<◌, ◌≤◌, Bool, true, false, ◌||◌, cond, nat_eq, codes, List, [], ◌∷◌, ◌++◌, length, take, drop, None, Ok, Err, refl, sym, ◌∙◌, ap, subst, arith, append_assoc, length-append, ltb, leb, ltb-false, le-ltb, lt-ltb}
use Rattle.std.proofs.lemmas.Bool.{le-leb}
use Rattle.std.proofs.lemmas.List.{take-append-drop, take-take, length-take}
use Rattle.fm_read.specs.declared.fault.Stop.{Stop}
use Rattle.fm_read.specs.Reading.{Read, cut, ◌>>=◌, Pair}
use Rattle.fm_read.specs.Tracks.{entries, IsRead}
use Rattle.fm_read.specs.Kept.{parts_read, chunks_of, joined_parts}
use Rattle.fm_read.specs.Files.{Part, has_kind, body_from, chunk_fault, held, past_chunk, passes, chunk_of, read_chunk, chunks_from, chunks, is_track, tracked}
use Rattle.fm_read.specs.Seen.{track_found}
use Rattle.fm_read.proofs.EndsLemmas.{Ends, bind_ok, ok_is, ends_shorter, ends_rest, failed, failed_is}

-- a flag and what follows, where there is no fault
abbrev pub flagged : Bool → List ℕ → Read (Unit {0}) → Read (Bool × List ℕ)
flagged flag rest (Ok u) = Ok (flag, rest)
flagged flag rest (Err s) = Err s

-- whether a track was found before or is among the chunks
abbrev pub with_found : Bool → Read Bool → Read Bool
with_found before (Ok here) = Ok (before || here)
with_found before (Err s) = Err s

-- the kind is in the chunk's head
kind_in_head : (kind bytes : List ℕ) → 8 ≤ length bytes → has_kind kind (take 8 bytes) ≡ has_kind kind bytes
kind_in_head kind bytes long =
    let first : leb 4 (length (take 8 bytes)) ≡ true = le-leb _ _ (omega (arith, length-take 8 bytes)) in
    let second : leb 4 (length bytes) ≡ true = le-leb _ _ (omega arith) in
    let same : take 4 (take 8 bytes) ≡ take 4 bytes = take-take 4 8 bytes (omega arith) in
    rw (first, second, same) refl

found_of : (head body rest : List ℕ) (r : Read (Unit {0})) →
    track_found (chunk_of head body rest r) ≡ flagged (has_kind (codes "MTrk") head) rest r
found_of head body rest (Ok u) = refl
found_of head body rest (Err s) = refl

-- what is found of a chunk
pub found_chunk : (bytes : List ℕ) → 8 ≤ length bytes → track_found (read_chunk bytes)
    ≡ flagged (has_kind (codes "MTrk") bytes) (past_chunk bytes)
    (chunk_fault (has_kind (codes "MTrk") bytes) (passes bytes) (held bytes) (length (past_chunk bytes)))
unfolding read_chunk
found_chunk bytes long =
    rw (le-ltb (length bytes) 8 long)
    (found_of (take 8 bytes) (held bytes) (past_chunk bytes) _
    ∙ ap (λ b. flagged b (past_chunk bytes)
    (chunk_fault (has_kind (codes "MTrk") bytes) (passes bytes) (held bytes) (length (past_chunk bytes))))
    (kind_in_head (codes "MTrk") bytes long))

-- what follows a chunk
rest_of : (head body rest : List ℕ) (r : Read (Unit {0})) (x : Part × List ℕ) → chunk_of head body rest r ≡ Ok x → rest ≡ x.1
rest_of head body rest (Ok u) x e = ap (λ z. z.1) (ok_is _ x e)
rest_of head body rest (Err s) x e = absurd cc

-- a chunk takes some bytes from the front
pub chunk_ends : (bytes : List ℕ) (x : Part × List ℕ) → read_chunk bytes ≡ Ok x → Ends bytes x.1
unfolding read_chunk
chunk_ends bytes x e = by_length (ltb (length bytes) 8) refl
  where
    whole : bytes ≡ (take 8 bytes ++ held bytes) ++ past_chunk bytes
    whole =
        sym (append_assoc (take 8 bytes) (held bytes) (past_chunk bytes)
        ∙ ap (λ (z : List ℕ). take 8 bytes ++ z) (take-append-drop _ (drop 8 bytes)) ∙ take-append-drop 8 bytes)

    by_length : (b : Bool) → ltb (length bytes) 8 ≡ b → Ends bytes x.1
    by_length true is = absurd (cc (rw is at e))
    by_length false is =
        let long : 8 ≤ length bytes = ltb-false _ _ is in
        let ends : Ends bytes (past_chunk bytes) = record {
          taken = take 8 bytes ++ held bytes;
          some = omega (arith, length-append (take 8 bytes) (held bytes), length-take 8 bytes);
          parts = whole;
        } in
        subst (λ (z : List ℕ). Ends bytes z) (rest_of (take 8 bytes) (held bytes) (past_chunk bytes) _ x (rw is at e)) ends

covered : (k : ℕ) (bytes : List ℕ) → k ≤ length bytes → chunks_from k bytes ≡ chunks (drop k bytes)
unfolding chunks_from
covered zero bytes few = refl
covered (suc k) [] few = absurd (omega arith)
covered (suc k) (byte ∷ rest) few = covered k rest (omega arith)

after_chunk : (byte : ℕ) (rest more : List ℕ) → Ends (byte ∷ rest) more → chunks_from (length rest - length more) rest ≡ chunks more
after_chunk byte rest more ends =
    let shorter : length more < length (byte ∷ rest) = ends_shorter _ _ ends in
    let count : length (byte ∷ rest) - length more ≡ suc (length rest - length more) = omega arith in
    covered _ rest (omega arith)
    ∙ ap chunks (ap (λ n. drop n (byte ∷ rest)) (sym count) ∙ ends_rest (byte ∷ rest) more ends)

pub chunks_step : (bytes : List ℕ) (x : Part × List ℕ) → read_chunk bytes ≡ Ok x → 0 < length bytes →
    chunks bytes ≡ (chunks x.1 >>= λ more. Ok (x.0 ∷ more))
unfolding chunks_from
chunks_step [] x e some = absurd (omega arith)
chunks_step (byte ∷ rest) x e some =
    rw e (ap (λ r. r >>= λ more. Ok (x.0 ∷ more)) (after_chunk byte rest x.1 (chunk_ends (byte ∷ rest) x e)))

pub chunks_stop : (bytes : List ℕ) (s : Stop) → read_chunk bytes ≡ Err s → 0 < length bytes → chunks bytes ≡ Err s
unfolding chunks_from
chunks_stop [] s e some = absurd (omega arith)
chunks_stop (byte ∷ rest) s e some = rw e refl

pub chunks_none : (bytes : List ℕ) → length bytes ≡ 0 → chunks bytes ≡ Ok []
unfolding chunks_from
chunks_none [] none = refl
chunks_none (byte ∷ rest) none = absurd (omega arith)

-- ---- what a loop over the chunks keeps

pub tracked_step : (before : Bool) (bytes : List ℕ) (r : Read (Part × List ℕ)) (flag : Bool) (rest : List ℕ) → read_chunk bytes ≡ r →
    track_found r ≡ Ok (flag, rest) → 0 < length bytes →
    with_found before (tracked (chunks bytes)) ≡ with_found (before || flag) (tracked (chunks rest))
tracked_step before bytes (Ok x) flag rest is same some =
    let parts : (is_track x.0 ≡ flag) × (x.1 ≡ rest) = both (is_track x.0, x.1) (flag, rest) (ok_is _ _ same) in
    ap (λ r. with_found before (tracked r)) (chunks_step bytes x is some)
    ∙ one before x.0 (chunks x.1)
    ∙ ap (λ f. with_found (before || f) (tracked (chunks x.1))) parts.0
    ∙ ap (λ z. with_found (before || flag) (tracked (chunks z))) parts.1
  where
    both : (a b : Bool × List ℕ) → a ≡ b → (a.0 ≡ b.0) × (a.1 ≡ b.1)
    both a b e = (ap (λ z. z.0) e, ap (λ z. z.1) e)

    one : (before : Bool) (p : Part) (r : Read (List Part)) →
        with_found before (tracked (r >>= λ more. Ok (p ∷ more))) ≡ with_found (before || is_track p) (tracked r)
    one true p (Ok ps) = refl
    one false p (Ok ps) = refl
    one before p (Err s) = refl
tracked_step before bytes (Err s) flag rest is same some = absurd cc

pub tracked_stop : (before : Bool) (bytes : List ℕ) (r : Read (Part × List ℕ)) (s : Stop) → read_chunk bytes ≡ r → track_found r ≡ Err s →
    0 < length bytes → with_found before (tracked (chunks bytes)) ≡ Err s
tracked_stop before bytes (Ok x) s is same some = absurd cc
tracked_stop before bytes (Err t) s is same some =
    ap (λ r. with_found before (tracked r)) (chunks_stop bytes t is some) ∙ ap (λ z. failed {A = Bool} z) (failed_is t s same)

pub tracked_all : (before : Bool) (bytes : List ℕ) → length bytes ≡ 0 → with_found before (tracked (chunks bytes)) ≡ Ok before
tracked_all true bytes none = ap (λ r. with_found true (tracked r)) (chunks_none bytes none)
tracked_all false bytes none = ap (λ r. with_found false (tracked r)) (chunks_none bytes none)

-- ---- what an iterator keeps

-- one chunk is given, and what remains is read too; a track's body is read
pub record GivesChunk (bytes : List ℕ) : Type 0 where
  pub is_read : IsRead (chunks (past_chunk bytes))
  pub is : chunks_of bytes ≡ record { head = take 8 bytes; body = held bytes } ∷ chunks_of (past_chunk bytes)
  pub track : has_kind (codes "MTrk") (take 8 bytes) ≡ true → IsRead (entries None (held bytes))

more_read : (p : Part) (r : Read (List Part)) → IsRead (r >>= λ more. Ok (p ∷ more)) →
    (IsRead r) × (parts_read (r >>= λ more. Ok (p ∷ more)) ≡ p ∷ parts_read r)
more_read p (Ok ps) fine = (tt, refl)
more_read p (Err s) fine = absurd fine

pub chunk_is : (head body rest : List ℕ) (r : Read (Unit {0})) (x : Part × List ℕ) → chunk_of head body rest r ≡ Ok x →
    (record { head = head; body = body } ≡ x.0) × (rest ≡ x.1) × (r ≡ Ok tt)
chunk_is head body rest (Ok u) x e = (ap (λ z. z.0) (ok_is _ x e), ap (λ z. z.1) (ok_is _ x e), refl)
chunk_is head body rest (Err s) x e = absurd cc

pub cut_or_stop : (b : Bool) (s : Stop) → cond b (cut {A = Unit {0}}) (Err s) ≡ Ok tt → ⊥
cut_or_stop true s same = absurd cc
cut_or_stop false s same = absurd cc

judged_body : (is_cut : Bool) (n : ℕ) (r : Read (List Pair)) → body_from is_cut n r ≡ Ok tt → IsRead r
judged_body false n (Ok es) is = tt
judged_body true n (Ok es) is = tt
judged_body false n (Err s) is = absurd cc
judged_body true n (Err s) is = cut_or_stop (nat_eq s.left 0) s is

body_read : (flag is_cut : Bool) (body : List ℕ) (n : ℕ) → chunk_fault flag is_cut body n ≡ Ok tt → flag ≡ true → IsRead (entries None body)
unfolding chunk_fault
body_read true is_cut body n is yes_is = judged_body is_cut n (entries None body) is
body_read false is_cut body n is yes_is = absurd cc

pub gives_chunk : (bytes : List ℕ) → 8 ≤ length bytes → IsRead (chunks bytes) → GivesChunk bytes
unfolding read_chunk
gives_chunk bytes long fine = by_read (read_chunk bytes) refl
  where
    by_read : (r : Read (Part × List ℕ)) → read_chunk bytes ≡ r → GivesChunk bytes
    by_read (Err s) is = absurd (subst IsRead (chunks_stop bytes s is (omega arith)) fine)
    by_read (Ok x) is =
        let some : 0 < length bytes = omega arith in
        let step = chunks_step bytes x is some in
        let parts = chunk_is (take 8 bytes) (held bytes) (past_chunk bytes) _ x (rw (le-ltb (length bytes) 8 long) at is) in
        let more = more_read x.0 (chunks x.1) (subst IsRead step fine) in
        record {
          is_read = subst (λ z. IsRead (chunks z)) (sym parts.1) more.0;
          is = ap parts_read step ∙ more.1 ∙ ap (λ z. z ∷ chunks_of x.1) (sym parts.0)
              ∙ ap (λ z. record { head = take 8 bytes; body = held bytes } ∷ chunks_of z) (sym parts.1);
          track = λ flag. body_read (has_kind (codes "MTrk") bytes) (passes bytes) (held bytes) (length (past_chunk bytes)) parts.2
              (sym (kind_in_head (codes "MTrk") bytes long) ∙ flag);
        }

pub no_chunk : (bytes : List ℕ) → length bytes < 8 → IsRead (chunks bytes) → chunks_of bytes ≡ []
unfolding read_chunk
no_chunk [] short fine = ap parts_read (chunks_none [] refl)
no_chunk (byte ∷ rest) short fine =
    let is : read_chunk (byte ∷ rest) ≡ cut = rw (lt-ltb (length (byte ∷ rest)) 8 short) refl in
    absurd (subst IsRead (chunks_stop (byte ∷ rest) _ is (omega arith)) fine)

-- ---- chunks joined

chunk_parts : (bytes : List ℕ) → 8 ≤ length bytes → (take 8 bytes ++ held bytes) ++ past_chunk bytes ≡ bytes
chunk_parts bytes long =
    append_assoc (take 8 bytes) (held bytes) (past_chunk bytes)
    ∙ ap (λ (z : List ℕ). take 8 bytes ++ z) (take-append-drop _ (drop 8 bytes)) ∙ take-append-drop 8 bytes

-- a chunk that is read, and what follows it, are the bytes
pub chunk_again : (bytes : List ℕ) (x : Part × List ℕ) → read_chunk bytes ≡ Ok x → (x.0.head ++ x.0.body) ++ x.1 ≡ bytes
unfolding read_chunk
chunk_again bytes x e = by_length (ltb (length bytes) 8) refl
  where
    by_length : (b : Bool) → ltb (length bytes) 8 ≡ b → (x.0.head ++ x.0.body) ++ x.1 ≡ bytes
    by_length true is = absurd (cc (rw is at e))
    by_length false is =
        let long : 8 ≤ length bytes = ltb-false _ _ is in
        let parts = chunk_is (take 8 bytes) (held bytes) (past_chunk bytes) _ x (rw is at e) in
        ap (λ p. (p.head ++ p.body) ++ x.1) (sym parts.0)
        ∙ ap (λ z. (take 8 bytes ++ held bytes) ++ z) (sym parts.1) ∙ chunk_parts bytes long

chunks_joined_from : (k : ℕ) (bytes : List ℕ) (ps : List Part) → k ≤ length bytes → chunks_from k bytes ≡ Ok ps →
    joined_parts ps ≡ drop k bytes
unfolding chunks_from
chunks_joined_from zero [] ps few e = ap joined_parts (sym (ok_is [] ps e))
chunks_joined_from (suc k) [] ps few e = absurd (omega arith)
chunks_joined_from (suc k) (byte ∷ rest) ps few e = chunks_joined_from k rest ps (omega arith) e
chunks_joined_from zero (byte ∷ rest) ps few e =
    let first = bind_ok (read_chunk (byte ∷ rest)) (λ x. chunks_from (length rest - length x.1) rest >>= λ more. Ok (x.0 ∷ more)) ps e in
    let ends = chunk_ends (byte ∷ rest) first.0 first.1 in
    let later = bind_ok (chunks_from (length rest - length first.0.1) rest) (λ more. Ok (first.0.0 ∷ more)) ps first.2 in
    let shorter : length first.0.1 < length (byte ∷ rest) = ends_shorter _ _ ends in
    let count : length (byte ∷ rest) - length first.0.1 ≡ suc (length rest - length first.0.1) = omega arith in
    let same : drop (length rest - length first.0.1) rest ≡ first.0.1 =
    ap (λ n. drop n (byte ∷ rest)) (sym count) ∙ ends_rest (byte ∷ rest) first.0.1 ends in
    ap joined_parts (sym (ok_is (first.0.0 ∷ later.0) ps later.2))
    ∙ ap (λ (z : List ℕ). (first.0.0.head ++ first.0.0.body) ++ z)
    (chunks_joined_from (length rest - length first.0.1) rest later.0 (omega arith) later.1 ∙ same)
    ∙ chunk_again (byte ∷ rest) first.0 first.1

pub chunks_joined : (bytes : List ℕ) (ps : List Part) → chunks bytes ≡ Ok ps → joined_parts ps ≡ bytes
chunks_joined bytes ps e = chunks_joined_from 0 bytes ps (omega arith) e
