-- What is read as a file has the form of a file.
use Rattle.std.proofs.Common.{◌≡◌, ℕ, zero, suc, ◌+◌, ◌-◌, ◌<◌, ◌≤◌, Bool, true, false, not, ◌&&◌, cond, ltb, leb, nat_eq, codes, List, [], ◌∷◌, length, take, drop, Option, Some, None, Ok, Err, refl, sym, ◌∙◌, ap, subst, arith, ltb-false}
use Rattle.std.proofs.lemmas.Bool.{le-leb}
use Rattle.std.proofs.lemmas.List.{take-take, length-take, drop-take}
use Rattle.std.proofs.lemmas.Bool.Decides.{nat_tests}
use Rattle.fm_read.specs.declared.fault.Stop.{Stop}
use Rattle.fm_read.specs.declared.fault.ReadKind.TheVariants.{NoTrack}
use Rattle.fm_read.specs.Reading.{Read, stop, ◌>>=◌, Pair}
use Rattle.fm_read.specs.Tracks.{entries}
use Rattle.fm_read.specs.Files.{Part, Contents, wide_at, short_at, has_kind, body_from, chunk_fault, held, past_chunk, passes, read_chunk, chunks_from, chunks, any_track, header_fault, header_of, behind_header, contents}
use Rattle.fm_read.specs.FileForm.{IsBody, IsChunk, AreChunks, IsHeader, IsFile}
use Rattle.fm_read.proofs.EndsLemmas.{bind_ok, ok_is}
use Rattle.fm_read.proofs.Joined.{entries_joined}
use Rattle.fm_read.proofs.ChunkLemmas.{chunk_is, cut_or_stop}
use Rattle.fm_read.proofs.FormTook.{tested, track_took}

-- ---- fields in the front of some bytes

within : (n at m : ℕ) (bytes : List ℕ) → at + n ≤ m → take n (drop at (take m bytes)) ≡ take n (drop at bytes)
within n at m bytes fits =
    let count : m ≡ at + (m - at) = omega arith in
    ap (λ k. take n (drop at (take k bytes))) count
    ∙ ap (take n) (drop-take at (m - at) bytes) ∙ take-take n (m - at) (drop at bytes) (omega arith)

pub wide_within : (at m : ℕ) (bytes : List ℕ) → at + 4 ≤ m → wide_at at (take m bytes) ≡ wide_at at bytes
wide_within at m bytes fits = rw (within 4 at m bytes fits) refl

pub short_within : (at m : ℕ) (bytes : List ℕ) → at + 2 ≤ m → short_at at (take m bytes) ≡ short_at at bytes
short_within at m bytes fits = rw (within 2 at m bytes fits) refl

pub kind_within : (kind bytes : List ℕ) (m : ℕ) → 4 ≤ m → 4 ≤ length bytes → has_kind kind (take m bytes) ≡ has_kind kind bytes
kind_within kind bytes m fits long =
    let a : leb 4 (length (take m bytes)) ≡ true = le-leb _ _ (omega (arith, length-take m bytes)) in
    let b : leb 4 (length bytes) ≡ true = le-leb _ _ long in
    rw (a, b, take-take 4 m bytes fits) refl

-- ---- chunks

judged_whole : (n : ℕ) (is_cut : Bool) (r : Read (List Pair)) → body_from is_cut n r ≡ Ok tt → is_cut ≡ false
judged_whole n false r is = refl
judged_whole n true (Ok es) is = absurd cc
judged_whole n true (Err s) is = absurd (cut_or_stop (nat_eq s.left 0) s is)

-- a body without a fault isn't cut
body_whole : (flag is_cut : Bool) (body : List ℕ) (n : ℕ) → chunk_fault flag is_cut body n ≡ Ok tt → is_cut ≡ false
unfolding chunk_fault
body_whole true is_cut body n is = judged_whole n is_cut (entries None body) is
body_whole false true body n is = absurd cc
body_whole false false body n is = refl

-- a track's body without a fault has the form of one
body_took : (flag is_cut : Bool) (body : List ℕ) (n : ℕ) → chunk_fault flag is_cut body n ≡ Ok tt → flag ≡ true → IsBody body
unfolding chunk_fault
body_took false is_cut body n is yes_is = absurd cc
body_took true is_cut body n is yes_is = by_read (entries None body) refl is
  where
    by_read : (r : Read (List Pair)) → entries None body ≡ r → body_from is_cut n r ≡ Ok tt → IsBody body
    by_read (Ok es) read same = record { entries = es; form = track_took None body es read; parts = entries_joined None body es read }
    by_read (Err s) read same = absurd (faulty is_cut same)
      where
        faulty : (c : Bool) → body_from c n (Err s) ≡ Ok tt → ⊥
        faulty false same = absurd cc
        faulty true same = cut_or_stop (nat_eq s.left 0) s same

pub chunk_took : (bytes : List ℕ) (x : Part × List ℕ) → read_chunk bytes ≡ Ok x → IsChunk x.0
unfolding read_chunk
chunk_took bytes x e =
    tested (ltb (length bytes) 8) _ _ x e
    (λ short wrong. absurd cc)
    (λ short same.
    let long : 8 ≤ length bytes = ltb-false _ _ short in
    let parts = chunk_is (take 8 bytes) (held bytes) (past_chunk bytes) _ x same in
    let whole = body_whole (has_kind (codes "MTrk") bytes) (passes bytes) (held bytes) (length (past_chunk bytes)) parts.2 in
    let room : wide_at 4 bytes ≤ length (drop 8 bytes) = ltb-false _ _ whole in
    let count : wide_at 4 (take 8 bytes) ≡ wide_at 4 bytes = wide_within 4 8 bytes (omega arith) in
    subst IsChunk parts.0 (record {
      head = omega (arith, length-take 8 bytes);
      body = omega (arith, length-take (wide_at 4 bytes) (drop 8 bytes), count);
      track = λ flag. body_took (has_kind (codes "MTrk") bytes) (passes bytes) (held bytes) (length (past_chunk bytes)) parts.2
          (sym (kind_within (codes "MTrk") bytes 8 (omega arith) (omega arith)) ∙ flag);
    }))

pub chunks_took_from : (k : ℕ) (bytes : List ℕ) (ps : List Part) → chunks_from k bytes ≡ Ok ps → AreChunks ps
unfolding chunks_from
chunks_took_from k [] ps e = subst AreChunks (ok_is [] ps e) tt
chunks_took_from (suc k) (byte ∷ rest) ps e = chunks_took_from k rest ps e
chunks_took_from zero (byte ∷ rest) ps e =
    let first = bind_ok (read_chunk (byte ∷ rest)) (λ x. chunks_from (length rest - length x.1) rest >>= λ more. Ok (x.0 ∷ more)) ps e in
    let later = bind_ok (chunks_from (length rest - length first.0.1) rest) (λ more. Ok (first.0.0 ∷ more)) ps first.2 in
    subst AreChunks (ok_is (first.0.0 ∷ later.0) ps later.2)
    (chunk_took (byte ∷ rest) first.0 first.1, chunks_took_from (length rest - length first.0.1) rest later.0 later.1)

-- ---- the header

-- a test that didn't stop
passed : (b : Bool) (s : Stop) (more : Option Stop) → cond b (Some s) more ≡ None → (b ≡ false) × (more ≡ None)
passed true s more is = absurd cc
passed false s more is = (refl, is)

negated : (b : Bool) → not b ≡ false → b ≡ true
negated true is = refl
negated false is = absurd cc

second : (a b : Bool) → (a && b) ≡ false → a ≡ true → b ≡ false
second true b is first = is
second false b is first = absurd cc

pub header_took : (bytes : List ℕ) (parts : List Part) → header_fault bytes ≡ None → IsHeader (record {
  head = header_of bytes;
  format = short_at 8 bytes;
  stated = short_at 10 bytes;
  division = short_at 12 bytes;
  parts = parts;
})
header_took bytes parts none =
    let a = passed (has_kind (codes "RIFF") bytes) _ _ none in
    let b = passed (not (has_kind (codes "MThd") bytes)) _ _ a.1 in
    let d = passed (ltb (length bytes) 8) _ _ b.1 in
    let e = passed (ltb (wide_at 4 bytes) 6) _ _ d.1 in
    let f = passed (leb 10 (length bytes) && nat_eq (short_at 8 bytes) 2) _ _ e.1 in
    let g = passed (leb 10 (length bytes) && ltb 2 (short_at 8 bytes)) _ _ f.1 in
    let h = passed (leb 14 (length bytes) && leb 32768 (short_at 12 bytes)) _ _ g.1 in
    let i = passed (ltb (length bytes) (8 + wide_at 4 bytes)) _ _ h.1 in
    let six : 6 ≤ wide_at 4 bytes = ltb-false _ _ e.0 in
    let room : 8 + wide_at 4 bytes ≤ length bytes = ltb-false _ _ i.0 in
    let ten : leb 10 (length bytes) ≡ true = le-leb _ _ (omega arith) in
    let fourteen : leb 14 (length bytes) ≡ true = le-leb _ _ (omega arith) in
    let not_two : nat_eq (short_at 8 bytes) 2 ≡ false = second _ _ f.0 ten in
    let low : short_at 8 bytes ≤ 2 = ltb-false _ _ (second _ _ g.0 ten) in
    let high : leb 32768 (short_at 12 bytes) ≡ false = second _ _ h.0 fourteen in
    let count : wide_at 4 (header_of bytes) ≡ wide_at 4 bytes = wide_within 4 (8 + wide_at 4 bytes) bytes (omega arith) in
    record {
      kind = kind_within (codes "MThd") bytes (8 + wide_at 4 bytes) (omega arith) (omega arith) ∙ negated _ b.0;
      six = omega (arith, count);
      whole = omega (arith, count, length-take (8 + wide_at 4 bytes) bytes);
      format = sym (short_within 8 (8 + wide_at 4 bytes) bytes (omega arith));
      stated = sym (short_within 10 (8 + wide_at 4 bytes) bytes (omega arith));
      division = sym (short_within 12 (8 + wide_at 4 bytes) bytes (omega arith));
      known = below_two (short_at 8 bytes) low not_two;
      ticks = below_half (short_at 12 bytes) high;
    }
  where
    below_two : (n : ℕ) → n ≤ 2 → nat_eq n 2 ≡ false → n < 2
    below_two n low other = grind (arith, nat_tests)

    below_half : (n : ℕ) → leb 32768 n ≡ false → n < 32768
    below_half n high = grind (arith, nat_tests)

pub file_took : (bytes : List ℕ) (c : Contents) → contents bytes ≡ Ok c → IsFile c
unfolding contents
file_took bytes c e = by_fault (header_fault bytes) refl
  where
    body : List Part → Contents
    body parts = record {
      head = header_of bytes;
      format = short_at 8 bytes;
      stated = short_at 10 bytes;
      division = short_at 12 bytes;
      parts = parts;
    }

    whole : header_fault bytes ≡ None → (r : Read (List Part)) → chunks (behind_header bytes) ≡ r →
        ((r >>= λ parts. cond (any_track parts) (Ok parts) (stop NoTrack 0)) >>= λ parts. Ok (body parts)) ≡ Ok c → IsFile c
    whole none (Err s) is same = absurd cc
    whole none (Ok ps) is same = by_track (any_track ps) refl same
      where
        by_track : (b : Bool) → any_track ps ≡ b → ((cond b (Ok ps) (stop NoTrack 0)) >>= λ parts. Ok (body parts)) ≡ Ok c → IsFile c
        by_track true some same2 =
            subst IsFile (ok_is (body ps) c same2)
            (record { header = header_took bytes ps none; chunks = chunks_took_from 0 (behind_header bytes) ps is; some = some })
        by_track false some same2 = absurd cc

    by_fault : (o : Option Stop) → header_fault bytes ≡ o → IsFile c
    by_fault (Some s) is = absurd (cc (rw is at e))
    by_fault None is = whole is (chunks (behind_header bytes)) refl (rw is at e)
