-- Why bytes are no file: each fault of the table is found.
use Rattle.std.proofs.Common.{◌≡◌, ℕ, ◌+◌, ◌<◌, ◌≤◌, Bool, true, false, ◌&&◌, ltb, leb, nat_eq, codes, List, [], ◌∷◌, ◌++◌, length, drop, Some, None, Ok, Err, refl, sym, ◌∙◌, ap, arith, le-ltb, lt-ltb, append_assoc, length-append}
use Rattle.std.proofs.lemmas.Bool.{le-leb}
use Rattle.std.proofs.lemmas.List.{take_at, drop_at, take_all}
use Rattle.std.proofs.lemmas.Bool.Decides.{nat_tests}
use Rattle.fm_read.specs.declared.fault.Stop.{Stop}
use Rattle.fm_read.specs.Reading.{Read, stop, Pair}
use Rattle.fm_read.specs.Tracks.{entries}
use Rattle.fm_read.specs.Files.{Part, wide_at, short_at, has_kind, body_from, chunk_fault, held, past_chunk, passes, read_chunk, chunks, header_fault, behind_header, body_chunks, contents}
use Rattle.fm_read.specs.FileForm.{AreChunks}
use Rattle.fm_read.specs.Kept.{joined_parts}
use Rattle.fm_read.specs.FaultForm.{cut_stop, NoBody}
use Rattle.fm_read.specs.FileFaultForm.{NoHeader, Passing, NoChunk, NoFile}
use Rattle.fm_read.specs.FileFaultForm.NoHeader.{wrapped, not_midi, no_length, short_header, format_two, bad_format, smpte, cut_header}
use Rattle.fm_read.specs.FileFaultForm.NoChunk.{no_head, past_end, passing_track, in_passing_track, in_track}
use Rattle.fm_read.specs.FileFaultForm.NoFile.{no_header, no_chunk, no_track}
use Rattle.fm_read.proofs.ChunkLemmas.{chunks_step, chunks_stop}
use Rattle.fm_read.proofs.FaultFails.{stopped}
use Rattle.fm_read.proofs.FaultTrack.{body_fails, no_body_read}
use Rattle.fm_read.proofs.FileLemmas.{header_stops}
use Rattle.fm_read.proofs.FileFormRead.{wide_inside, kind_inside, chunk_read, chunks_read, other_kind, header_read}

-- ---- the header

is_at_least : (m n : ℕ) → m ≤ n → leb m n ≡ true
is_at_least m n is = le-leb m n is

-- one of two tests fails
one_fails : (a b : Bool) → (a ≡ true → b ≡ false) → (a && b) ≡ false
one_fails true b f = f refl
one_fails false b f = refl

from_true : (m n : ℕ) → leb m n ≡ true → m ≤ n
from_true m n is = grind (arith, nat_tests)

not_two : (n : ℕ) → n < 2 → nat_eq n 2 ≡ false
not_two n small = grind (arith, nat_tests)

not_half : (n : ℕ) → n < 32768 → leb 32768 n ≡ false
not_half n small = grind (arith, nat_tests)

pub no_header_read : (bytes : List ℕ) (s : Stop) → NoHeader bytes s → header_fault bytes ≡ Some s
no_header_read bytes s (wrapped a same) = rw a (ap Some (sym same))
no_header_read bytes s (not_midi a b same) = rw (a, b) (ap Some (sym same))
no_header_read bytes s (no_length b few same) = rw (other_kind bytes b, b, lt-ltb (length bytes) 8 few) (ap Some (sym same))
no_header_read bytes s (short_header b long short same) =
    rw (other_kind bytes b, b, le-ltb (length bytes) 8 long, lt-ltb (wide_at 4 bytes) 6 short) (ap Some (sym same))
no_header_read bytes s (format_two b six long two same) =
    let is : nat_eq (short_at 8 bytes) 2 ≡ true = rw two refl in
    rw (other_kind bytes b, b, le-ltb (length bytes) 8 (omega arith), le-ltb (wide_at 4 bytes) 6 six, le-leb 10 (length bytes) long, is)
    (ap Some (sym same))
no_header_read bytes s (bad_format b six long more same) =
    let is : nat_eq (short_at 8 bytes) 2 ≡ false = grind (arith, nat_tests) in
    rw (
      other_kind bytes b,
      b,
      le-ltb (length bytes) 8 (omega arith),
      le-ltb (wide_at 4 bytes) 6 six,
      le-leb 10 (length bytes) long,
      is,
      lt-ltb 2 (short_at 8 bytes) more,
    ) (ap Some (sym same))
no_header_read bytes s (smpte b six long known half same) =
    rw (
      other_kind bytes b,
      b,
      le-ltb (length bytes) 8 (omega arith),
      le-ltb (wide_at 4 bytes) 6 six,
      le-leb 10 (length bytes) (omega arith),
      not_two (short_at 8 bytes) known,
      le-ltb 2 (short_at 8 bytes) (omega arith),
      le-leb 14 (length bytes) long,
      le-leb 32768 (short_at 12 bytes) half,
    ) (ap Some (sym same))
no_header_read bytes s (cut_header b long six past known ticks same) =
    let a : (leb 10 (length bytes) && nat_eq (short_at 8 bytes) 2) ≡ false =
    one_fails _ _ (λ ten. not_two (short_at 8 bytes) (known (from_true 10 (length bytes) ten))) in
    let c : (leb 10 (length bytes) && ltb 2 (short_at 8 bytes)) ≡ false =
    one_fails _ _
    (λ ten. let k : short_at 8 bytes < 2 = known (from_true 10 (length bytes) ten) in le-ltb 2 (short_at 8 bytes) (omega arith)) in
    let d : (leb 14 (length bytes) && leb 32768 (short_at 12 bytes)) ≡ false =
    one_fails _ _ (λ more. not_half (short_at 12 bytes) (ticks (from_true 14 (length bytes) more))) in
    rw (
      other_kind bytes b,
      b,
      le-ltb (length bytes) 8 long,
      le-ltb (wide_at 4 bytes) 6 six,
      a,
      c,
      d,
      lt-ltb (length bytes) (8 + wide_at 4 bytes) past,
    ) (ap Some (sym same))

-- ---- chunks

chunk_refused : (bytes : List ℕ) (s : Stop) → ltb (length bytes) 8 ≡ false →
    chunk_fault (has_kind (codes "MTrk") bytes) (passes bytes) (held bytes) (length (past_chunk bytes)) ≡ Err s → read_chunk bytes ≡ Err s
unfolding read_chunk
chunk_refused bytes s long is = rw (long, is) refl

short_chunk : (bytes : List ℕ) → length bytes < 8 → read_chunk bytes ≡ Err cut_stop
unfolding read_chunk
short_chunk bytes few = rw (lt-ltb (length bytes) 8 few) refl

other_cut : (body : List ℕ) (n : ℕ) → chunk_fault false true body n ≡ Err cut_stop
unfolding chunk_fault
other_cut body n = refl

track_whole : (body : List ℕ) (n : ℕ) (t : Stop) → NoBody None body t → chunk_fault true false body n ≡ stop t.kind (t.left + n)
unfolding chunk_fault
track_whole body n t fault = rw (no_body_read None body t fault) refl

track_early : (body : List ℕ) (n : ℕ) (s : Stop) → NoBody None body s → 0 < s.left → chunk_fault true true body n ≡ Err s
unfolding chunk_fault
track_early body n s fault some =
    let more : nat_eq s.left 0 ≡ false = grind (arith, nat_tests) in rw (no_body_read None body s fault, more) refl

track_cut : (body : List ℕ) (n : ℕ) → ((t : Stop) → NoBody None body t → t.left ≡ 0) → chunk_fault true true body n ≡ Err cut_stop
unfolding chunk_fault
track_cut body n none = by_read (entries None body) refl
  where
    by_read : (r : Read (List Pair)) → entries None body ≡ r → body_from true n r ≡ Err cut_stop
    by_read (Ok es) is = refl
    by_read (Err t) is = let end : nat_eq t.left 0 ≡ true = rw (none t (body_fails None body t is)) refl in rw end refl

-- what is seen of a chunk that passes the end
pub record Seen (bytes head body : List ℕ) : Type 0 where
  pub long : ltb (length bytes) 8 ≡ false
  pub kind : has_kind (codes "MTrk") bytes ≡ has_kind (codes "MTrk") head
  pub past : passes bytes ≡ true
  pub body_is : held bytes ≡ body

passing_seen : (bytes head body : List ℕ) → Passing bytes head body → Seen bytes head body
passing_seen bytes head body p =
    let after : drop 8 bytes ≡ body = ap (drop 8) p.parts ∙ drop_at head body 8 p.eight in
    let count : wide_at 4 bytes ≡ wide_at 4 head = ap (wide_at 4) p.parts ∙ wide_inside 4 head body (omega (arith, p.eight)) in
    record {
      long = le-ltb _ _ (omega (arith, p.eight, ap length p.parts, length-append head body));
      kind = ap (has_kind (codes "MTrk")) p.parts ∙ kind_inside (codes "MTrk") head body (omega (arith, p.eight));
      past = rw (count, after) (lt-ltb _ _ p.past);
      body_is = rw (count, after) (take_all (wide_at 4 head) body (omega (arith, p.past)));
    }

pub no_chunk_read : (bytes : List ℕ) (s : Stop) → NoChunk bytes s → read_chunk bytes ≡ Err s
no_chunk_read bytes s (no_head few same) = short_chunk bytes few ∙ ap stopped (sym same)
no_chunk_read bytes s (past_end head body p flag same) =
    let seen = passing_seen bytes head body p in
    chunk_refused bytes s seen.long (rw (seen.kind, flag, seen.past) (other_cut (held bytes) _ ∙ ap stopped (sym same)))
no_chunk_read bytes s (passing_track head body p flag none same) =
    let seen = passing_seen bytes head body p in
    chunk_refused bytes s seen.long (rw (seen.kind, flag, seen.past, seen.body_is) (track_cut body _ none ∙ ap stopped (sym same)))
no_chunk_read bytes s (in_passing_track head body p flag fault some) =
    let seen = passing_seen bytes head body p in
    chunk_refused bytes s seen.long (rw (seen.kind, flag, seen.past, seen.body_is) (track_early body _ s fault some))
no_chunk_read bytes s (in_track head body rest t parts eight full flag fault same) =
    let all : bytes ≡ head ++ (body ++ rest) = parts ∙ append_assoc head body rest in
    let after : drop 8 bytes ≡ body ++ rest = ap (drop 8) all ∙ drop_at head (body ++ rest) 8 eight in
    let count : wide_at 4 bytes ≡ length body = ap (wide_at 4) all ∙ wide_inside 4 head (body ++ rest) (omega (arith, eight)) ∙ sym full in
    let kind : has_kind (codes "MTrk") bytes ≡ true =
    ap (has_kind (codes "MTrk")) all ∙ kind_inside (codes "MTrk") head (body ++ rest) (omega (arith, eight)) ∙ flag in
    let whole : passes bytes ≡ false = rw (count, after) (le-ltb _ _ (omega (arith, length-append body rest))) in
    let held_is : held bytes ≡ body = rw (count, after) (take_at body rest (length body) refl) in
    let behind_is : past_chunk bytes ≡ rest = rw (count, after) (drop_at body rest (length body) refl) in
    let long : ltb (length bytes) 8 ≡ false = le-ltb _ _ (omega (arith, eight, ap length all, length-append head (body ++ rest))) in
    chunk_refused bytes s long (rw (kind, whole, held_is, behind_is) (track_whole body (length rest) t fault ∙ ap stopped (sym same)))

-- behind some chunks
chunks_refused : (ps : List Part) (rest : List ℕ) (s : Stop) → AreChunks ps → 0 < length rest → read_chunk rest ≡ Err s →
    chunks (joined_parts ps ++ rest) ≡ Err s
chunks_refused [] rest s are some is = chunks_stop rest s is some
chunks_refused (p ∷ ps) rest s are some is =
    let bytes : List ℕ = (p.head ++ p.body) ++ (joined_parts ps ++ rest) in
    let long : 0 < length bytes =
    omega (arith, are.0.head, length-append (p.head ++ p.body) (joined_parts ps ++ rest), length-append p.head p.body) in
    ap chunks (append_assoc (p.head ++ p.body) (joined_parts ps) rest)
    ∙ chunks_step bytes (p, joined_parts ps ++ rest) (chunk_read p (joined_parts ps ++ rest) are.0) long
    ∙ rw (chunks_refused ps rest s are.1 some is) refl

-- ---- a file

behind_fails : (bytes : List ℕ) (s : Stop) → header_fault bytes ≡ None → body_chunks (behind_header bytes) ≡ Err s → contents bytes ≡ Err s
unfolding contents
behind_fails bytes s none is = rw (none, is) refl

pub no_file_read : (bytes : List ℕ) (s : Stop) → NoFile bytes s → contents bytes ≡ Err s
no_file_read bytes s (no_header fault) = header_stops bytes s (no_header_read bytes s fault)
no_file_read bytes s (no_chunk head ps rest parts header are some fault) =
    let h = header_read head (joined_parts ps ++ rest) header in
    let is : body_chunks (joined_parts ps ++ rest) ≡ Err s = rw (chunks_refused ps rest s are some (no_chunk_read rest s fault)) refl in
    ap contents parts ∙ behind_fails (head ++ (joined_parts ps ++ rest)) s h.0 (ap body_chunks h.1 ∙ is)
no_file_read bytes s (no_track head ps parts header are none same) =
    let h = header_read head (joined_parts ps) header in
    let is : body_chunks (joined_parts ps) ≡ Err s = rw (chunks_read ps are, none) (ap stopped (sym same)) in
    ap contents parts ∙ behind_fails (head ++ joined_parts ps) s h.0 (ap body_chunks h.1 ∙ is)
