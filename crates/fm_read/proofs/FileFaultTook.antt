-- Why bytes are no file: each fault that is found is one of the table's.
use Rattle.std.proofs.Common.{◌≡◌, ℕ, zero, suc, ◌+◌, ◌-◌, ◌<◌, ◌≤◌, Bool, true, false, not, ◌&&◌, cond, ltb, leb, nat_eq, codes, List, [], ◌∷◌, ◌++◌, length, take, drop, Option, Some, None, Ok, Err, refl, sym, ◌∙◌, ap, subst, arith, ltb-false, append_assoc}
use Rattle.std.proofs.lemmas.Bool.{le-leb}
use Rattle.std.proofs.lemmas.List.{take-append-drop, take_all, length-take}
use Rattle.std.proofs.lemmas.Bool.Decides.{nat_tests}
use Rattle.fm_read.specs.declared.fault.Stop.{Stop}
use Rattle.fm_read.specs.declared.fault.ReadKind.TheVariants.{NoTrack}
use Rattle.fm_read.specs.Reading.{Read, cut, stop, ◌>>=◌, Pair}
use Rattle.fm_read.specs.Tracks.{entries}
use Rattle.fm_read.specs.Files.{Part, Contents, wide_at, short_at, has_kind, body_from, chunk_fault, held, past_chunk, passes, chunk_of, read_chunk, chunks_from, chunks, any_track, header_fault, header_of, behind_header, contents}
use Rattle.fm_read.specs.FileForm.{AreChunks, IsHeader}
use Rattle.fm_read.specs.Kept.{joined_parts}
use Rattle.fm_read.specs.FaultForm.{cut_stop, NoBody}
use Rattle.fm_read.specs.FileFaultForm.{NoHeader, Passing, NoChunk, headed, NoFile}
use Rattle.fm_read.specs.FileFaultForm.NoHeader.{wrapped, not_midi, no_length, short_header, format_two, bad_format, smpte, cut_header}
use Rattle.fm_read.specs.FileFaultForm.NoChunk.{no_head, past_end, passing_track, in_passing_track, in_track}
use Rattle.fm_read.specs.FileFaultForm.NoFile.{no_header, no_chunk, no_track}
use Rattle.fm_read.proofs.EndsLemmas.{ends_shorter, ends_rest}
use Rattle.fm_read.proofs.ChunkLemmas.{chunk_ends, chunk_again, chunks_joined}
use Rattle.fm_read.proofs.FileFormTook.{wide_within, kind_within, chunk_took, chunks_took_from, header_took}
use Rattle.fm_read.proofs.FaultFails.{step_fails, stopped, stop_is, fell}
use Rattle.fm_read.proofs.FaultTrack.{body_fails, no_body_read}

-- ---- the header

-- a test of a chain stopped, or the chain goes on
chain : {P : Type 0} (b : Bool) (t s : Stop) (more : Option Stop) → cond b (Some t) more ≡ Some s → (b ≡ true → t ≡ s → P) →
    (b ≡ false → more ≡ Some s → P) → P
chain true t s more is f g = f refl cc
chain false t s more is f g = g refl is

negated : (b : Bool) → not b ≡ false → b ≡ true
negated true is = refl
negated false is = absurd cc

affirmed : (b : Bool) → not b ≡ true → b ≡ false
affirmed true is = absurd cc
affirmed false is = refl

both : (a b : Bool) → (a && b) ≡ true → (a ≡ true) × (b ≡ true)
both true b is = (refl, is)
both false b is = absurd cc

second : (a b : Bool) → (a && b) ≡ false → a ≡ true → b ≡ false
second true b is first = is
second false b is first = absurd cc

below_two : (n : ℕ) → nat_eq n 2 ≡ false → ltb 2 n ≡ false → n < 2
below_two n other low = let most : n ≤ 2 = ltb-false _ _ low in grind (arith, nat_tests)

below_half : (n : ℕ) → leb 32768 n ≡ false → n < 32768
below_half n high = grind (arith, nat_tests)

at_least : (m n : ℕ) → leb m n ≡ true → m ≤ n
at_least m n is = grind (arith, nat_tests)

under : (m n : ℕ) → ltb m n ≡ true → m < n
under m n is = grind (arith, nat_tests)

same_number : (m n : ℕ) → nat_eq m n ≡ true → m ≡ n
same_number m n is = grind (arith, nat_tests)

pub header_fails : (bytes : List ℕ) (s : Stop) → header_fault bytes ≡ Some s → NoHeader bytes s
header_fails bytes s is =
    chain (has_kind (codes "RIFF") bytes) _ s _ is
    (λ a same. wrapped a (sym same))
    (λ a b. chain (not (has_kind (codes "MThd") bytes)) _ s _ b
    (λ kind same. not_midi a (affirmed _ kind) (sym same))
    (λ kind d. let midi = negated _ kind in
    chain (ltb (length bytes) 8) _ s _ d
    (λ few same. no_length midi (under _ _ few) (sym same))
    (λ few e. let eight : 8 ≤ length bytes = ltb-false _ _ few in
    chain (ltb (wide_at 4 bytes) 6) _ s _ e
    (λ short same. short_header midi eight (under _ _ short) (sym same))
    (λ short f. let six : 6 ≤ wide_at 4 bytes = ltb-false _ _ short in
    chain (leb 10 (length bytes) && nat_eq (short_at 8 bytes) 2) _ s _ f
    (λ two same. let t = both _ _ two in format_two midi six (at_least _ _ t.0) (same_number _ _ t.1) (sym same))
    (λ two g. chain (leb 10 (length bytes) && ltb 2 (short_at 8 bytes)) _ s _ g
    (λ more same. let t = both _ _ more in bad_format midi six (at_least _ _ t.0) (under _ _ t.1) (sym same))
    (λ more h.
    let known : 10 ≤ length bytes → short_at 8 bytes < 2 =
    λ ten. below_two (short_at 8 bytes) (second _ _ two (le-leb _ _ ten)) (second _ _ more (le-leb _ _ ten)) in
    chain (leb 14 (length bytes) && leb 32768 (short_at 12 bytes)) _ s _ h
    (λ frames same. let t = both _ _ frames in
    let long : 14 ≤ length bytes = at_least _ _ t.0 in
    smpte midi six long (known (omega arith)) (at_least _ _ t.1) (sym same))
    (λ frames i. chain (ltb (length bytes) (8 + wide_at 4 bytes)) _ s None i
    (λ past same. cut_header midi eight six (under _ _ past) known
    (λ long. below_half (short_at 12 bytes) (second _ _ frames (le-leb _ _ long))) (sym same))
    (λ past wrong. absurd cc))))))))

-- ---- chunks

-- a track's body without a fault has none
no_fault : (body : List ℕ) (es : List Pair) → entries None body ≡ Ok es → (t : Stop) → NoBody None body t → t.left ≡ 0
no_fault body es is t fault = absurd (cc (sym is ∙ no_body_read None body t fault))

body_of_chunk : (flag is_cut : Bool) (body : List ℕ) (n : ℕ) (s : Stop) (P : Type 0) → chunk_fault flag is_cut body n ≡ Err s →
    (flag ≡ false → is_cut ≡ true → s ≡ cut_stop → P) →
    (flag ≡ true → is_cut ≡ true → ((t : Stop) → NoBody None body t → t.left ≡ 0) → s ≡ cut_stop → P) →
    (flag ≡ true → is_cut ≡ true → NoBody None body s → 0 < s.left → P) →
    (flag ≡ true → is_cut ≡ false → (t : Stop) → NoBody None body t → s ≡ record { kind = t.kind; left = t.left + n } → P) → P
unfolding chunk_fault
body_of_chunk false true body n s P e other none early whole = other refl refl (sym (stop_is {A = Unit {0}} cut_stop s e))
body_of_chunk false false body n s P e other none early whole = absurd cc
body_of_chunk true is_cut body n s P e other none early whole = by_read is_cut (entries None body) refl refl e
  where
    by_read : (c : Bool) (r : Read (List Pair)) → is_cut ≡ c → entries None body ≡ r → body_from c n r ≡ Err s → P
    by_read false (Ok es) cut_is is same = absurd cc
    by_read false (Err t) cut_is is same = whole refl cut_is t (body_fails None body t is) (sym (stop_is {A = Unit {0}} _ s same))
    by_read true (Ok es) cut_is is same = none refl cut_is (no_fault body es is) (sym (stop_is {A = Unit {0}} cut_stop s same))
    by_read true (Err t) cut_is is same =
        fell (nat_eq t.left 0) cut (Err t) s same
        (λ end stops.
        let at_end : t.left ≡ 0 = same_number _ _ end in
        none refl cut_is (λ u fault.
        let one : t ≡ u = stop_is {A = List Pair} t u (sym is ∙ no_body_read None body u fault) in ap (λ z. z.left) (sym one) ∙ at_end)
        (sym (stop_is {A = Unit {0}} cut_stop s stops)))
        (λ end stops.
        let one : t ≡ s = stop_is {A = Unit {0}} t s stops in
        let some : 0 < t.left = grind (arith, nat_tests) in
        early refl cut_is (subst (NoBody None body) one (body_fails None body t is)) (subst (λ z. 0 < z.left) one some))

chunk_stops : (head body rest : List ℕ) (r : Read (Unit {0})) (s : Stop) → chunk_of head body rest r ≡ Err s → r ≡ Err s
chunk_stops head body rest (Ok u) s e = absurd cc
chunk_stops head body rest (Err t) s e = ap stopped (stop_is {A = Part × List ℕ} t s e)

-- a chunk that passes the end
is_passing : (bytes : List ℕ) → 8 ≤ length bytes → passes bytes ≡ true → Passing bytes (take 8 bytes) (held bytes)
is_passing bytes long past =
    let few : length (drop 8 bytes) < wide_at 4 bytes = under _ _ past in
    let all : held bytes ≡ drop 8 bytes = take_all (wide_at 4 bytes) (drop 8 bytes) (omega arith) in
    let count : wide_at 4 (take 8 bytes) ≡ wide_at 4 bytes = wide_within 4 8 bytes (omega arith) in
    record {
      parts = sym (take-append-drop 8 bytes) ∙ ap (λ (z : List ℕ). take 8 bytes ++ z) (sym all);
      eight = omega (arith, length-take 8 bytes);
      past = omega (arith, count, ap length all);
    }

pub chunk_fails : (bytes : List ℕ) (s : Stop) → read_chunk bytes ≡ Err s → NoChunk bytes s
unfolding read_chunk
chunk_fails bytes s e =
    fell (ltb (length bytes) 8) _ _ s e
    (λ short stops. no_head (under _ _ short) (sym (stop_is {A = Part × List ℕ} cut_stop s stops)))
    (λ short more.
    let long : 8 ≤ length bytes = ltb-false _ _ short in
    let kind : has_kind (codes "MTrk") (take 8 bytes) ≡ has_kind (codes "MTrk") bytes =
    kind_within (codes "MTrk") bytes 8 (omega arith) (omega arith) in
    body_of_chunk (has_kind (codes "MTrk") bytes) (passes bytes) (held bytes) (length (past_chunk bytes)) s (NoChunk bytes s)
    (chunk_stops (take 8 bytes) (held bytes) (past_chunk bytes) _ s more)
    (λ flag past same. past_end (take 8 bytes) (held bytes) (is_passing bytes long past) (kind ∙ flag) same)
    (λ flag past none same. passing_track (take 8 bytes) (held bytes) (is_passing bytes long past) (kind ∙ flag) none same)
    (λ flag past fault some. in_passing_track (take 8 bytes) (held bytes) (is_passing bytes long past) (kind ∙ flag) fault some)
    (λ flag past t fault same.
    let room : wide_at 4 bytes ≤ length (drop 8 bytes) = ltb-false _ _ past in
    let count : wide_at 4 (take 8 bytes) ≡ wide_at 4 bytes = wide_within 4 8 bytes (omega arith) in
    in_track (take 8 bytes) (held bytes) (past_chunk bytes) t
    (sym (append_assoc (take 8 bytes) (held bytes) (past_chunk bytes)
    ∙ ap (λ (z : List ℕ). take 8 bytes ++ z) (take-append-drop (wide_at 4 bytes) (drop 8 bytes)) ∙ take-append-drop 8 bytes))
    (omega (arith, length-take 8 bytes)) (omega (arith, length-take (wide_at 4 bytes) (drop 8 bytes), count)) (kind ∙ flag) fault same))

-- chunks, and then none
pub record Stopped (bytes : List ℕ) (s : Stop) : Type 0 where
  pub parts : List Part
  pub rest : List ℕ
  pub joined : bytes ≡ joined_parts parts ++ rest
  pub are : AreChunks parts
  pub some : 0 < length rest
  pub fault : NoChunk rest s

chunks_fail_from : (k : ℕ) (bytes : List ℕ) (s : Stop) → k ≤ length bytes → chunks_from k bytes ≡ Err s → Stopped (drop k bytes) s
unfolding chunks_from
chunks_fail_from zero [] s few e = absurd cc
chunks_fail_from (suc k) [] s few e = absurd (omega arith)
chunks_fail_from (suc k) (byte ∷ rest) s few e = chunks_fail_from k rest s (omega arith) e
chunks_fail_from zero (byte ∷ rest) s few e =
    step_fails (read_chunk (byte ∷ rest)) (λ x. chunks_from (length rest - length x.1) rest >>= λ more. Ok (x.0 ∷ more)) s e
    (λ stops. record {
      parts = [];
      rest = byte ∷ rest;
      joined = refl;
      are = tt;
      some = omega arith;
      fault =
          chunk_fails (byte ∷ rest) s stops;
    })
    (λ x is more. step_fails (chunks_from (length rest - length x.1) rest) (λ more. Ok (x.0 ∷ more)) s more
    (λ stops.
    let ends = chunk_ends (byte ∷ rest) x is in
    let shorter : length x.1 < length (byte ∷ rest) = ends_shorter _ _ ends in
    let count : length (byte ∷ rest) - length x.1 ≡ suc (length rest - length x.1) = omega arith in
    let same : drop (length rest - length x.1) rest ≡ x.1 =
    ap (λ n. drop n (byte ∷ rest)) (sym count) ∙ ends_rest (byte ∷ rest) x.1 ends in
    let later : Stopped x.1 s = subst (λ (z : List ℕ). Stopped z s) same
    (chunks_fail_from (length rest - length x.1) rest s (omega arith) stops) in
    record {
      parts = x.0 ∷ later.parts;
      rest = later.rest;
      joined = sym (chunk_again (byte ∷ rest) x is) ∙ ap (λ (z : List ℕ). (x.0.head ++ x.0.body) ++ z) later.joined
          ∙ sym (append_assoc (x.0.head ++ x.0.body) (joined_parts later.parts) later.rest);
      are = (chunk_took (byte ∷ rest) x is, later.are);
      some = later.some;
      fault = later.fault;
    })
    (λ ps there wrong. absurd cc))

-- ---- a file

-- the header chunk alone
headed_took : (bytes : List ℕ) → header_fault bytes ≡ None → IsHeader (headed (header_of bytes))
headed_took bytes none =
    let h = header_took bytes [] none in
    record {
      kind = h.kind;
      six = h.six;
      whole = h.whole;
      format = refl;
      stated = refl;
      division = refl;
      known = subst (λ n. n < 2) h.format h.known;
      ticks = subst (λ n. n < 32768) h.division h.ticks;
    }

pub file_fails : (bytes : List ℕ) (s : Stop) → contents bytes ≡ Err s → NoFile bytes s
unfolding contents
file_fails bytes s e = by_fault (header_fault bytes) refl
  where
    whole : (ps : List Part) → Contents
    whole ps = record {
      head = header_of bytes;
      format = short_at 8 bytes;
      stated = short_at 10 bytes;
      division = short_at 12 bytes;
      parts = ps;
    }

    by_chunks : header_fault bytes ≡ None → (r : Read (List Part)) → chunks (behind_header bytes) ≡ r →
        ((r >>= λ parts. cond (any_track parts) (Ok parts) (stop NoTrack 0)) >>= λ parts. Ok (whole parts)) ≡ Err s → NoFile bytes s
    by_chunks none (Err t) is same =
        let one : t ≡ s = stop_is {A = Contents} t s same in
        let found = chunks_fail_from 0 (behind_header bytes) t (omega arith) is in
        no_chunk (header_of bytes) found.parts found.rest
        (sym (take-append-drop _ bytes) ∙ ap (λ (z : List ℕ). header_of bytes ++ z) found.joined)
        (headed_took bytes none) found.are found.some (subst (NoChunk found.rest) one found.fault)
    by_chunks none (Ok ps) is same = by_track (any_track ps) refl same
      where
        by_track : (b : Bool) → any_track ps ≡ b → ((cond b (Ok ps) (stop NoTrack 0)) >>= λ parts. Ok (whole parts)) ≡ Err s →
            NoFile bytes s
        by_track true some same2 = absurd cc
        by_track false some same2 =
            no_track (header_of bytes) ps
            (sym (take-append-drop _ bytes) ∙ ap (λ (z : List ℕ). header_of bytes ++ z) (sym (chunks_joined (behind_header bytes) ps is)))
            (headed_took bytes none) (chunks_took_from 0 (behind_header bytes) ps is) some (sym (stop_is {A = Contents} _ s same2))

    by_fault : (o : Option Stop) → header_fault bytes ≡ o → NoFile bytes s
    by_fault (Some t) is =
        let one : t ≡ s = stop_is {A = Contents} t s (rw is at e) in
        no_header (header_fails bytes s (is ∙ ap Some one))
    by_fault None is = by_chunks is (chunks (behind_header bytes)) refl (rw is at e)
