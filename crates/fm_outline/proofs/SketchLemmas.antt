-- The outline of a score, one entry after another.
use Rattle.std.proofs.Common.{◌≡◌, ℕ, suc, ◌+◌, ◌<◌, ◌≤◌, List, [], ◌∷◌, map, drop, length, get_or, ap, sym, ◌∙◌, add-one, drop_of_length-le, append-nil, append_assoc, subst}
use Rattle.std.proofs.Math.Seq.{drop-cons}
use Rattle.fm_lex.specs.declared.spot.Spot.{Spot}
use Rattle.fm_grammar.specs.declared.entry.Entry.{Entry}
use Rattle.fm_grammar.specs.Score as text
use Rattle.fm_grammar.specs.View.{entry_view}
use Rattle.fm_meaning.specs.Faults.{first_found}
use Rattle.fm_meaning.specs.Ranges.{second_walk}
use Rattle.fm_rules.specs.declared.why.Why.{Why}
use Rattle.fm_outline.specs.declared.outliner.Outliner.{Outliner}
use Rattle.fm_outline.specs.declared.sketch.Sketch.{Sketch}
use Rattle.fm_outline.specs.Outlining.{IsEntered, SoFar}
use Rattle.fm_outline.specs.Walked.{Walked, EntryRefused}
use Rattle.fm_outline.specs.Sketched.{Outlines, BeginsFaulty, with_entries, with_entry}

-- no entry more
pub with_none : (s : text.Score) → with_entries s [] ≡ s
with_none s = ap (λ es. let t : text.Score = record s { entries = es } in t) (append-nil s.entries)

-- an entry and those behind it
pub with_behind : (s : text.Score) (e : text.Entry) (rest : List text.Entry)
    → with_entries (with_entry s e) rest ≡ with_entries s (e ∷ rest)
with_behind s e rest = ap (λ es. let t : text.Score = record s { entries = es } in t) (append_assoc s.entries (e ∷ []) rest)

-- ---- one entry

module _ {sketch : Sketch} {s : text.Score} where
  -- an entry with a fault
  pub entry_faulty : {e : text.Entry} (spot : Spot) (why : Why) → EntryRefused sketch.walk e spot why → Outlines sketch s
      → BeginsFaulty (with_entry s e) spot why
  entry_faulty {e} spot why told o rest =
      ap (λ x. first_found (second_walk x)) (with_behind s e rest)
      ∙ told (with_entries s (e ∷ rest)) rest (o.walked (e ∷ rest))

  -- no entry follows
  pub ends_walked : Outlines sketch s → Walked s sketch.walk []
  ends_walked o = subst (λ x. Walked x sketch.walk []) (with_none s) (o.walked [])

-- ---- a whole score

-- of the score all was reported but these entries
pub record ToldBefore (o : Outliner) (score : text.Score) (left : List text.Entry) : Type 0 where
  pub part : text.Score
  pub so_far : SoFar o part
  pub whole : with_entries part left ≡ score

module _ {o : Outliner} {score : text.Score} where
  -- the next one is reported
  pub next_told : (es : List Entry) (i : ℕ) (e : Entry) (p : Outliner) → i < length es → e ≡ get_or es i e
      → ToldBefore o score (map entry_view (drop i es)) → IsEntered o (entry_view e) p
      → ToldBefore p score (map entry_view (drop (i + 1) es))
  next_told es i e p within is r enters =
      let left : map entry_view (drop i es) ≡ entry_view e ∷ map entry_view (drop (i + 1) es)
      = ap (map entry_view) (drop-cons es i e within)
      ∙ ap (λ x. entry_view x ∷ map entry_view (drop (suc i) es)) (sym is)
      ∙ ap (λ n. entry_view e ∷ map entry_view (drop n es)) (sym (add-one i)) in
      record {
        part = with_entry r.part (entry_view e);
        so_far = enters r.part r.so_far;
        whole =
            with_behind r.part (entry_view e) (map entry_view (drop (i + 1) es))
            ∙ ap (with_entries r.part) (sym left) ∙ r.whole;
      }

  -- no entry is left
  pub all_told : (es : List Entry) (i : ℕ) → length es ≤ i → ToldBefore o score (map entry_view (drop i es)) → SoFar o score
  all_told es i past r =
      subst (SoFar o)
      (sym (with_none r.part) ∙ ap (λ l. with_entries r.part (map entry_view l)) (sym (drop_of_length-le es past)) ∙ r.whole)
      r.so_far
