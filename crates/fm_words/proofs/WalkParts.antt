-- Parts as clap's rows, and what is pending between two words.
use Rattle.std.proofs.Common.{◌≡◌, ◌∙◌, ◌&&◌, ◌||◌, ℕ, Bool, true, false, not, List, [], ◌∷◌, ◌++◌, Some, refl, sym, ap, codes}
use Rattle.std.specs.Str.{bytes_eq}
use Rattle.std.proofs.lemmas.List.Folds.{list_any-append}
use Rattle.std.proofs.lemmas.Slice.Eq.{bytes_eq-Decides}
use Rattle.clap.specs.Faults.{settle_fault}
use Rattle.clap.specs.Walk.{Row, Text, has_row, settled_rows}
use Rattle.fm_words.specs.Rules.{Choice, Part, Takes, Word, file, flag, is_seen, number, stray, unvalued, valued}
use Rattle.fm_words.specs.Settings.{has_fault}
use Rattle.fm_words.proofs.TableLemmas.{or_false, rules_for}
use Rattle.fm_words.proofs.UseLemmas.{IsKnown, by_id, flag_row, number_fault, number_lacks, number_used, source_fault, source_used, target_fault, target_used, text_row}
use Rattle.fm_words.proofs.WalkSteps.{Pending, held_with}
use Rattle.fm_words.proofs.WalkViews.{Place, first, past, second}

-- ---- parts in form, from left to right

-- behind one more file
abbrev pub next_place : Place → Place
next_place first = second
next_place second = past
next_place past = past

-- whether one more may come
abbrev pub has_place : Place → Bool
has_place past = false
has_place _ = true

-- parts that clap passes, where some options were seen before
abbrev pub passes : Place → List Word → List Part → Bool
passes place seen [] = true
passes place seen (file word ∷ parts) = has_place place && passes (next_place place) seen parts
passes place seen (flag name ∷ parts) = not (is_seen name seen) && passes place (name ∷ seen) parts
passes place seen (valued name text ∷ parts) = not (is_seen name seen) && passes place (name ∷ seen) parts
passes place seen (unvalued name ∷ parts) = false
passes place seen (stray word ∷ parts) = false

-- the name of a file by its place
abbrev pub id_at : Place → Text
id_at first = codes "IN"
id_at _ = codes "OUT"

-- the rows of parts
abbrev pub rows_for : Place → List Part → List Row
rows_for place [] = []
rows_for place (file word ∷ parts) = text_row (id_at place) word ∷ rows_for (next_place place) parts
rows_for place (flag name ∷ parts) = flag_row name ∷ rows_for place parts
rows_for place (valued name text ∷ parts) = text_row name text ∷ rows_for place parts
rows_for place (part ∷ parts) = rows_for place parts

-- ---- what the rows so far have

-- the files to come have no row
abbrev pub IsFree : Place → List Row → Type 0
IsFree first rows = (has_row (codes "IN") rows ≡ false) × (has_row (codes "OUT") rows ≡ false)
IsFree second rows = has_row (codes "OUT") rows ≡ false
IsFree past rows = Unit {0}

-- the rows have the options that were seen, and no file that is to come
pub record Stands (table : List Choice) (seen : List Word) (place : Place) (rows : List Row) : Type 0 where
  pub options : (name : Word) (takes : Takes) → IsKnown table name takes → has_row name rows ≡ is_seen name seen
  pub free : IsFree place rows

-- texts differ both ways
pub other_way : (xs ys : Text) → bytes_eq xs ys ≡ false → bytes_eq ys xs ≡ false
other_way xs ys apart = go (bytes_eq ys xs) refl
  where
    go : (b : Bool) → bytes_eq ys xs ≡ b → bytes_eq ys xs ≡ false
    go false is = is
    go true is = cc ((bytes_eq-Decides xs ys).1 (sym ((bytes_eq-Decides ys xs).0 is)))

-- one row more
has_row_more : (name : Text) (rows : List Row) (row : Row) → has_row name (rows ++ row ∷ []) ≡ (has_row name rows || bytes_eq row.id name)
has_row_more name rows row = list_any-append (λ (r : Row). bytes_eq r.id name) rows (row ∷ [])
    ∙ ap (λ b. has_row name rows || b) (or_false (bytes_eq row.id name))

still_none : (name : Text) (rows : List Row) (row : Row) → has_row name rows ≡ false → bytes_eq row.id name ≡ false
    → has_row name (rows ++ row ∷ []) ≡ false
still_none name rows row none other = has_row_more name rows row ∙ rw (none, other) refl

or_swapped : (a b : Bool) → (a || b) ≡ (b || a)
or_swapped true true = refl
or_swapped true false = refl
or_swapped false true = refl
or_swapped false false = refl

module _ (table : List Choice) where
  -- a row that is no option leaves the options as they are
  pub options_kept : (seen : List Word) (rows : List Row) (row : Row) → ((name : Word) (takes : Takes) → IsKnown table name takes
      → has_row name rows ≡ is_seen name seen)
      → ((name : Word) (takes : Takes) → IsKnown table name takes → bytes_eq row.id name ≡ false)
      → (name : Word) (takes : Takes) → IsKnown table name takes → has_row name (rows ++ row ∷ []) ≡ is_seen name seen
  options_kept seen rows row same other name takes known = has_row_more name rows row
      ∙ rw (other name takes known) (or_false _ ∙ same name takes known)

  -- behind the first file
  pub source_stands : (seen : List Word) (rows : List Row) (word : Word) → Stands table seen first rows
      → Stands table seen second (rows ++ text_row (codes "IN") word ∷ [])
  source_stands seen rows word stands = record {
    options = options_kept seen rows (text_row (codes "IN") word) stands.options (λ name takes known. known.no_source);
    free = still_none (codes "OUT") rows (text_row (codes "IN") word) stands.free.1 refl;
  }

  -- behind the second
  pub target_stands : (seen : List Word) (rows : List Row) (word : Word) → Stands table seen second rows
      → Stands table seen past (rows ++ text_row (codes "OUT") word ∷ [])
  target_stands seen rows word stands = record {
    options = options_kept seen rows (text_row (codes "OUT") word) stands.options (λ name takes known. known.no_target);
    free = tt;
  }

  -- behind an option
  pub option_stands : (seen : List Word) (place : Place) (rows : List Row) (row : Row) (takes : Takes) → IsKnown table row.id takes
      → Stands table seen place rows → Stands table (row.id ∷ seen) place (rows ++ row ∷ [])
  option_stands seen place rows row takes known stands = record {
    options = λ name other other_known. has_row_more name rows row ∙ or_swapped (has_row name rows) (bytes_eq row.id name)
        ∙ ap (λ b. bytes_eq row.id name || b) (stands.options name other other_known);
    free = freed place stands.free;
  }
    where
      freed : (place : Place) → IsFree place rows → IsFree place (rows ++ row ∷ [])
      freed first free = (
        still_none (codes "IN") rows row free.0 (other_way (codes "IN") row.id known.no_source),
        still_none
            (codes "OUT") rows row free.1 (other_way (codes "OUT") row.id known.no_target),
      )
      freed second free = still_none (codes "OUT") rows row free (other_way (codes "OUT") row.id known.no_target)
      freed past free = tt

  -- ---- what is pending settles, to these rows

  -- it has no fault, and gives these rows
  pub record Settles (rows : List Row) (pending : Pending) (settled : List Row) : Type 0 where
    pub none : settle_fault (rules_for table) false (held_with rows pending) ≡ []
    pub are : settled_rows (rules_for table) pending rows ≡ settled

  -- the first file
  pub source_settles : (rows : List Row) (word : Word) → has_row (codes "IN") rows ≡ false
      → Settles rows (Some (codes "IN", word ∷ [])) (rows ++ text_row (codes "IN") word ∷ [])
  source_settles rows word free = record { none = (source_fault word rows).0 free; are = source_used word rows free }

  -- the second
  pub target_settles : (rows : List Row) (word : Word) → has_row (codes "OUT") rows ≡ false
      → Settles rows (Some (codes "OUT", word ∷ [])) (rows ++ text_row (codes "OUT") word ∷ [])
  target_settles rows word free = record { none = (target_fault word rows).0 free; are = target_used word rows free }

  -- the number of an option that was not seen
  pub value_settles : (rows : List Row) (name word : Word) (low high : ℕ) → IsKnown table name (number low high) → has_row name rows ≡ false
      → Settles rows (Some (name, word ∷ [])) (rows ++ text_row name word ∷ [])
  value_settles rows name word low high known free = record {
    none = rw (by_id table name (number low high) known) ((number_fault name word low high rows).0 free);
    are = rw (by_id table name (number low high) known) (number_used name word low high rows free);
  }

  -- one that was seen has a fault
  pub value_repeats : (rows : List Row) (name word : Word) (low high : ℕ) → IsKnown table name (number low high) → has_row name rows ≡ true
      → has_fault (settle_fault (rules_for table) false (held_with rows (Some (name, word ∷ [])))) ≡ true
  value_repeats rows name word low high known again = rw (by_id table name (number low high) known)
      ((number_fault name word low high rows).1 again)

  -- an option without its number has one
  pub value_lacks : (rows : List Row) (name : Word) (low high : ℕ) → IsKnown table name (number low high)
      → has_fault (settle_fault (rules_for table) false (held_with rows (Some (name, [])))) ≡ true
  value_lacks rows name low high known = rw (by_id table name (number low high) known) (number_lacks name low high rows)
