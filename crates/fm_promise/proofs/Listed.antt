-- The second walk and the grammar, on the lists of a text.
use Rattle.std.proofs.Common.{◌≡◌, ℕ, ◌<◌, ◌≤◌, true, List, [], ◌∷◌, ◌++◌, length}
use Rattle.std.specs.Prelude.{nat_lt, nat_le}
use Rattle.std.specs.List.{AllByRecursion}
use Rattle.std.proofs.lemmas.Bool.{and_from, lt-ltb, le-leb}
use Rattle.fm_warp.specs.declared.warp.TheConstants.{MAX_PARTS}
use Rattle.fm_pattern.specs.declared.cursor.TheConstants.{MAX_ENTRIES}
use Rattle.fm_grammar.specs.declared.number.Number.{Number}
use Rattle.fm_grammar.specs.Score as text
use Rattle.fm_meaning.specs.Rules.{most_rounds, most_data, most_channel, most_gate, most_pitches}
use Rattle.fm_meaning.specs.Ranges.{Names, number_faults, numbers_faults, each_faults, length_faults, length_spot, expr_faults, duration_faults, pitch_faults, pitch_spot, pitches_faults, unknown_faults, double_faults, part_faults, part_length, stmt_faults, body_faults, branches_faults, entries_faults}
use Rattle.fm_promise.specs.Kept.{has_some_to}
use Rattle.fm_promise.specs.Lists.{ListsKept, ListsKeptIn, ListsKeptAmong, EntryListsKept}
use Rattle.fm_promise.proofs.Formed.{Formed, FormedIn, FormedAmong, EntryFormed}
use Rattle.fm_promise.proofs.Fair.{none_both, each_fair}

-- entries that are some and not too many
some_kept : {A : Type 0} (most : ℕ) (xs : List A) → 0 < length xs → length xs ≤ most → has_some_to most xs ≡ true
some_kept most xs some few =
    and_from (nat_lt 0 (length xs)) (nat_le (length xs) most) (lt-ltb 0 (length xs) some) (le-leb (length xs) most few)

-- the pitches of a note
pitches_kept : (ps : List text.Pitch) → 0 < length ps → pitches_faults ps ≡ [] → has_some_to most_pitches ps ≡ true
pitches_kept ps some none = some_kept most_pitches ps some (each_fair pitch_faults pitch_spot most_pitches ps none).0

mutual
  -- a statement without a fault
  lists_kept : (k : Names) (s : text.Stmt) → Formed s → stmt_faults k s ≡ [] → ListsKept s
  lists_kept k (text.note ps d) formed none =
      pitches_kept ps formed.0.0 (none_both (pitches_faults ps) (duration_faults k.whole d) none).0
  lists_kept k (text.play ps) formed none = pitches_kept ps formed.0 none
  lists_kept k (text.rest d) formed none = tt
  lists_kept k text.skip formed none = tt
  lists_kept k (text.control c a) formed none = tt
  lists_kept k (text.program a) formed none = tt
  lists_kept k (text.bend a) formed none = tt
  lists_kept k (text.set r e) formed none = tt
  lists_kept k (text.choice e first second) formed none =
      let both = none_both (expr_faults e ++ body_faults k first) (body_faults k second) none in
      (lists_kept_in k first formed.1 (none_both (expr_faults e) (body_faults k first) both.0).1, lists_kept_in k second formed.2 both.1)
  lists_kept k (text.repeat n body) formed none =
      lists_kept_in k body formed (none_both (number_faults 0 most_rounds n) (body_faults k body) none).1
  lists_kept k (text.again e most body) formed none =
      lists_kept_in k body formed.1 (none_both (expr_faults e ++ number_faults 0 most_rounds most) (body_faults k body) none).1
  lists_kept k (text.call name) formed none = tt
  lists_kept k (text.par branches) formed none = lists_kept_among k branches formed.1 none
  lists_kept k (text.warp name body) formed none =
      lists_kept_in k body formed (none_both (unknown_faults name k.shapes) (body_faults k body) none).1
  lists_kept k (text.channel n body) formed none =
      lists_kept_in k body formed (none_both (number_faults 0 most_channel n) (body_faults k body) none).1
  lists_kept k (text.volume n body) formed none =
      lists_kept_in k body formed (none_both (number_faults 1 most_data n) (body_faults k body) none).1
  lists_kept k (text.gate n body) formed none =
      lists_kept_in k body formed (none_both (number_faults 0 most_gate n) (body_faults k body) none).1
  lists_kept k (text.rhythm ls body) formed none =
      let both = none_both (each_faults (length_faults k.whole) length_spot MAX_ENTRIES ls) (body_faults k body) none in (
        some_kept MAX_ENTRIES ls formed.0 (each_fair (length_faults k.whole) length_spot MAX_ENTRIES ls both.0).0,
        lists_kept_in k body formed.1 both.1,
      )
  lists_kept k (text.artic ns body) formed none =
      let both = none_both (numbers_faults 0 most_gate ns) (body_faults k body) none in (
        some_kept MAX_ENTRIES ns formed.0 (each_fair (number_faults 0 most_gate) Number.spot MAX_ENTRIES ns both.0).0,
        lists_kept_in k body formed.1 both.1,
      )
  lists_kept k (text.loud ns body) formed none =
      let both = none_both (numbers_faults 1 most_data ns) (body_faults k body) none in (
        some_kept MAX_ENTRIES ns formed.0 (each_fair (number_faults 1 most_data) Number.spot MAX_ENTRIES ns both.0).0,
        lists_kept_in k body formed.1 both.1,
      )

  -- the statements of a block
  lists_kept_in : (k : Names) (b : text.Body) → FormedIn b → body_faults k b ≡ [] → ListsKeptIn b
  lists_kept_in k text.done formed none = tt
  lists_kept_in k (text.then spot s body) formed none =
      let both = none_both (stmt_faults k s) (body_faults k body) none in
      (lists_kept k s formed.0 both.0, lists_kept_in k body formed.1 both.1)

  -- the branches of a fork
  lists_kept_among : (k : Names) (bs : text.Branches) → FormedAmong bs → branches_faults k bs ≡ [] → ListsKeptAmong bs
  lists_kept_among k text.none formed none = tt
  lists_kept_among k (text.branch body bs) formed none =
      let both = none_both (body_faults k body) (branches_faults k bs) none in
      (lists_kept_in k body formed.0 both.0, lists_kept_among k bs formed.1 both.1)

-- the entries of a score
pub entries_listed : (k : Names) (es : List text.Entry) → AllByRecursion EntryFormed es → entries_faults k es ≡ []
    → AllByRecursion EntryListsKept es
entries_listed k [] formed none = tt
entries_listed k (text.shape name parts ∷ es) formed none =
    let names : Names = record k { shapes = name.text ∷ k.shapes } in (
      tt,
      entries_listed names es formed.1
          (none_both (double_faults name k ++ each_faults (part_faults k.whole) (λ p. length_spot (part_length p)) MAX_PARTS parts)
          (entries_faults names es) none).1,
    )
entries_listed k (text.phrase name body ∷ es) formed none =
    let names : Names = record k { phrases = name.text ∷ k.phrases } in
    let both = none_both (double_faults name k ++ body_faults k body) (entries_faults names es) none in (
      lists_kept_in k body formed.0 (none_both (double_faults name k) (body_faults k body) both.0).1,
      entries_listed names es formed.1 both.1,
    )
entries_listed k (text.plays spot s ∷ es) formed none =
    let both = none_both (stmt_faults k s) (entries_faults k es) none in
    (lists_kept k s formed.0 both.0, entries_listed k es formed.1 both.1)
