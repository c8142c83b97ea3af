-- Clap's walk at the command of a table passes exactly the words whose parts are in form, and has
-- their rows at its end.
use Rattle.std.proofs.Common.{◌≡◌, ◌∙◌, ◌&&◌, ℕ, Bool, true, false, not, List, [], ◌∷◌, ◌++◌, map, Some, None, refl, sym, ap, ap₂, subst, codes, if◌then◌else◌, append_assoc, append-nil}
use Rattle.std.specs.List.{All}
use Rattle.std.specs.Str.{IsUtf8, bytes_eq}
use Rattle.clap.specs.Faults.{settle_fault, use_fault, walk_fault}
use Rattle.clap.specs.Kinds.{Kinds, or_else}
use Rattle.clap.specs.Walk.{Held, Row, Walk, has_row, idle, option, settled_rows, used}
use Rattle.fm_words.specs.Rules.{Choice, Part, Word, awaits, file, flag, is_dashed, is_seen, is_table, nothing, number, parts_after, reading, stray, unvalued, valued, whole}
use Rattle.fm_words.proofs.TableLemmas.{option_rule, rules_for}
use Rattle.fm_words.proofs.UseLemmas.{IsKnown, choice_with, flag_fault, flag_row, flag_used, number_fault, number_used, text_row}
use Rattle.fm_words.proofs.WalkSteps.{Comes, Fails, Pending, attached_to_flag, awaits_turn, awaits_walked, before, behind, dashes_turn, dashes_walked, fails_at, flag_turn, flag_walked, goes_on, held_with, or_else_first, source_behind_turn, source_behind_walked, source_turn, source_walked, target_behind_turn, target_behind_walked, target_turn, target_walked, third_behind_turn, third_turn, value_turn, value_walked, valued_turn, valued_walked}
use Rattle.fm_words.proofs.WalkViews.{Place, View, dashes, first, first_of_all, flag_alone, flag_valued, idle_fails, number_alone, number_at, number_valued, past, plain, rest_of_all, second, unknown, view, waiting_fails}
use Rattle.fm_words.proofs.WordLemmas.{plain_word_is}
use Rattle.fm_words.proofs.WalkParts.{Settles, Stands, option_stands, passes, rows_for, source_settles, source_stands, target_settles, target_stands, value_lacks, value_repeats, value_settles}

module _ (table : List Choice) where
  -- ---- the parts of a word and of those behind it

  -- a word that is a part by itself
  pub parts_whole : (word : Word) (words : List Word) (part : Part) → bytes_eq word (codes "--") ≡ false → reading table word ≡ whole part
      → parts_after table None (word ∷ words) ≡ part ∷ parts_after table None words
  unfolding parts_after
  parts_whole word words part other is = rw (other, is) refl

  -- an option that waits for its number
  pub parts_await : (word : Word) (words : List Word) (name : Word) → bytes_eq word (codes "--") ≡ false → reading table word ≡ awaits name
      → parts_after table None (word ∷ words) ≡ parts_after table (Some name) words
  unfolding parts_after
  parts_await word words name other is = rw (other, is) refl

  -- ---- the induction

  -- the walk passes exactly where the parts do, and ends with these rows and those of the parts
  abbrev Reads : List Part → Place → List Word → Walk → List Word → List Row → Type 0
  Reads parts place seen w words rows = Comes table (passes place seen parts) w words (rows ++ rows_for place parts)

  read_as : (one other : List Part) (place : Place) (seen : List Word) (w : Walk) (words : List Word) (rows : List Row) → one ≡ other
      → Reads other place seen w words rows → Reads one place seen w words rows
  read_as one other place seen w words rows same reads = subst (λ (parts : List Part). Reads parts place seen w words rows) (sym same) reads

  row_moved : (passed : Bool) (w : Walk) (words : List Word) (rows more : List Row) (row : Row)
      → Comes table passed w words ((rows ++ row ∷ []) ++ more) → Comes table passed w words (rows ++ row ∷ more)
  row_moved passed w words rows more row comes = subst (λ (all : List Row). Comes table passed w words all)
      (append_assoc rows (row ∷ []) more) comes

  -- an option that stands for the first time, or once more
  once : (seen : List Word) (name : Word) (after : Bool) (w : Walk) (words : List Word) (rows : List Row)
      → (is_seen name seen ≡ false → Comes table after w words rows) → (is_seen name seen ≡ true → Fails table w words)
      → Comes table (not (is_seen name seen) && after) w words rows
  once seen name after w words rows new again = go (is_seen name seen) new again
    where
      go : (b : Bool) → (b ≡ false → Comes table after w words rows) → (b ≡ true → Fails table w words)
          → Comes table (not b && after) w words rows
      go true new again = again refl
      go false new again = new refl

  ends : (place : Place) (seen : List Word) (rows settled : List Row) (pending : Pending) (w : Walk) → w.held ≡ held_with rows pending
      → w.stopped ≡ None → Settles table rows pending settled → Reads [] place seen w [] settled
  unfolding walk_fault
  ends place seen rows settled pending w held stopped settles = record {
    walk = refl;
    settle = ap (settle_fault (rules_for table) false) held ∙ settles.none;
    found = ap (λ (h : Held). settled_rows (rules_for table) h.pending h.rows) held ∙ settles.are ∙ sym (append-nil settled);
    stopped = stopped;
  }

  -- behind `--`
  behind_reads : (words : List Word) (seen : List Word) (place : Place) (rows settled : List Row) (pending : Pending)
      → Settles table rows pending settled → Stands table seen place settled
      → Reads (map (λ w. file w) words) place seen (behind rows pending idle (number_at place)) words settled
  behind_reads [] seen place rows settled pending settles stands = ends place seen rows settled pending _ refl refl settles
  behind_reads (word ∷ words) seen first rows settled pending settles stands =
      goes_on table _ _ (behind settled (Some (codes "IN", word ∷ [])) idle 2) word words _
      (source_behind_turn table rows pending idle word ∙ settles.none)
      (source_behind_walked table rows pending idle word ∙ ap (λ (r : List Row). behind r
      (Some (codes "IN", word ∷ [])) idle 2) settles.are)
      (row_moved _ _ words settled _ (text_row (codes "IN") word)
      (behind_reads words seen second settled _ _ (source_settles table settled word stands.free.0)
      (source_stands table seen settled word stands)))
  behind_reads (word ∷ words) seen second rows settled pending settles stands =
      goes_on table _ _ (behind settled (Some (codes "OUT", word ∷ [])) idle 3) word words _
      (target_behind_turn table rows pending idle word ∙ settles.none)
      (target_behind_walked table rows pending idle word ∙ ap (λ (r : List Row). behind r
      (Some (codes "OUT", word ∷ [])) idle 3) settles.are)
      (row_moved _ _ words settled _ (text_row (codes "OUT") word)
      (behind_reads words seen past settled _ _ (target_settles table settled word stands.free)
      (target_stands table seen settled word stands)))
  behind_reads (word ∷ words) seen past rows settled pending settles stands = fails_at table _ word words
      (third_behind_turn table rows pending idle word)

  -- before it, where no option waits, and where one does
  abbrev Idle : List Word → Type 0
  Idle words = (seen : List Word) (place : Place) (rows settled : List Row) (pending : Pending) → Settles table rows pending settled
      → Stands table seen place settled
      → Reads (parts_after table None words) place seen (before rows pending idle (number_at place)) words settled

  abbrev Waits : List Word → Type 0
  Waits words = (seen : List Word) (place : Place) (rows : List Row) (name : Word) (low high : ℕ) → IsKnown table name (number low high)
      → Stands table seen place rows
      → Reads (parts_after table (Some name) words) place seen (before rows (Some (name, [])) (option name) (number_at place)) words rows

  -- a word that is a part by itself
  whole_read : (word : Word) (words : List Word) (part : Part) (seen : List Word) (place : Place) (rows settled : List Row)
      (pending : Pending) → bytes_eq word (codes "--") ≡ false → reading table word ≡ whole part
      → Reads (part ∷ parts_after table None words) place seen (before rows pending idle (number_at place)) (word ∷ words) settled
      → Reads (parts_after table None (word ∷ words)) place seen (before rows pending idle (number_at place)) (word ∷ words) settled
  whole_read word words part seen place rows settled pending other is reads = read_as _ _ place seen _ (word ∷ words) settled
      (parts_whole word words part other is) reads

  idle_view : (word : Word) (words : List Word) → is_table table ≡ true → All IsUtf8 words → Idle words → Waits words → View table word
      → Idle (word ∷ words)
  unfolding parts_after
  idle_view word words ok texts idles waits (dashes is) seen place rows settled pending settles stands =
      subst (λ (w : Word). Reads (parts_after table None (w ∷ words)) place seen (before rows pending idle (number_at place)) (w
      ∷ words) settled) (sym is)
      (goes_on table _ _ (behind rows pending idle (number_at place)) _ words _ (dashes_turn table rows pending (number_at place))
      (dashes_walked table rows pending (number_at place))
      (behind_reads words seen place rows settled pending settles stands))
  idle_view word words ok texts idles waits (plain looks not_dashed reads) seen first rows settled pending settles stands =
      whole_read word words (file word) seen first rows settled pending looks.dashes reads
      (goes_on table _ _ (before settled (Some (codes "IN", word ∷ [])) idle 2) word words _ (source_turn table rows pending word looks
      ∙ settles.none)
      (source_walked table rows pending word looks ∙ ap (λ (r : List Row). before r (Some (codes "IN", word ∷ [])) idle 2) settles.are)
      (row_moved _ _ words settled _ (text_row (codes "IN") word)
      (idles seen second settled _ _ (source_settles table settled word stands.free.0) (source_stands table seen settled word stands))))
  idle_view word words ok texts idles waits (plain looks not_dashed reads) seen second rows settled pending settles stands =
      whole_read word words (file word) seen second rows settled pending looks.dashes reads
      (goes_on table _ _ (before settled (Some (codes "OUT", word ∷ [])) idle 3) word words _ (target_turn table rows pending word looks
      ∙ settles.none)
      (target_walked table rows pending word looks ∙ ap (λ (r : List Row). before r (Some (codes "OUT", word ∷ [])) idle 3) settles.are)
      (row_moved _ _ words settled _ (text_row (codes "OUT") word)
      (idles seen past settled _ _ (target_settles table settled word stands.free) (target_stands table seen settled word stands))))
  idle_view word words ok texts idles waits (plain looks not_dashed reads) seen past rows settled pending settles stands =
      whole_read word words (file word) seen past rows settled pending looks.dashes reads
      (fails_at table _ word words (third_turn table rows pending word looks))
  idle_view word words ok texts idles waits (flag_valued name value o dash reads) seen place rows settled pending settles stands =
      whole_read word words (stray word) seen place rows settled pending o.dashes reads
      (fails_at table _ word words (attached_to_flag table rows pending (number_at place) word name value o))
  idle_view word words ok texts idles waits (unknown other fault dash reads) seen place rows settled pending settles stands =
      whole_read word words (stray word) seen place rows settled pending other reads
      (fails_at table _ word words (or_else_first _ _ (fault rows pending)))
  idle_view word words ok texts idles waits (number_alone name low high known o dash reads) seen place rows settled pending settles stands =
      read_as _ _ place seen _ (word ∷ words) settled (parts_await word words name o.dashes reads)
      (goes_on table _ _ (before settled (Some (name, [])) (option name) (number_at place)) word words _
      (awaits_turn table rows pending (number_at place) word name low high o ∙ settles.none)
      (awaits_walked table rows pending (number_at place) word name low high o
      ∙ ap (λ (r : List Row). before r (Some (name, [])) (option name) (number_at place)) settles.are)
      (waits seen place settled name low high known stands))
  idle_view word words ok texts idles waits (flag_alone name known o dash reads) seen place rows settled pending settles stands =
      let turn = flag_turn table rows pending (number_at place) word name o
      ∙ ap₂ (λ (a : Kinds) (r : List Row). or_else a (use_fault false
      (option_rule (choice_with name nothing)) [] r)) settles.none settles.are in
      whole_read word words (flag name) seen place rows settled pending o.dashes reads
      (once seen name _ _ (word ∷ words) _
      (λ new.
      let free : has_row name settled ≡ false = stands.options name nothing known ∙ new in
      goes_on table _ _ (before (settled ++ flag_row name ∷ []) None idle (number_at place)) word words _ (turn
      ∙ (flag_fault name settled).0 free)
      (flag_walked table rows pending (number_at place) word name o ∙ ap
      (λ (r : List Row). before (used (option_rule (choice_with name nothing)) [] r) None idle (number_at place)) settles.are
      ∙ ap (λ (r : List Row). before r None idle (number_at place)) (flag_used name settled free))
      (row_moved _ _ words settled _ (flag_row name)
      (idles (name ∷ seen) place _ _ None (record { none = refl; are = refl })
      (option_stands table seen place settled (flag_row name) nothing known stands))))
      (λ again. fails_at table _ word words (rw turn ((flag_fault name settled).1 (stands.options name nothing known ∙ again)))))
  idle_view word words ok texts idles waits (number_valued name value low high known o dash reads)
      seen place rows settled pending settles stands =
      let turn = valued_turn table rows pending (number_at place) word name value low high o
      ∙ ap₂ (λ (a : Kinds) (r : List Row). or_else a (use_fault false (option_rule (choice_with name (number low high))) (value
      ∷ []) r)) settles.none settles.are in
      whole_read word words (valued name value) seen place rows settled pending o.dashes reads
      (once seen name _ _ (word ∷ words) _
      (λ new.
      let free : has_row name settled ≡ false = stands.options name (number low high) known ∙ new in
      goes_on table _ _ (before (settled ++ text_row name value ∷ []) None idle (number_at place)) word words _ (turn
      ∙ (number_fault name value low high settled).0 free)
      (valued_walked table rows pending (number_at place) word name value low high o
      ∙ ap (λ (r : List Row). before (used (option_rule (choice_with name (number low high))) (value ∷ []) r) None idle
      (number_at place)) settles.are
      ∙ ap (λ (r : List Row). before r None idle (number_at place)) (number_used name value low high settled free))
      (row_moved _ _ words settled _ (text_row name value)
      (idles (name ∷ seen) place _ _ None (record { none = refl; are = refl })
      (option_stands table seen place settled (text_row name value) (number low high) known stands))))
      (λ again. fails_at table _ word words (rw turn ((number_fault name value low high settled).1
      (stands.options name (number low high) known ∙ again)))))

  waits_word : (word : Word) (words : List Word) → is_table table ≡ true → All IsUtf8 (word ∷ words) → Idle words → Waits (word ∷ words)
  unfolding parts_after
  waits_word word words ok texts idles seen place rows name low high known stands = go (is_dashed word) refl
    where
      go : (b : Bool) → is_dashed word ≡ b
          → Reads ((if b then unvalued name else valued name word) ∷ parts_after table None words) place seen
          (before rows (Some (name, [])) (option name) (number_at place)) (word ∷ words) rows
      go true is = waiting_fails table rows (Some (name, [])) name place word words ok (first_of_all word words texts) is
          (value_lacks table rows name low high known)
      go false is =
          let looks = plain_word_is word is in
          once seen name _ _ (word ∷ words) _
          (λ new.
          let free : has_row name rows ≡ false = stands.options name (number low high) known ∙ new in
          goes_on table _ _ (before rows (Some (name, word ∷ [])) idle (number_at place)) word words _
          (value_turn table rows (number_at place) word name low high looks)
          (value_walked table rows (number_at place) word name low high looks known)
          (row_moved _ _ words rows _ (text_row name word)
          (idles (name ∷ seen) place rows _ _ (value_settles table rows name word low high known free)
          (option_stands table seen place rows (text_row name word) (number low high) known stands))))
          (λ again. goes_on table false _ (before rows (Some (name, word ∷ [])) idle (number_at place)) word words []
          (value_turn table rows (number_at place) word name low high looks)
          (value_walked table rows (number_at place) word name low high looks known)
          (idle_fails table rows (Some (name, word ∷ [])) place words ok (rest_of_all word words texts)
          (value_repeats table rows name word low high known (stands.options name (number low high) known ∙ again))))

  each_word : (words : List Word) → is_table table ≡ true → All IsUtf8 words → Idle words × Waits words
  unfolding parts_after walk_fault
  each_word [] ok texts = (
    λ seen place rows settled pending settles stands. ends place seen rows settled pending _ refl refl settles,
    λ seen place rows name low high known stands. value_lacks table rows name low high known,
  )
  each_word (word ∷ words) ok texts =
      let rest = each_word words ok (rest_of_all word words texts) in (
        idle_view word words ok (rest_of_all word words texts) rest.0 rest.1 (view table word ok (first_of_all word words texts)),
        waits_word word words ok texts rest.0,
      )

  nothing_seen : Stands table [] first []
  nothing_seen = record { options = λ name takes known. refl; free = (refl, refl) }

  -- all the words
  pub words_read : (words : List Word) → is_table table ≡ true → All IsUtf8 words
      → Comes table (passes first [] (parts_after table None words)) (before [] None idle 1) words
      (rows_for first (parts_after table None words))
  words_read words ok texts = (each_word words ok texts).0 [] first [] [] None (record { none = refl; are = refl }) nothing_seen
