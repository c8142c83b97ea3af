-- The second walk, statement by statement.
use Rattle.std.proofs.Common.{◌≡◌, ℕ, ◌<◌, ◌≤◌, Bool, true, false, not, List, [], ◌∷◌, ◌++◌, map, length, pos, neg_ℤ, ◌-ℤ◌, refl, sym, ap, subst, arith, true≢false}
use Rattle.std.specs.Prelude.{◌||◌, nat_le, if◌then◌else◌}
use Rattle.std.specs.Str.{bytes_eq}
use Rattle.std.specs.List.{AllByRecursion, list_all, list_any}
use Rattle.std.proofs.lemmas.Bool.{and_from, le-leb, not-false}
use Rattle.std.proofs.lemmas.List.{length-map}
use Rattle.fm_warp.specs.declared.part.Part.{Part}
use Rattle.fm_warp.specs.declared.warp.TheConstants.{MAX_PARTS}
use Rattle.fm_value.specs.declared.registers.TheConstants.{REGISTERS}
use Rattle.fm_pattern.specs.declared.cursor.TheConstants.{MAX_ENTRIES}
use Rattle.fm_grammar.specs.declared.number.Number.{Number}
use Rattle.fm_grammar.specs.Score as text
use Rattle.fm_meaning.specs.Rules.{most_rounds, most_data, most_channel, most_gate, bend_centre, most_bend, most_pitches}
use Rattle.fm_meaning.specs.Resolved.{articulation, loudness, duration, Play, note, rest, send, assign, choice, loop, phrase, par, warp, channel, steady, under, Passage, done, item, Fork, joined, branch}
use Rattle.fm_meaning.specs.Resolve.{length_ticks, part_of, draw_of, Named, meaning_of, named_as, Known, play_of, passage_of, fork_of, entries_of}
use Rattle.fm_meaning.specs.Fault.{unknown_name}
use Rattle.fm_meaning.specs.Ranges.{Names, is_known, number_faults, numbers_faults, each_faults, length_faults, length_spot, expr_faults, amount_faults, duration_faults, pitches_faults, unknown_faults, double_faults, part_faults, part_length, stmt_faults, body_faults, branches_faults, entries_faults}
use Rattle.fm_promise.specs.Kept.{entry_kept, has_some_to, HasBranch}
use Rattle.fm_promise.proofs.Formed.{Formed, FormedIn, FormedAmong, EntryFormed}
use Rattle.fm_promise.proofs.Fair.{expr_fair, told, key_fair, span_fair, count_fair, point_fair, none_both, number_fair, postfix_fair, amount_fair, duration_fair, pitches_fair, each_fair, some_fair, all_fair, lengths_fair, gates_fair, velocity_fair, velocities_fair}

-- ---- what is said of what is played, apart from what is open

abbrev mutual
  -- a statement
  pub Ranged : Play → Type 0
  Ranged (note draws span) =
      (has_some_to most_pitches draws ≡ true) × (list_all key_fair draws ≡ true) × (span_fair span ≡ true)
  Ranged (rest span) = span_fair span ≡ true
  Ranged (send point draw) = point_fair point draw ≡ true
  Ranged (assign register expr) = (register < REGISTERS) × (expr_fair expr ≡ true)
  Ranged (choice expr first second) = (expr_fair expr ≡ true) × RangedIn first × RangedIn second
  Ranged (loop count body) = (count_fair count ≡ true) × RangedIn body
  Ranged (phrase body) = RangedIn body
  Ranged (par branches) = HasBranch branches × RangedAmong branches
  Ranged (warp parts body) = (0 < length parts) × RangedIn body
  Ranged (channel number body) = (number ≤ most_channel) × RangedIn body
  Ranged (steady quality entry body) = (entry_kept quality entry ≡ true) × RangedIn body
  Ranged (under quality entries body) =
      (has_some_to MAX_ENTRIES entries ≡ true) × (list_all (entry_kept quality) entries ≡ true) × RangedIn body

  -- statements in turn
  pub RangedIn : Passage → Type 0
  RangedIn done = Unit {0}
  RangedIn (item spot play more) = Ranged play × RangedIn more

  -- branches in turn
  pub RangedAmong : Fork → Type 0
  RangedAmong joined = Unit {0}
  RangedAmong (branch body branches) = RangedIn body × RangedAmong branches

-- ---- phrases

-- what is known of phrases
abbrev pub KnownRanged : List (Named Passage) → Type 0
KnownRanged ds = AllByRecursion (λ d. RangedIn d.meaning) ds

-- by whether a name is the one
one_by : (is : Bool) (p q : Passage) → RangedIn p → RangedIn q → RangedIn (if is then p else q)
one_by true p q first second = first
one_by false p q first second = second

-- what a name stands for
meaning_ranged : (name : List ℕ) (ds : List (Named Passage)) → KnownRanged ds → RangedIn (meaning_of name done ds)
meaning_ranged name [] known = tt
meaning_ranged name (d ∷ ds) known =
    one_by (bytes_eq name d.name) d.meaning (meaning_of name done ds) known.0 (meaning_ranged name ds known.1)

-- ---- shapes

-- the names that are known where faults are looked for, and where a score is resolved; each shape has a part
pub record Agree (k : Names) (known : Known) : Type 0 where
  pub whole : k.whole ≡ known.whole
  pub names : k.shapes ≡ map (λ d. d.name) known.shapes
  pub shapes : AllByRecursion (λ d. 0 < length d.meaning) known.shapes

-- a name that is the one, or another known one
known_by : (is : Bool) (p q : List Part) (more : Bool) → is || more ≡ true → 0 < length p → (more ≡ true → 0 < length q)
    → 0 < length (if is then p else q)
known_by true p q more known first second = first
known_by false p q more known first second = second known

-- what a known name stands for has a part
meaning_shaped : (name : List ℕ) (ds : List (Named (List Part))) → list_any (bytes_eq name) (map (λ d. d.name) ds) ≡ true
    → AllByRecursion (λ d. 0 < length d.meaning) ds → 0 < length (meaning_of name [] ds)
meaning_shaped name [] known all = absurd (true≢false (sym known))
meaning_shaped name (d ∷ ds) known all =
    known_by (bytes_eq name d.name) d.meaning (meaning_of name [] ds) (list_any (bytes_eq name) (map (λ e. e.name) ds)) known all.0
    (λ more. meaning_shaped name ds more all.1)

-- a shape that is named
shape_fair : (k : Names) (known : Known) (name : text.Leaf) → Agree k known → unknown_faults name k.shapes ≡ []
    → 0 < length (meaning_of name.text [] known.shapes)
shape_fair k known name agree none =
    let is : list_any (bytes_eq name.text) k.shapes ≡ true =
    not-false (is_known name k.shapes) (told (not (is_known name k.shapes)) name.spot unknown_name none) in
    meaning_shaped name.text known.shapes (subst (λ l. list_any (bytes_eq name.text) l ≡ true) agree.names is) agree.shapes

-- ---- statements

mutual
  -- a statement without a fault
  ranged : (k : Names) (known : Known) (s : text.Stmt) → Agree k known → KnownRanged known.phrases → Formed s
      → stmt_faults k s ≡ [] → Ranged (play_of known s)
  ranged k known (text.note pitches length) same phrases formed none =
      let both = none_both (pitches_faults pitches) (duration_faults k.whole length) none in
      let keys = pitches_fair pitches formed.0 both.0 in
      (keys.0, keys.1, duration_fair known.whole length formed.1 (rw same.whole at both.1))
  ranged k known (text.play pitches) same phrases formed none =
      let keys = pitches_fair pitches formed none in (keys.0, keys.1, refl)
  ranged k known (text.rest length) same phrases formed none = duration_fair known.whole length formed (rw same.whole at none)
  ranged k known text.skip same phrases formed none = refl
  ranged k known (text.control controller amount) same phrases formed none =
      let both = none_both (number_faults 0 most_data controller) (amount_faults (pos 0) (pos most_data) amount) none in
      and_from (nat_le controller.value most_data) (key_fair (draw_of amount))
      (le-leb controller.value most_data (number_fair 0 most_data controller both.0).1)
      (amount_fair (pos 0) (pos most_data) amount formed both.1)
  ranged k known (text.program amount) same phrases formed none = amount_fair (pos 0) (pos most_data) amount formed none
  ranged k known (text.bend amount) same phrases formed none =
      amount_fair (neg_ℤ (pos bend_centre)) (pos most_bend -ℤ pos bend_centre) amount formed none
  ranged k known (text.set register expr) same phrases formed none = (formed.0, postfix_fair expr formed.1 none)
  ranged k known (text.choice expr first second) same phrases formed none =
      let both = none_both (expr_faults expr ++ body_faults k first) (body_faults k second) none in
      let own = none_both (expr_faults expr) (body_faults k first) both.0 in (
        postfix_fair expr formed.0 own.0,
        ranged_in k known first same phrases formed.1 own.1,
        ranged_in k known second same phrases formed.2 both.1,
      )
  ranged k known (text.repeat count body) same phrases formed none =
      let both = none_both (number_faults 0 most_rounds count) (body_faults k body) none in
      (le-leb count.value most_rounds (number_fair 0 most_rounds count both.0).1, ranged_in k known body same phrases formed both.1)
  ranged k known (text.again expr most body) same phrases formed none =
      let both = none_both (expr_faults expr ++ number_faults 0 most_rounds most) (body_faults k body) none in
      let own = none_both (expr_faults expr) (number_faults 0 most_rounds most) both.0 in (
        and_from (nat_le most.value most_rounds) (expr_fair expr.nodes)
            (le-leb most.value most_rounds (number_fair 0 most_rounds most own.1).1) (postfix_fair expr formed.0 own.0),
        ranged_in k known body same phrases formed.1 both.1,
      )
  ranged k known (text.call name) same phrases formed none = meaning_ranged name.text known.phrases phrases
  ranged k known (text.par text.none) same phrases formed none = absurd formed.0
  ranged k known (text.par (text.branch body branches)) same phrases formed none =
      (tt, ranged_among k known (text.branch body branches) same phrases formed.1 none)
  ranged k known (text.warp name body) same phrases formed none =
      let both = none_both (unknown_faults name k.shapes) (body_faults k body) none in
      (shape_fair k known name same both.0, ranged_in k known body same phrases formed both.1)
  ranged k known (text.channel number body) same phrases formed none =
      let both = none_both (number_faults 0 most_channel number) (body_faults k body) none in
      ((number_fair 0 most_channel number both.0).1, ranged_in k known body same phrases formed both.1)
  ranged k known (text.volume number body) same phrases formed none =
      let both = none_both (number_faults 1 most_data number) (body_faults k body) none in
      (velocity_fair number both.0, ranged_in k known body same phrases formed both.1)
  ranged k known (text.gate number body) same phrases formed none =
      let both = none_both (number_faults 0 most_gate number) (body_faults k body) none in
      (le-leb number.value most_gate (number_fair 0 most_gate number both.0).1, ranged_in k known body same phrases formed both.1)
  ranged k known (text.rhythm lengths body) same phrases formed none =
      let both = none_both (each_faults (length_faults k.whole) length_spot MAX_ENTRIES lengths) (body_faults k body) none in
      let each = each_fair (length_faults known.whole) length_spot MAX_ENTRIES lengths (rw same.whole at both.0) in (
        some_fair (length_ticks known.whole) MAX_ENTRIES lengths formed.0 each.0,
        all_fair (length_ticks known.whole) (entry_kept duration) lengths (lengths_fair known.whole lengths each.1),
        ranged_in k known body same phrases formed.1 both.1,
      )
  ranged k known (text.artic numbers body) same phrases formed none =
      let both = none_both (numbers_faults 0 most_gate numbers) (body_faults k body) none in
      let each = each_fair (number_faults 0 most_gate) Number.spot MAX_ENTRIES numbers both.0 in (
        some_fair Number.value MAX_ENTRIES numbers formed.0 each.0,
        all_fair Number.value (entry_kept articulation) numbers (gates_fair numbers each.1),
        ranged_in k known body same phrases formed.1 both.1,
      )
  ranged k known (text.loud numbers body) same phrases formed none =
      let both = none_both (numbers_faults 1 most_data numbers) (body_faults k body) none in
      let each = each_fair (number_faults 1 most_data) Number.spot MAX_ENTRIES numbers both.0 in (
        some_fair Number.value MAX_ENTRIES numbers formed.0 each.0,
        all_fair Number.value (entry_kept loudness) numbers (velocities_fair numbers each.1),
        ranged_in k known body same phrases formed.1 both.1,
      )

  -- the statements of a block
  ranged_in : (k : Names) (known : Known) (b : text.Body) → Agree k known → KnownRanged known.phrases → FormedIn b
      → body_faults k b ≡ [] → RangedIn (passage_of known b)
  ranged_in k known text.done same phrases formed none = tt
  ranged_in k known (text.then spot s body) same phrases formed none =
      let both = none_both (stmt_faults k s) (body_faults k body) none in
      (ranged k known s same phrases formed.0 both.0, ranged_in k known body same phrases formed.1 both.1)

  -- the branches of a fork
  ranged_among : (k : Names) (known : Known) (bs : text.Branches) → Agree k known → KnownRanged known.phrases
      → FormedAmong bs → branches_faults k bs ≡ [] → RangedAmong (fork_of known bs)
  ranged_among k known text.none same phrases formed none = tt
  ranged_among k known (text.branch body branches) same phrases formed none =
      let both = none_both (body_faults k body) (branches_faults k branches) none in
      (ranged_in k known body same phrases formed.0 both.0, ranged_among k known branches same phrases formed.1 both.1)

-- the entries of a score
pub entries_ranged : (k : Names) (known : Known) (es : List text.Entry) → Agree k known → KnownRanged known.phrases
    → AllByRecursion EntryFormed es → entries_faults k es ≡ [] → RangedIn (entries_of known es)
entries_ranged k known [] same phrases formed none = tt
entries_ranged k known (text.shape name parts ∷ es) same phrases formed none =
    let later = entries_faults (record k { shapes = name.text ∷ k.shapes }) es in
    entries_ranged (record k { shapes = name.text ∷ k.shapes })
    (record known { shapes = named_as name (map (part_of known.whole) parts) ∷ known.shapes }) es
    (record {
      whole = same.whole;
      names = ap (λ l. name.text ∷ l) same.names;
      shapes = (omega (arith, formed.0, length-map parts (part_of known.whole)), same.shapes);
    })
    phrases formed.1
    (none_both (double_faults name k ++ each_faults (part_faults k.whole) (λ p. length_spot (part_length p)) MAX_PARTS parts)
    later none).1
entries_ranged k known (text.phrase name body ∷ es) same phrases formed none =
    let later = entries_faults (record k { phrases = name.text ∷ k.phrases }) es in
    let both = none_both (double_faults name k ++ body_faults k body) later none in
    entries_ranged (record k { phrases = name.text ∷ k.phrases })
    (record known { phrases = named_as name (passage_of known body) ∷ known.phrases }) es
    (record { whole = same.whole; names = same.names; shapes = same.shapes })
    (ranged_in k known body same phrases formed.0 (none_both (double_faults name k) (body_faults k body) both.0).1, phrases)
    formed.1 both.1
entries_ranged k known (text.plays spot s ∷ es) same phrases formed none =
    let both = none_both (stmt_faults k s) (entries_faults k es) none in
    (ranged k known s same phrases formed.0 both.0, entries_ranged k known es same phrases formed.1 both.1)
