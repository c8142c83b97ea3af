-- Words that ask to play a text have the settings of that.
use Rattle.std.proofs.Common.{◌≡◌, ◌∙◌, ◌&&◌, ◌||◌, ℕ, Bool, true, false, not, List, [], ◌∷◌, Option, Some, None, refl, sym, ap, subst, codes, if◌then◌else◌}
use Rattle.std.specs.Prelude.{option_and_then}
use Rattle.std.specs.List.{AllByRecursion, list_all}
use Rattle.std.specs.Option.{option_map_or}
use Rattle.std.specs.Str.{bytes_eq}
use Rattle.std.proofs.lemmas.Slice.Eq.{bytes_eq-Decides}
use Rattle.fm_words.specs.Asked.{number_for, numbered, options, settings_in_parts}
use Rattle.fm_words.specs.Rules.{Choice, Part, Word, file, flag, has_flag_named, is_in_range, is_known, keeps_rules, number_of_text, number_within, parts_of, stray, text_for, unvalued, valued}
use Rattle.fm_words.specs.Settings.{Settings}
use Rattle.fm_words.specs.declared.limits.TheConstants.{MAX_GENERATE, MAX_TICK_ASKED}
use Rattle.fm_words.proofs.WalkViews.{both_parts}
use Rattle.fm_top.specs.PlayWords.{play_options}
use Rattle.fm_top.proofs.PlayParts.{agree, agree_back, among, other_flags, other_numbers, plain}

-- nothing but playing a text is asked for
pub record IsToPlay (s : Settings) : Type 0 where
  pub audited : s.audited ≡ false
  pub list : s.list ≡ false
  pub recorded : s.recorded ≡ false
  pub parts : s.parts ≡ false
  pub generate : s.generate ≡ None
  pub locate : s.locate ≡ None
  pub from : s.from ≡ None
  pub to : s.to ≡ None

-- ---- from plain parts

either_false : (a b : Bool) → (a || b) ≡ false → (a ≡ false) × (b ≡ false)
either_false true b is = cc
either_false false b is = (refl, is)

-- no other flag stands there
no_flag : (name : Word) (ps : List Part) → among name other_flags ≡ true → list_all plain ps ≡ true → has_flag_named name ps ≡ false
no_flag name [] other all = refl
no_flag name (flag one ∷ ps) other all = go (bytes_eq one name) refl (both_parts _ _ all).0 (no_flag name ps other (both_parts _ _ all).1)
  where
    go : (b : Bool) → bytes_eq one name ≡ b → not (among one other_flags) ≡ true → has_flag_named name ps ≡ false
        → (b || has_flag_named name ps) ≡ false
    go true same is more =
        let never : false ≡ true =
        sym (ap (λ (n : Word). not (among n other_flags)) ((bytes_eq-Decides one name).0 same) ∙ ap not other) ∙ is in cc
    go false same is more = more
no_flag name (file word ∷ ps) other all = no_flag name ps other all
no_flag name (valued one text ∷ ps) other all = no_flag name ps other (both_parts _ _ all).1
no_flag name (unvalued one ∷ ps) other all = cc
no_flag name (stray word ∷ ps) other all = cc

-- nor another option with a number
no_text : (name : Word) (ps : List Part) → among name other_numbers ≡ true → list_all plain ps ≡ true → text_for name ps ≡ None
no_text name [] other all = refl
no_text name (valued one text ∷ ps) other all =
    go (bytes_eq one name) refl (both_parts _ _ all).0 (no_text name ps other (both_parts _ _ all).1)
  where
    go : (b : Bool) → bytes_eq one name ≡ b → not (among one other_numbers) ≡ true → text_for name ps ≡ None
        → (if b then Some text else text_for name ps) ≡ None
    go true same is more =
        let never : false ≡ true =
        sym (ap (λ (n : Word). not (among n other_numbers)) ((bytes_eq-Decides one name).0 same) ∙ ap not other) ∙ is in cc
    go false same is more = more
no_text name (file word ∷ ps) other all = no_text name ps other all
no_text name (flag one ∷ ps) other all = no_text name ps other (both_parts _ _ all).1
no_text name (unvalued one ∷ ps) other all = cc
no_text name (stray word ∷ ps) other all = cc

no_number : (name : Word) (ps : List Part) → among name other_numbers ≡ true → list_all plain ps ≡ true → number_for name ps ≡ None
no_number name ps other all = ap (λ (t : Option Word). option_and_then number_of_text t) (no_text name ps other all)

settings_of_plain : (ps : List Part) → list_all plain ps ≡ true → IsToPlay (settings_in_parts ps)
settings_of_plain ps all = record {
  audited = no_flag (codes "audit") ps refl all;
  list = no_flag (codes "list") ps refl all;
  recorded = no_flag (codes "record") ps refl all;
  parts = no_flag (codes "parts") ps refl all;
  generate = no_number (codes "generate") ps refl all;
  locate = no_number (codes "locate") ps refl all;
  from = no_number (codes "from") ps refl all;
  to = no_number (codes "to") ps refl all;
}

and_both : (a b : Bool) → a ≡ true → b ≡ true → (a && b) ≡ true
and_both a b p q = ap (λ c. c && b) p ∙ q

-- in its range, since it is not given
absent : (ps : List Part) (name : Word) (low high : ℕ) → text_for name ps ≡ None → is_in_range ps (numbered name low high) ≡ true
absent ps name low high none = rw none refl

-- a test of all of a table, one by one
to_each : (f : Choice → Bool) (table : List Choice) → list_all f table ≡ true → AllByRecursion (λ c. f c ≡ true) table
to_each f [] all = tt
to_each f (c ∷ table) all = let both = both_parts (f c) (list_all f table) all in (both.0, to_each f table both.1)

from_each : (f : Choice → Bool) (table : List Choice) → AllByRecursion (λ c. f c ≡ true) table → list_all f table ≡ true
from_each f [] all = refl
from_each f (c ∷ table) all = and_both (f c) (list_all f table) all.0 (from_each f table all.1)

keeps_large : (ps : List Part) → list_all plain ps ≡ true → list_all (is_in_range ps) play_options ≡ true
    → list_all (is_in_range ps) options ≡ true
keeps_large ps all kept =
    let workers = to_each (is_in_range ps) play_options kept in
    let lead = workers.1 in
    let room = lead.1 in
    let rounds = room.1 in
    let process = rounds.1 in
    let generate = absent ps (codes "generate") 0 MAX_GENERATE (no_text (codes "generate") ps refl all) in
    let locate = absent ps (codes "locate") 0 MAX_TICK_ASKED (no_text (codes "locate") ps refl all) in
    let from = absent ps (codes "from") 0 MAX_TICK_ASKED (no_text (codes "from") ps refl all) in
    let to = absent ps (codes "to") 0 MAX_TICK_ASKED (no_text (codes "to") ps refl all) in
    from_each (is_in_range ps) options
    (workers.0, (lead.0, (room.0, (generate, (refl, (refl, (refl, (locate, (process.0, (from, (to, (refl, (refl, tt)))))))))))))

-- words that keep to the rules with the options of playing alone keep to those with all, and ask to play
pub plays : (words : List Word) → keeps_rules play_options (parts_of play_options words) ≡ true
    → (keeps_rules options (parts_of options words) ≡ true) × IsToPlay (settings_in_parts (parts_of options words))
plays words kept =
    let k = both_parts _ _ kept in
    let known = (both_parts _ _ k.0).0 in
    let a = agree words None tt known in (
      subst (λ ps. keeps_rules options ps ≡ true) (sym a.same) (and_both _ _ k.0 (keeps_large (parts_of play_options words) a.plain k.1)),
      subst (λ ps. IsToPlay (settings_in_parts ps)) (sym a.same) (settings_of_plain (parts_of play_options words) a.plain),
    )

-- ---- to plain parts

-- a number that keeps to its range is there where its text is
no_text_given : (low high : ℕ) (text : Option Word)
    → option_map_or (λ t. option_map_or (λ n. true) (number_within low high t) false) text true ≡ true
    → option_and_then number_of_text text ≡ None → text ≡ None
no_text_given low high None kept none = refl
no_text_given low high (Some t) kept none =
    let never : false ≡ true = sym (rw none refl) ∙ kept in cc

record Lacks (ps : List Part) : Type 0 where
  audit : has_flag_named (codes "audit") ps ≡ false
  list : has_flag_named (codes "list") ps ≡ false
  record_ : has_flag_named (codes "record") ps ≡ false
  parts : has_flag_named (codes "parts") ps ≡ false
  generate : text_for (codes "generate") ps ≡ None
  locate : text_for (codes "locate") ps ≡ None
  from : text_for (codes "from") ps ≡ None
  to : text_for (codes "to") ps ≡ None

text_other : (name one text : Word) (ps : List Part) → (if bytes_eq one name then Some text else text_for name ps) ≡ None
    → (bytes_eq one name ≡ false) × (text_for name ps ≡ None)
text_other name one text ps is = go (bytes_eq one name) refl is
  where
    go : (b : Bool) → bytes_eq one name ≡ b → (if b then Some text else text_for name ps) ≡ None
        → (bytes_eq one name ≡ false) × (text_for name ps ≡ None)
    go true same is = cc
    go false same is = (same, is)

parts_plain : (ps : List Part) → list_all is_known ps ≡ true → Lacks ps → list_all plain ps ≡ true
parts_plain [] known l = refl
parts_plain (file word ∷ ps) known l =
    parts_plain ps known (record {
      audit = l.audit;
      list = l.list;
      record_ = l.record_;
      parts = l.parts;
      generate = l.generate;
      locate = l.locate;
      from = l.from;
      to = l.to;
    })
parts_plain (flag one ∷ ps) known l =
    let a = either_false (bytes_eq one (codes "audit")) (has_flag_named (codes "audit") ps) l.audit in
    let b = either_false (bytes_eq one (codes "list")) (has_flag_named (codes "list") ps) l.list in
    let c = either_false (bytes_eq one (codes "record")) (has_flag_named (codes "record") ps) l.record_ in
    let d = either_false (bytes_eq one (codes "parts")) (has_flag_named (codes "parts") ps) l.parts in
    and_both (not (among one other_flags)) (list_all plain ps) (rw (b.0, d.0, c.0, a.0) refl)
    (parts_plain ps known (record {
      audit = a.1;
      list = b.1;
      record_ = c.1;
      parts = d.1;
      generate = l.generate;
      locate = l.locate;
      from = l.from;
      to = l.to;
    }))
parts_plain (valued one text ∷ ps) known l =
    let a = text_other (codes "generate") one text ps l.generate in
    let b = text_other (codes "locate") one text ps l.locate in
    let c = text_other (codes "from") one text ps l.from in
    let d = text_other (codes "to") one text ps l.to in
    and_both (not (among one other_numbers)) (list_all plain ps) (rw (a.0, b.0, c.0, d.0) refl)
    (parts_plain ps known (record {
      audit = l.audit;
      list = l.list;
      record_ = l.record_;
      parts = l.parts;
      generate = a.1;
      locate = b.1;
      from = c.1;
      to = d.1;
    }))
parts_plain (unvalued one ∷ ps) known l = cc
parts_plain (stray word ∷ ps) known l = cc

-- words that keep to the rules with all options, and ask to play, keep to those with the options of playing alone
pub played : (words : List Word) → keeps_rules options (parts_of options words) ≡ true
    → IsToPlay (settings_in_parts (parts_of options words)) → keeps_rules play_options (parts_of play_options words) ≡ true
played words kept s =
    let ps = parts_of options words in
    let k = both_parts _ _ kept in
    let known = (both_parts _ _ k.0).0 in
    let workers = to_each (is_in_range ps) options k.1 in
    let lead = workers.1 in
    let room = lead.1 in
    let generate = room.1 in
    let flags = generate.1.1.1 in
    let locate = flags.1 in
    let process = locate.1 in
    let from = process.1 in
    let to = from.1 in
    let lacks : Lacks ps = record {
      audit = s.audited;
      list = s.list;
      record_ = s.recorded;
      parts = s.parts;
      generate = no_text_given _ _ (text_for (codes "generate") ps) generate.0 s.generate;
      locate = no_text_given _ _ (text_for (codes "locate") ps) locate.0 s.locate;
      from = no_text_given _ _ (text_for (codes "from") ps) from.0 s.from;
      to = no_text_given _ _ (text_for (codes "to") ps) to.0 s.to;
    } in
    let same = agree_back words None (parts_plain ps known lacks) in
    subst (λ qs. keeps_rules play_options qs ≡ true) same
    (and_both _ _ k.0 (from_each (is_in_range ps) play_options (workers.0, (lead.0, (room.0, (refl, (process.0, tt)))))))
