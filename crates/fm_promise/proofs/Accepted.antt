-- Each statement of an accepted text keeps the limits of the language.
use Rattle.std.specs.List.{AllByRecursion}
use Rattle.std.proofs.Common.{ℕ, List, [], ◌++◌, refl}
use Rattle.fm_grammar.specs.Score.{Score}
use Rattle.fm_meaning.specs.Rules.{score_rules}
use Rattle.fm_meaning.specs.Resolve.{nothing_known, resolved}
use Rattle.fm_meaning.specs.Ranges.{Names, head_faults, entries_faults, second_walk}
use Rattle.fm_meaning.specs.Places.{outermost, third_walk}
use Rattle.fm_meaning.specs.Bounds.{fourth_walk}
use Rattle.fm_meaning.specs.Verdict.{Means}
use Rattle.fm_promise.specs.Kept.{KeptIn}
use Rattle.fm_promise.specs.Lists.{EntryListsKept}
use Rattle.fm_promise.proofs.Statements.{text_formed}
use Rattle.fm_promise.proofs.Fair.{none_both}
use Rattle.fm_promise.proofs.Ranged.{entries_ranged}
use Rattle.fm_promise.proofs.Listed.{entries_listed}
use Rattle.fm_promise.proofs.Placed.{walked_kept}

-- it does, since no walk finds a fault
pub text_kept : (t : List ℕ) (s : Score) → Means t s → KeptIn outermost (resolved s).passage
text_kept t s m =
    let last = none_both (second_walk s ++ third_walk (resolved s).passage) (fourth_walk (score_rules s) (resolved s)) m.faultless in
    let both = none_both (second_walk s) (third_walk (resolved s).passage) last.0 in
    let names : Names = record { whole = (score_rules s).whole_note; shapes = []; phrases = [] } in
    walked_kept (resolved s).passage
    (entries_ranged names (nothing_known (score_rules s).whole_note) s.entries
    (record { whole = refl; names = refl; shapes = tt }) tt (text_formed t s m.reads)
    (none_both (head_faults s) (entries_faults names s.entries) both.0).1)
    both.1

-- its lists have entries, and not too many
pub text_listed : (t : List ℕ) (s : Score) → Means t s → AllByRecursion EntryListsKept s.entries
text_listed t s m =
    let last = none_both (second_walk s ++ third_walk (resolved s).passage) (fourth_walk (score_rules s) (resolved s)) m.faultless in
    let both = none_both (second_walk s) (third_walk (resolved s).passage) last.0 in
    let names : Names = record { whole = (score_rules s).whole_note; shapes = []; phrases = [] } in
    entries_listed names s.entries (text_formed t s m.reads)
    (none_both (head_faults s) (entries_faults names s.entries) both.0).1
