-- Lists of a text, in phrases that nothing brings in too: each has entries, and not too many.
use Rattle.std.specs.Prelude.{◌≡◌, true}
use Rattle.fm_pattern.specs.declared.cursor.TheConstants.{MAX_ENTRIES}
use Rattle.fm_grammar.specs.Score as text
use Rattle.fm_meaning.specs.Rules.{most_pitches}
use Rattle.fm_promise.specs.Kept.{has_some_to}

abbrev mutual
  -- in a statement
  pub ListsKept : text.Stmt → Type 0
  ListsKept (text.note pitches duration) = has_some_to most_pitches pitches ≡ true
  ListsKept (text.play pitches) = has_some_to most_pitches pitches ≡ true
  ListsKept (text.choice expr first second) = ListsKeptIn first × ListsKeptIn second
  ListsKept (text.repeat count body) = ListsKeptIn body
  ListsKept (text.again expr most body) = ListsKeptIn body
  ListsKept (text.par branches) = ListsKeptAmong branches
  ListsKept (text.warp name body) = ListsKeptIn body
  ListsKept (text.channel number body) = ListsKeptIn body
  ListsKept (text.volume number body) = ListsKeptIn body
  ListsKept (text.gate number body) = ListsKeptIn body
  ListsKept (text.rhythm lengths body) = (has_some_to MAX_ENTRIES lengths ≡ true) × ListsKeptIn body
  ListsKept (text.artic numbers body) = (has_some_to MAX_ENTRIES numbers ≡ true) × ListsKeptIn body
  ListsKept (text.loud numbers body) = (has_some_to MAX_ENTRIES numbers ≡ true) × ListsKeptIn body
  ListsKept stmt = Unit {0}

  -- in the statements of a block
  pub ListsKeptIn : text.Body → Type 0
  ListsKeptIn text.done = Unit {0}
  ListsKeptIn (text.then spot stmt body) = ListsKept stmt × ListsKeptIn body

  -- in the branches of a fork
  pub ListsKeptAmong : text.Branches → Type 0
  ListsKeptAmong text.none = Unit {0}
  ListsKeptAmong (text.branch body branches) = ListsKeptIn body × ListsKeptAmong branches

-- in an entry of a score
abbrev pub EntryListsKept : text.Entry → Type 0
EntryListsKept (text.shape name parts) = Unit {0}
EntryListsKept (text.phrase name body) = ListsKeptIn body
EntryListsKept (text.plays spot stmt) = ListsKept stmt
