-- The lists and chords of an outline have entries, and not too many.
use Rattle.std.proofs.Common.{◌≡◌, ℕ, suc, true, List, [], ◌∷◌, map, length, refl, ap, ◌∙◌}
use Rattle.std.specs.Prelude.{◌&&◌, nat_le, nat_lt}
use Rattle.std.specs.List.{list_all, AllByRecursion}
use Rattle.std.proofs.lemmas.List.{length-map}
use Rattle.fm_value.specs.declared.node.Node.{Node}
use Rattle.fm_pattern.specs.declared.cursor.TheConstants.{MAX_ENTRIES}
use Rattle.fm_program.specs.declared.op.Draw.{Draw}
use Rattle.fm_program.specs.declared.op.TheConstants.{MAX_PITCHES}
use Rattle.fm_program.specs.Fit.{has_up_to}
use Rattle.fm_grammar.specs.declared.number.Number.{Number}
use Rattle.fm_grammar.specs.Score as text
use Rattle.fm_meaning.specs.Rules.{score_rules}
use Rattle.fm_meaning.specs.Resolve.{length_ticks, part_of, named_as}
use Rattle.fm_promise.specs.Lists.{ListsKept, ListsKeptIn, ListsKeptAmong, EntryListsKept}
use Rattle.fm_expansion.specs.Outline.{Tables, Lasting, beat}
use Rattle.fm_expansion.specs.Numbering.{Catalogue, Numbered, numbered, no_tables, expr_added, list_added, rhythm_added, chord_added, warp_added, draw_numbered, key_numbered, keys_numbered, span_numbered, note_numbered, instruction_of, block_of, arms_of, outline_from, outline}
use Rattle.fm_fidelity.proofs.Making.{all_more}

-- the lists and the chords of tables
pub record Listed (t : Tables) : Type 0 where
  pub lists : list_all (has_up_to MAX_ENTRIES) t.lists ≡ true
  pub chords : list_all (has_up_to MAX_PITCHES) t.chords ≡ true

-- a list that is as long as another
as_long : {A B : Type 0} (most : ℕ) (xs : List A) (ys : List B) → length ys ≡ length xs → has_up_to most xs ≡ true
    → has_up_to most ys ≡ true
as_long most xs ys same is = ap (λ n. nat_lt 0 n && nat_le n most) same ∙ is

-- a list more
list_listed : (t : Tables) (l : List ℕ) → has_up_to MAX_ENTRIES l ≡ true → Listed t → Listed (list_added l t)
list_listed t l good a =
    record { lists = all_more (has_up_to MAX_ENTRIES) t.lists l a.lists good; chords = a.chords }

-- a rhythm more
rhythm_listed : (t : Tables) (l : List ℕ) → has_up_to MAX_ENTRIES l ≡ true → Listed t → Listed (rhythm_added l t)
rhythm_listed t l good a =
    record { lists = all_more (has_up_to MAX_ENTRIES) t.lists l a.lists good; chords = a.chords }

-- a chord more
chord_listed : (t : Tables) (c : List Draw) → has_up_to MAX_PITCHES c ≡ true → Listed t → Listed (chord_added c t)
chord_listed t c good a =
    record { lists = a.lists; chords = all_more (has_up_to MAX_PITCHES) t.chords c a.chords good }

-- an expression more
expr_listed : (t : Tables) (e : List Node) → Listed t → Listed (expr_added e t)
expr_listed t e a = record { lists = a.lists; chords = a.chords }

-- ---- notes

-- a number of a message
draw_listed : (x : text.Amount) (t : Tables) → Listed t → Listed (draw_numbered x t).tables
draw_listed (text.literal v spot) t a = a
draw_listed (text.Amount.computed e) t a = expr_listed t e.nodes a

-- a key
key_listed : (p : text.Pitch) (t : Tables) → Listed t → Listed (key_numbered p t).tables
key_listed (text.named key spot) t a = a
key_listed (text.keyed amount spot) t a = draw_listed amount t a

-- keys
keys_listed : (ps : List text.Pitch) (t : Tables) → Listed t → Listed (keys_numbered ps t).tables
keys_listed [] t a = a
keys_listed (p ∷ ps) t a = keys_listed ps (key_numbered p t).tables (key_listed p t a)

-- as many as pitches
keys_length : (ps : List text.Pitch) (t : Tables) → length (keys_numbered ps t).value ≡ length ps
keys_length [] t = refl
keys_length (p ∷ ps) t = ap suc (keys_length ps (key_numbered p t).tables)

-- a duration
span_listed : (whole : ℕ) (d : text.Duration) (t : Tables) → Listed t → Listed (span_numbered whole d t).tables
span_listed whole (text.fixed length) t a = a
span_listed whole (text.Duration.computed e most) t a = expr_listed t e.nodes a

-- a note
note_listed : (ps : List text.Pitch) (lasting : Tables → Numbered Lasting) (t : Tables)
    → ((u : Tables) → Listed u → Listed (lasting u).tables) → has_up_to MAX_PITCHES ps ≡ true → Listed t
    → Listed (note_numbered ps lasting t).tables
note_listed ps lasting t keep good a =
    let keys = keys_numbered ps t in
    chord_listed (lasting keys.tables).tables keys.value (as_long MAX_PITCHES ps keys.value (keys_length ps t) good)
    (keep keys.tables (keys_listed ps t a))

-- ---- statements

mutual
  -- a statement
  stmt_listed : (c : Catalogue) (s : text.Stmt) (t : Tables) → ListsKept s → Listed t → Listed (instruction_of c s t).tables
  stmt_listed c (text.note pitches length) t kept a =
      note_listed pitches (span_numbered c.whole length) t (λ u b. span_listed c.whole length u b) kept a
  stmt_listed c (text.play pitches) t kept a = note_listed pitches (numbered beat) t (λ u b. b) kept a
  stmt_listed c (text.rest length) t kept a = span_listed c.whole length t a
  stmt_listed c text.skip t kept a = a
  stmt_listed c (text.control controller amount) t kept a = draw_listed amount t a
  stmt_listed c (text.program amount) t kept a = draw_listed amount t a
  stmt_listed c (text.bend amount) t kept a = draw_listed amount t a
  stmt_listed c (text.set register expr) t kept a = expr_listed t expr.nodes a
  stmt_listed c (text.choice expr first second) t kept a =
      let u = expr_added expr.nodes t in
      body_listed c second (block_of c first u).tables kept.1
      (body_listed c first u kept.0 (expr_listed t expr.nodes a))
  stmt_listed c (text.repeat count body) t kept a = body_listed c body t kept a
  stmt_listed c (text.again expr most body) t kept a =
      body_listed c body (expr_added expr.nodes t) kept (expr_listed t expr.nodes a)
  stmt_listed c (text.call name) t kept a = a
  stmt_listed c (text.par branches) t kept a = branches_listed c branches t kept a
  stmt_listed c (text.warp name body) t kept a = body_listed c body t kept a
  stmt_listed c (text.channel number body) t kept a = body_listed c body t kept a
  stmt_listed c (text.volume number body) t kept a = body_listed c body t kept a
  stmt_listed c (text.gate number body) t kept a = body_listed c body t kept a
  stmt_listed c (text.rhythm lengths body) t kept a =
      let l = map (length_ticks c.whole) lengths in
      body_listed c body (rhythm_added l t) kept.1
      (rhythm_listed t l (as_long MAX_ENTRIES lengths l (length-map lengths (length_ticks c.whole)) kept.0) a)
  stmt_listed c (text.artic numbers body) t kept a =
      let l = map Number.value numbers in
      body_listed c body (list_added l t) kept.1
      (list_listed t l (as_long MAX_ENTRIES numbers l (length-map numbers Number.value) kept.0) a)
  stmt_listed c (text.loud numbers body) t kept a =
      let l = map Number.value numbers in
      body_listed c body (list_added l t) kept.1
      (list_listed t l (as_long MAX_ENTRIES numbers l (length-map numbers Number.value) kept.0) a)

  -- statements in turn
  body_listed : (c : Catalogue) (b : text.Body) (t : Tables) → ListsKeptIn b → Listed t → Listed (block_of c b t).tables
  body_listed c text.done t kept a = a
  body_listed c (text.then spot s body) t kept a =
      body_listed c body (instruction_of c s t).tables kept.1 (stmt_listed c s t kept.0 a)

  -- branches in turn
  branches_listed : (c : Catalogue) (bs : text.Branches) (t : Tables) → ListsKeptAmong bs → Listed t
      → Listed (arms_of c bs t).tables
  branches_listed c text.none t kept a = a
  branches_listed c (text.branch body branches) t kept a =
      branches_listed c branches (block_of c body t).tables kept.1 (body_listed c body t kept.0 a)

-- the entries of a score
entries_listed : (c : Catalogue) (es : List text.Entry) (t : Tables) → AllByRecursion EntryListsKept es → Listed t
    → Listed (outline_from c es t).tables
entries_listed c [] t kept a = a
entries_listed c (text.shape name parts ∷ es) t kept a =
    entries_listed (record c { shapes = named_as name (length t.warps) ∷ c.shapes }) es
    (warp_added (map (part_of c.whole) parts) t) kept.1 (record { lists = a.lists; chords = a.chords })
entries_listed c (text.phrase name body ∷ es) t kept a =
    let b = block_of c body t in
    entries_listed (record c { phrases = named_as name b.value ∷ c.phrases }) es b.tables kept.1
    (body_listed c body t kept.0 a)
entries_listed c (text.plays spot s ∷ es) t kept a =
    entries_listed c es (instruction_of c s t).tables kept.1 (stmt_listed c s t kept.0 a)

-- a whole score
pub tables_listed : (s : text.Score) → AllByRecursion EntryListsKept s.entries → Listed (outline s).tables
tables_listed s kept =
    entries_listed (record { whole = (score_rules s).whole_note; shapes = []; phrases = [] }) s.entries no_tables kept
    (record { lists = refl; chords = refl })
