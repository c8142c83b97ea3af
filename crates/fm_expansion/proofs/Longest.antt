-- The tables of an outline know the greatest entry of all rhythms.
use Rattle.std.proofs.Common.{◌≡◌, ℕ, arith, List, [], ◌∷◌, max, refl, ◌∙◌, length, map}
use Rattle.fm_grammar.specs.declared.number.Number.{Number}
use Rattle.fm_grammar.specs.Score as text
use Rattle.fm_meaning.specs.Rules.{score_rules}
use Rattle.fm_meaning.specs.Resolve.{length_ticks, named_as, part_of, resolved, longest_entry, longest_inside, longest_among, longest_of}
use Rattle.fm_expansion.specs.Outline.{Tables}
use Rattle.fm_expansion.specs.Numbering.{Catalogue, expr_added, list_added, rhythm_added, warp_added, no_tables, draw_numbered, key_numbered, keys_numbered, span_numbered, instruction_of, block_of, arms_of, outline_from, outline}

-- ---- what adds no list

draw_longest : (a : text.Amount) (t : Tables) → (draw_numbered a t).tables.longest ≡ t.longest
draw_longest (text.literal v s) t = refl
draw_longest (text.Amount.computed e) t = refl

key_longest : (p : text.Pitch) (t : Tables) → (key_numbered p t).tables.longest ≡ t.longest
key_longest (text.named k s) t = refl
key_longest (text.keyed a s) t = draw_longest a t

keys_longest : (ps : List text.Pitch) (t : Tables) → (keys_numbered ps t).tables.longest ≡ t.longest
keys_longest [] t = refl
keys_longest (p ∷ ps) t = keys_longest ps (key_numbered p t).tables ∙ key_longest p t

span_longest : (whole : ℕ) (d : text.Duration) (t : Tables) → (span_numbered whole d t).tables.longest ≡ t.longest
span_longest whole (text.fixed l) t = refl
span_longest whole (text.Duration.computed e most) t = refl

-- ---- what has rhythms

mutual
  stmt_longest : (k : Catalogue) (s : text.Stmt) (t : Tables)
      → (instruction_of k s t).tables.longest ≡ max t.longest (longest_entry k.whole s)
  stmt_longest k (text.note ps d) t =
      omega (arith, keys_longest ps t, span_longest k.whole d (keys_numbered ps t).tables)
  stmt_longest k (text.play ps) t = omega (arith, keys_longest ps t)
  stmt_longest k (text.rest d) t = omega (arith, span_longest k.whole d t)
  stmt_longest k text.skip t = omega arith
  stmt_longest k (text.control c a) t = omega (arith, draw_longest a t)
  stmt_longest k (text.program a) t = omega (arith, draw_longest a t)
  stmt_longest k (text.bend a) t = omega (arith, draw_longest a t)
  stmt_longest k (text.set r e) t = omega arith
  stmt_longest k (text.choice e first second) t =
      let u = expr_added e.nodes t in
      omega (arith, body_longest k second (block_of k first u).tables, body_longest k first u)
  stmt_longest k (text.repeat n body) t = body_longest k body t
  stmt_longest k (text.again e most body) t = body_longest k body (expr_added e.nodes t)
  stmt_longest k (text.call name) t = omega arith
  stmt_longest k (text.par branches) t = branches_longest k branches t
  stmt_longest k (text.warp name body) t = body_longest k body t
  stmt_longest k (text.channel n body) t = body_longest k body t
  stmt_longest k (text.volume n body) t = body_longest k body t
  stmt_longest k (text.gate n body) t = body_longest k body t
  stmt_longest k (text.rhythm ls body) t =
      omega (arith, body_longest k body (rhythm_added (map (length_ticks k.whole) ls) t))
  stmt_longest k (text.artic ns body) t = body_longest k body (list_added (map Number.value ns) t)
  stmt_longest k (text.loud ns body) t = body_longest k body (list_added (map Number.value ns) t)

  body_longest : (k : Catalogue) (b : text.Body) (t : Tables)
      → (block_of k b t).tables.longest ≡ max t.longest (longest_inside k.whole b)
  body_longest k text.done t = omega arith
  body_longest k (text.then spot s body) t =
      omega (arith, body_longest k body (instruction_of k s t).tables, stmt_longest k s t)

  branches_longest : (k : Catalogue) (bs : text.Branches) (t : Tables)
      → (arms_of k bs t).tables.longest ≡ max t.longest (longest_among k.whole bs)
  branches_longest k text.none t = omega arith
  branches_longest k (text.branch body bs) t =
      omega (arith, branches_longest k bs (block_of k body t).tables, body_longest k body t)

entries_longest : (k : Catalogue) (es : List text.Entry) (t : Tables)
    → (outline_from k es t).tables.longest ≡ max t.longest (longest_of k.whole es)
entries_longest k [] t = omega arith
entries_longest k (text.shape name parts ∷ es) t =
    entries_longest (record k { shapes = named_as name (length t.warps) ∷ k.shapes }) es
    (warp_added (map (part_of k.whole) parts) t)
entries_longest k (text.phrase name body ∷ es) t =
    let b = block_of k body t in
    let more = record k { phrases = named_as name b.value ∷ k.phrases } in
    omega (arith, entries_longest more es b.tables, body_longest k body t)
entries_longest k (text.plays spot s ∷ es) t =
    omega (arith, entries_longest k es (instruction_of k s t).tables, stmt_longest k s t)

-- of a whole score
pub longest_told : (s : text.Score) → (outline s).tables.longest ≡ (resolved s).longest
longest_told s =
    omega
    (arith, entries_longest (record { whole = (score_rules s).whole_note; shapes = []; phrases = [] }) s.entries no_tables)
