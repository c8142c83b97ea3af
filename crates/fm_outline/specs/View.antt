-- What an outline of the code stands for: each phrase in the place of its number.
use Rattle.std.specs.Prelude.{ℕ, List, [], ◌∷◌, ◌++◌, map, vec_items, slice_index_or, Option, None, Some}
use Rattle.fm_lex.specs.declared.spot.Spot.{Spot}
use Rattle.fm_program.specs.Parts.{expr_nodes}
use Rattle.fm_meaning.specs.Resolved as meaning
use Rattle.fm_expansion.specs.Outline as plain
use Rattle.fm_expansion.specs.Numbering.{Numbered, numbered}
use Rattle.fm_outline.specs.declared.lasting.Lasting.{Lasting}
use Rattle.fm_outline.specs.declared.lasting.Lasting.TheVariants as lasting
use Rattle.fm_outline.specs.declared.quality.Quality.{Quality}
use Rattle.fm_outline.specs.declared.quality.Quality.TheVariants as quality
use Rattle.fm_outline.specs.declared.step.Step.{Step}
use Rattle.fm_outline.specs.declared.step.Instruction.TheOpen.{Instruction-F, Step-F}
use Rattle.fm_outline.specs.declared.step.Instruction.TheFolds.{fold-Step, fold-Instruction}
use Rattle.fm_outline.specs.declared.step.Instruction.{Instruction}
use Rattle.fm_outline.specs.declared.tables.Tables.{Tables}
use Rattle.fm_outline.specs.declared.outline.Outline.{Outline}

-- a duration
abbrev pub lasting_view : Lasting → plain.Lasting
lasting_view (lasting.Ticks n) = plain.ticks n
lasting_view (lasting.Computed e most) = plain.computed e most
lasting_view lasting.Beat = plain.beat

-- what a list gives
abbrev pub quality_view : Quality → meaning.Quality
quality_view quality.Duration = meaning.duration
quality_view quality.Articulation = meaning.articulation
quality_view quality.Loudness = meaning.loudness

-- ---- statements

-- what phrases stand for by their numbers
abbrev pub Look : Type 0
Look = ℕ → plain.Block

-- a statement with its spot
pub record Placed : Type 0 where
  pub spot : Spot
  pub what : plain.Instruction

-- statements before others
abbrev pub before : List Placed → plain.Block → plain.Block
before [] b = b
before (p ∷ ps) b = plain.item p.spot p.what (before ps b)

-- statements in their order
abbrev pub block_of_placed : List Placed → plain.Block
block_of_placed ps = before ps plain.done

-- branches before others
abbrev pub arms_before : List plain.Block → plain.Arms → plain.Arms
arms_before [] a = a
arms_before (b ∷ bs) a = plain.arm b (arms_before bs a)

-- branches in their order
abbrev pub arms_of_blocks : List plain.Block → plain.Arms
arms_of_blocks bs = arms_before bs plain.joined

-- the phrase of a number, empty where there is no number
abbrev pub phrase_at : Look → Option ℕ → plain.Block
phrase_at look None = plain.done
phrase_at look (Some n) = look n

-- one level of a statement, where what stands inside is seen already
abbrev pub instruction_level : Look → Instruction-F plain.Instruction Placed → plain.Instruction
instruction_level look (Instruction-F.Note chord l) = plain.note chord (lasting_view l)
instruction_level look (Instruction-F.Rest l) = plain.rest (lasting_view l)
instruction_level look (Instruction-F.Send point draw) = plain.send point draw
instruction_level look (Instruction-F.Set register expr) = plain.assign register expr
instruction_level look (Instruction-F.Choice expr ys ns) =
    plain.choice expr (block_of_placed ys.items) (block_of_placed ns.items)
instruction_level look (Instruction-F.Loop count b) = plain.loop count (block_of_placed b.items)
instruction_level look (Instruction-F.Phrase number) = plain.phrase (phrase_at look number)
instruction_level look (Instruction-F.Par bs) = plain.par (arms_of_blocks (map (λ b. block_of_placed b.items) bs.items))
instruction_level look (Instruction-F.Warp number b) = plain.warp number (block_of_placed b.items)
instruction_level look (Instruction-F.Channel number b) = plain.channel number (block_of_placed b.items)
instruction_level look (Instruction-F.Steady q entry b) =
    plain.steady (quality_view q) entry (block_of_placed b.items)
instruction_level look (Instruction-F.Under q list b) =
    plain.under (quality_view q) list (block_of_placed b.items)

-- one level of a step
abbrev pub step_level : Step-F plain.Instruction Placed → Placed
step_level s = record { spot = s.spot; what = s.what }

-- what a step says
abbrev pub instruction_view : Look → Instruction → plain.Instruction
instruction_view look = fold-Instruction plain.Instruction Placed (instruction_level look) step_level

-- a step
abbrev pub step_view : Look → Step → Placed
step_view look = fold-Step plain.Instruction Placed (instruction_level look) step_level

-- a list of steps
abbrev pub block_view : Look → List Step → plain.Block
block_view look steps = block_of_placed (map (step_view look) steps)

-- ---- phrases

-- the phrases of a list by their numbers, empty where there is none
abbrev pub look_in : List plain.Block → Look
look_in blocks n = slice_index_or blocks n plain.done

-- phrases behind others: each sees those before it
abbrev pub phrases_behind : List plain.Block → List (List Step) → List plain.Block
phrases_behind blocks [] = blocks
phrases_behind blocks (p ∷ ps) = phrases_behind (blocks ++ block_view (look_in blocks) p ∷ []) ps

-- what the phrases stand for
abbrev pub phrases_view : List (List Step) → List plain.Block
phrases_view ps = phrases_behind [] ps

-- ---- outlines

-- the tables
abbrev pub tables_view : Tables → plain.Tables
tables_view t = record {
  exprs = map expr_nodes t.exprs.items;
  lists = map vec_items t.lists.items;
  chords = map vec_items t.chords.items;
  warps = t.warps.items;
  longest = t.longest;
}

-- what a phrase of the outline stands for, by its number
abbrev pub look_of : Outline → Look
look_of o = look_in (phrases_view (map vec_items o.phrases.items))

-- the statements that are played, and the tables behind them
abbrev pub outline_view : Outline → Numbered plain.Block
outline_view o = numbered (block_view (look_of o) o.block.items) (tables_view o.tables)
