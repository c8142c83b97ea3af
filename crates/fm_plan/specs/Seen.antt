-- What the code's values stand for while programs are made.
use Rattle.std.specs.Prelude.{◌≡◌, ◌<◌, List, [], map, length, reverse, slice_index_or, vec_items}
use Rattle.fm_program.specs.declared.op.Span.{Span}
use Rattle.fm_program.specs.declared.op.Span.TheVariants as span
use Rattle.fm_program.specs.declared.op.Turn.{Turn}
use Rattle.fm_program.specs.Parts.{PlanParts, program_parts}
use Rattle.fm_meaning.specs.Rules.{usual_gate, usual_velocity}
use Rattle.fm_meaning.specs.Resolved.{duration, articulation, loudness}
use Rattle.fm_expansion.specs.Homes as homes
use Rattle.fm_expansion.specs.Homes.{turn_for, span_at, frames_of, slots_of, cycles_of}
use Rattle.fm_expansion.specs.Expansion.{Emitting, expansion}
use Rattle.fm_outline.specs.declared.lasting.Lasting.{Lasting}
use Rattle.fm_outline.specs.declared.lasting.Lasting.TheVariants as lasting
use Rattle.fm_outline.specs.declared.quality.Quality.{Quality}
use Rattle.fm_outline.specs.declared.quality.Quality.TheVariants as quality
use Rattle.fm_outline.specs.declared.step.Step.{Step}
use Rattle.fm_outline.specs.declared.outline.Outline.{Outline}
use Rattle.fm_outline.specs.Forking.{PhrasesMarked}
use Rattle.fm_outline.specs.View.{Look, look_in, outline_view, phrases_view}
use Rattle.fm_plan.specs.declared.emitter.Emitter.{Emitter}
use Rattle.fm_plan.specs.declared.expanding.Earlier.{Earlier}
use Rattle.fm_plan.specs.declared.inside.Inside.{Inside}

-- the programs that an emitter holds
abbrev pub emitting_of : Emitter → Emitting
emitting_of m = record {
  finished = map program_parts m.finished.items;
  current = program_parts m.current;
  scopes = m.scopes;
}

-- an emitter came to these programs, and has the same open
pub record Makes (old new : Emitter) (e : Emitting) : Type 0 where
  pub programs : emitting_of new ≡ e
  pub cycles : new.cycles.items ≡ old.cycles.items
  pub levels : new.levels.items ≡ old.levels.items

-- ---- what is open

-- a duration, where durations are taken from this turn
abbrev pub span_by : Turn → Lasting → Span
span_by beat (lasting.Ticks n) = span.Ticks n
span_by beat (lasting.Computed e most) = span.Drawn e most
span_by beat lasting.Beat = span_at beat

-- a quality taken from another turn
abbrev pub turned : Inside → Quality → Turn → Inside
turned c quality.Duration t = record c { beat = t }
turned c quality.Articulation t = record c { gate = t }
turned c quality.Loudness t = record c { loud = t }

-- what is open for the code is what is open in the definitions
pub record Agrees (m : Emitter) (c : Inside) (i : homes.Inside) : Type 0 where
  pub beat : c.beat ≡ turn_for duration 0 i.homes
  pub gate : c.gate ≡ turn_for articulation usual_gate i.homes
  pub loud : c.loud ≡ turn_for loudness usual_velocity i.homes
  pub frames : c.frames ≡ frames_of i.homes
  pub channel : c.channel ≡ i.channel
  pub scope : c.scope ≡ i.scope
  pub there : i.scope < length (emitting_of m).scopes
  pub slots : slice_index_or (emitting_of m).scopes i.scope [] ≡ slots_of i.homes
  pub cycles : m.cycles.items ≡ cycles_of i.homes
  pub levels : m.levels.items ≡ reverse i.warps

-- ---- phrases

-- what phrases stand for by their numbers
abbrev pub look_at : List (List Step) → Look
look_at earlier = look_in (phrases_view earlier)

-- the same of those before a statement
abbrev pub look_of : Earlier → Look
look_of e = look_at (map vec_items e.bodies.now)

-- their statements say rightly whether they fork
abbrev pub IsKnown : Earlier → Type 0
IsKnown e = PhrasesMarked (map vec_items e.bodies.now)

-- ---- plans

-- the plan of an outline
abbrev pub outline_plan : Outline → PlanParts
outline_plan o = let v = outline_view o in expansion v.tables o.seed o.rules.profile v.value
