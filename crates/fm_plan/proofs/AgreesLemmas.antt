-- What is open for the code stays what is open in the definitions.
use Rattle.std.proofs.Common.{◌≡◌, ℕ, suc, ◌+◌, ◌<◌, List, [], ◌∷◌, ◌++◌, length, refl, sym, ap, ◌∙◌}
use Rattle.std.proofs.Common.{subst, arith, length-append}
use Rattle.std.specs.Prelude.{slice_index_or}
use Rattle.fm_program.specs.declared.op.Turn.{Turn}
use Rattle.fm_program.specs.declared.op.Turn.TheVariants as turn
use Rattle.fm_program.specs.declared.op.Slot.TheVariants as slot
use Rattle.fm_meaning.specs.Rules.{usual_gate, usual_velocity}
use Rattle.fm_meaning.specs.Resolved as meaning
use Rattle.fm_expansion.specs.Homes as homes
use Rattle.fm_expansion.specs.Homes.{loop_frame, loop_round, list_frame, list_of_one, frames_of, slots_of, span_for, turn_for}
use Rattle.fm_expansion.specs.Homes.{at_home, in_scope, in_warp}
use Rattle.fm_expansion.specs.Expansion.{Emitting, with_scopes, nothing_made, outermost}
use Rattle.fm_expansion.proofs.Programs.{at_first, at_seam, reverse_cons}
use Rattle.fm_expansion.proofs.Growing.{Prefix}
use Rattle.fm_outline.specs.declared.lasting.Lasting.{Lasting}
use Rattle.fm_outline.specs.declared.lasting.Lasting.TheVariants as lasting
use Rattle.fm_outline.specs.declared.quality.Quality.{Quality}
use Rattle.fm_outline.specs.declared.quality.Quality.TheVariants as quality
use Rattle.fm_outline.specs.View.{lasting_view, quality_view}
use Rattle.fm_plan.specs.declared.emitter.Emitter.{Emitter}
use Rattle.fm_plan.specs.declared.inside.Inside.{Inside}
use Rattle.fm_plan.specs.Seen.{emitting_of, Makes, Agrees, span_by, turned}

-- ---- emitters

-- nothing made
pub makes_none : (m : Emitter) → Makes m m (emitting_of m)
makes_none m = record { programs = refl; cycles = refl; levels = refl }

-- said otherwise
pub makes_by : (m n : Emitter) (e f : Emitting) → e ≡ f → Makes m n e → Makes m n f
makes_by m n e f same a = record { programs = a.programs ∙ same; cycles = a.cycles; levels = a.levels }

-- where scopes were added, what is open stays
pub agrees_later : (m n : Emitter) (c : Inside) (i : homes.Inside) (e : Emitting) → Agrees m c i → Makes m n e
    → Prefix (emitting_of m).scopes e.scopes → Agrees n c i
agrees_later m n c i e a made grown =
    let is : (emitting_of n).scopes ≡ (emitting_of m).scopes ++ grown.more = ap Emitting.scopes made.programs ∙ grown.is in
    record {
      beat = a.beat;
      gate = a.gate;
      loud = a.loud;
      frames = a.frames;
      channel = a.channel;
      scope = a.scope;
      there = omega (arith, a.there, ap length is, length-append (emitting_of m).scopes grown.more);
      slots = ap (λ l. slice_index_or l i.scope []) is ∙ at_first (emitting_of m).scopes grown.more i.scope [] a.there ∙ a.slots;
      cycles = made.cycles ∙ a.cycles;
      levels = made.levels ∙ a.levels;
    }

-- ---- blocks

-- a duration
pub span_agrees : (t : Turn) (l : Lasting) (hs : List homes.Home) → t ≡ turn_for meaning.duration 0 hs
    → span_by t l ≡ span_for (lasting_view l) hs
span_agrees t (lasting.Ticks n) hs is = refl
span_agrees t (lasting.Computed e most) hs is = refl
span_agrees t lasting.Beat hs is = ap homes.span_at is

-- another channel
pub agrees_channel : (m : Emitter) (c : Inside) (i : homes.Inside) (n : ℕ) → Agrees m c i
    → Agrees m (record c { channel = n }) (record i { channel = n })
agrees_channel m c i n a = record {
  beat = a.beat;
  gate = a.gate;
  loud = a.loud;
  frames = a.frames;
  channel = refl;
  scope = a.scope;
  there = a.there;
  slots = a.slots;
  cycles = a.cycles;
  levels = a.levels;
}

-- a list of one entry
pub agrees_steady : (m : Emitter) (c : Inside) (i : homes.Inside) (q : Quality) (v : ℕ) → Agrees m c i
    → Agrees m (turned c q (turn.Steady v)) (at_home (list_of_one (quality_view q) v) i)
agrees_steady m c i quality.Duration v a = record {
  beat = refl;
  gate = a.gate;
  loud = a.loud;
  frames = a.frames;
  channel = a.channel;
  scope = a.scope;
  there = a.there;
  slots = a.slots;
  cycles = a.cycles;
  levels = a.levels;
}
agrees_steady m c i quality.Articulation v a = record {
  beat = a.beat;
  gate = refl;
  loud = a.loud;
  frames = a.frames;
  channel = a.channel;
  scope = a.scope;
  there = a.there;
  slots = a.slots;
  cycles = a.cycles;
  levels = a.levels;
}
agrees_steady m c i quality.Loudness v a = record {
  beat = a.beat;
  gate = a.gate;
  loud = refl;
  frames = a.frames;
  channel = a.channel;
  scope = a.scope;
  there = a.there;
  slots = a.slots;
  cycles = a.cycles;
  levels = a.levels;
}

-- a frame more
more_frames : (c f : ℕ) → c ≡ f → c + 1 ≡ suc f
more_frames c f is = omega (arith, is)

-- a list in a frame, once it is open
pub agrees_list : (m n : Emitter) (c : Inside) (i : homes.Inside) (q : Quality) (l : ℕ) → Agrees m c i
    → (emitting_of n).scopes ≡ (emitting_of m).scopes → n.cycles.items ≡ m.cycles.items ++ l ∷ [] → n.levels.items ≡ m.levels.items
    → Agrees n (record (turned c q (turn.Cycle c.frames)) { frames = c.frames + 1 }) (at_home (list_frame (quality_view q) l) i)
agrees_list m n c i quality.Duration l a same cycles levels = record {
  beat = ap turn.Cycle a.frames;
  gate = a.gate;
  loud = a.loud;
  frames = more_frames c.frames (frames_of i.homes) a.frames;
  channel = a.channel;
  scope = a.scope;
  there = subst (λ s. i.scope < length s) (sym same) a.there;
  slots = ap (λ s. slice_index_or s i.scope []) same ∙ a.slots;
  cycles = cycles ∙ ap (λ x. x ++ l ∷ []) a.cycles;
  levels = levels ∙ a.levels;
}
agrees_list m n c i quality.Articulation l a same cycles levels = record {
  beat = a.beat;
  gate = ap turn.Cycle a.frames;
  loud = a.loud;
  frames = more_frames c.frames (frames_of i.homes) a.frames;
  channel = a.channel;
  scope = a.scope;
  there = subst (λ s. i.scope < length s) (sym same) a.there;
  slots = ap (λ s. slice_index_or s i.scope []) same ∙ a.slots;
  cycles = cycles ∙ ap (λ x. x ++ l ∷ []) a.cycles;
  levels = levels ∙ a.levels;
}
agrees_list m n c i quality.Loudness l a same cycles levels = record {
  beat = a.beat;
  gate = a.gate;
  loud = ap turn.Cycle a.frames;
  frames = more_frames c.frames (frames_of i.homes) a.frames;
  channel = a.channel;
  scope = a.scope;
  there = subst (λ s. i.scope < length s) (sym same) a.there;
  slots = ap (λ s. slice_index_or s i.scope []) same ∙ a.slots;
  cycles = cycles ∙ ap (λ x. x ++ l ∷ []) a.cycles;
  levels = levels ∙ a.levels;
}

-- a deformation, once it is open
pub agrees_warp : (m n : Emitter) (c : Inside) (i : homes.Inside) (w : ℕ) → Agrees m c i
    → (emitting_of n).scopes ≡ (emitting_of m).scopes → n.cycles.items ≡ m.cycles.items → n.levels.items ≡ m.levels.items ++ w ∷ []
    → Agrees n c (in_warp w i)
agrees_warp m n c i w a same cycles levels = record {
  beat = a.beat;
  gate = a.gate;
  loud = a.loud;
  frames = a.frames;
  channel = a.channel;
  scope = a.scope;
  there = subst (λ s. i.scope < length s) (sym same) a.there;
  slots = ap (λ s. slice_index_or s i.scope []) same ∙ a.slots;
  cycles = cycles ∙ a.cycles;
  levels = levels ∙ ap (λ x. x ++ w ∷ []) a.levels ∙ sym (reverse_cons w i.warps);
}

-- a round that is written out, once its scope is there
pub agrees_round : (m n : Emitter) (c : Inside) (i : homes.Inside) (j : ℕ) (e : Emitting) → Agrees m c i
    → Makes m n (with_scopes ((slot.Fixed j ∷ slots_of i.homes) ∷ []) e) → e.scopes ≡ (emitting_of m).scopes
    → Agrees n (record c { scope = length e.scopes }) (in_scope (loop_round j) (length e.scopes) i)
agrees_round m n c i j e a made same =
    let s = slot.Fixed j ∷ slots_of i.homes in
    let is : (emitting_of n).scopes ≡ e.scopes ++ s ∷ [] = ap Emitting.scopes made.programs in
    record {
      beat = a.beat;
      gate = a.gate;
      loud = a.loud;
      frames = a.frames;
      channel = a.channel;
      scope = refl;
      there = omega (arith, ap length is, length-append e.scopes (s ∷ []));
      slots = ap (λ l. slice_index_or l (length e.scopes) []) is ∙ at_seam e.scopes s [] [];
      cycles = made.cycles ∙ a.cycles;
      levels = made.levels ∙ a.levels;
    }

-- a loop in a frame, once its scope is there
pub agrees_loop : (m n : Emitter) (c : Inside) (i : homes.Inside) (e : Emitting) → Agrees m c i
    → Makes m n (with_scopes ((slot.Frame (frames_of i.homes) ∷ slots_of i.homes) ∷ []) e)
    → Agrees n (record c { frames = c.frames + 1; scope = length e.scopes }) (in_scope loop_frame (length e.scopes) i)
agrees_loop m n c i e a made =
    let s = slot.Frame (frames_of i.homes) ∷ slots_of i.homes in
    let is : (emitting_of n).scopes ≡ e.scopes ++ s ∷ [] = ap Emitting.scopes made.programs in
    record {
      beat = a.beat;
      gate = a.gate;
      loud = a.loud;
      frames = more_frames c.frames (frames_of i.homes) a.frames;
      channel = a.channel;
      scope = refl;
      there = omega (arith, ap length is, length-append e.scopes (s ∷ []));
      slots = ap (λ l. slice_index_or l (length e.scopes) []) is ∙ at_seam e.scopes s [] [];
      cycles = made.cycles ∙ a.cycles;
      levels = made.levels ∙ a.levels;
    }

-- ---- the first statement

-- nothing is open
pub agrees_outermost : (m : Emitter) (c : Inside) → emitting_of m ≡ nothing_made → m.cycles.items ≡ [] → m.levels.items ≡ []
    → c ≡ record {
      beat = turn.Steady 0;
      gate = turn.Steady usual_gate;
      loud = turn.Steady usual_velocity;
      frames = 0;
      channel = 0;
      scope = 0;
    } → Agrees m c outermost
agrees_outermost m c new cycles levels is =
    let none : 0 < 1 = omega arith in
    record {
      beat = ap Inside.beat is;
      gate = ap Inside.gate is;
      loud = ap Inside.loud is;
      frames = ap Inside.frames is;
      channel = ap Inside.channel is;
      scope = ap Inside.scope is;
      there = subst (λ e. 0 < length e.scopes) (sym new) none;
      slots = ap (λ e. slice_index_or e.scopes 0 []) new;
      cycles = cycles;
      levels = levels;
    }
