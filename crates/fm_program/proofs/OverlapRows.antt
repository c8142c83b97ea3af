-- Worked plans of notes that overlap, computed by hand.
use Rattle.std.proofs.Common.{◌≡◌, refl, [], ◌∷◌, true, pos}
use Rattle.std.proofs.Math.Nat.{le-add_right}
use Rattle.fm_tick.specs.Quotient.{flat_of}
use Rattle.fm_tick.specs.declared.stretch.Stretch.{Stretch}
use Rattle.fm_warp.specs.declared.part.Part.TheVariants as part
use Rattle.fm_msg.specs.declared.msg.Msg.TheVariants.{On, Off}
use Rattle.fm_program.specs.declared.op.Draw.TheVariants as draw
use Rattle.fm_program.specs.declared.op.Span.TheVariants as span
use Rattle.fm_program.specs.declared.op.Turn.TheVariants as turn
use Rattle.fm_program.specs.declared.op.Op.{Op}
use Rattle.fm_program.specs.declared.op.Op.TheVariants as op
use Rattle.fm_program.specs.Parts.{PlanParts}
use Rattle.fm_program.specs.Process.{plan_lines}
use Rattle.fm_program.specs.Fit.{op_fits}
use Rattle.fm_program.proofs.Rows.{first_program, one_key, one_program, plain_profile}

-- the greatest articulation, four times the whole
most_gate_fits : op_fits one_key 1 0 (op.Note 0 (span.Ticks 480) 0 (turn.Steady 400) (turn.Steady 64) 0) ≡ true
most_gate_fits = refl

-- a note of a quarter that sounds for a half
abbrev long_note : Op
long_note = op.Note 0 (span.Ticks 480) 0 (turn.Steady 200) (turn.Steady 64) 0

-- two of them, of one key: each has its own note-off, and that of the second comes out where the process ends
two_notes : plan_lines (one_program (long_note ∷ long_note ∷ []))
    ≡ record {
      events = record { time = 0; process = 0; index = 0; msg = On 0 60 64 }
          ∷ record { time = 480; process = 0; index = 1; msg = On 0 60 64 }
          ∷ record { time = 960; process = 0; index = 2; msg = Off 0 60 }
          ∷ record { time = 960; process = 0; index = 3; msg = Off 0 60 } ∷ [];
      predecessors = [];
      end = 960;
    } ∷ []
two_notes = refl

-- half as long
abbrev half : Stretch
half = record { thousandths = 500; positive = le-add_right 1 499; limited = le-add_right 500 999500 }

-- a note in a level of ten ticks at half their length, which sounds on behind it, and a rest
abbrev level_plan : PlanParts
level_plan = record {
  stock = record {
    exprs = [];
    lists = [];
    chords = (draw.Fixed (pos 60) ∷ []) ∷ [];
    scopes = [] ∷ [];
    warps = (part.Flat 10 half ∷ []) ∷ [];
  };
  programs = first_program (op.Enter 0 ∷ op.Note 0 (span.Ticks 10) 0 (turn.Steady 400) (turn.Steady 64) 0
      ∷ op.Leave ∷ op.Rest (span.Ticks 100) 0 ∷ []) ∷ [];
  seed = 0;
  profile = plain_profile;
}

-- its end 40 lies at 5, and 30 behind
level_line : plan_lines level_plan
    ≡ record {
      events = record { time = 0; process = 0; index = 0; msg = On 0 60 64 }
          ∷ record { time = 35; process = 0; index = 1; msg = Off 0 60 } ∷ [];
      predecessors = [];
      end = 105;
    } ∷ []
unfolding flat_of
level_line = refl
