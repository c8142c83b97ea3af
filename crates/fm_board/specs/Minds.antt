-- What each step makes of what a seat knows, and what a seat of a new board knows.
use Rattle.std.specs.Prelude.{ℕ, zero, suc, ◌+◌, min, List, [], ◌∷◌, ◌++◌, length, replicate, false, if◌then◌else◌, None, slice_index_or, slice_set}
use Rattle.fm_core.specs.Tags.{has_nothing, is_ended, is_unborn}
use Rattle.fm_core.specs.declared.step.Step.{Step}
use Rattle.fm_core.specs.declared.step.Step.TheVariants.{Look, Recall, Release}
use Rattle.fm_core.specs.declared.floor.Floor.TheVariants.{At}
use Rattle.fm_core.specs.declared.tag.Tag.{Tag}
use Rattle.fm_core.specs.declared.due.Due.TheVariants.{Nothing}
use Rattle.fm_program.specs.Parts.{PlanParts}
use Rattle.fm_board.specs.declared.about.About.{About}
use Rattle.fm_board.specs.declared.view.View.{View}
use Rattle.fm_board.specs.declared.view.Log.{Log}
use Rattle.fm_board.specs.declared.view.Mind.{Mind}
use Rattle.fm_board.specs.View.{processes, released}
use Rattle.fm_strand.specs.Course.{steps_of}

-- the log of a seat that made one step more, and has seen these
abbrev pub did : Mind → Step → List Step → Log
did m x xs = record m.log { mine = m.log.mine ++ x ∷ []; seen = xs }

-- the log of a seat that looked at the process, found this tag, and has seen these steps
abbrev pub did_look : Mind → ℕ → Tag → List Step → Log
did_look m p t xs = record { mine = m.log.mine ++ Look m.view.number p ∷ []; seen = xs; idle = has_nothing t }

-- the seat gave this word of the process, with so many steps left, and has this view and this log
abbrev pub noticed : Mind → ℕ → Tag → ℕ → ℕ → View → Log → Mind
noticed m p t c n v l = record m {
  view = v;
  known = slice_set m.known p c;
  over = slice_set m.over p (is_ended t);
  left = slice_set m.left p n;
  at = processes m.view;
  log = l;
}

-- how many steps are left at most, once the seat saw this word of the process: of one that is born no more than its
-- program has
abbrev pub left_seen : Mind → ℕ → Tag → List ℕ
left_seen m p t =
    if is_unborn t then m.left else slice_set m.left p (min (slice_index_or m.left p 0) (steps_of m.view.plan p))

-- the seat saw this word r of the process, and has this view and this log
abbrev pub spotted : Mind → ℕ → Tag → ℕ → ℕ → View → Log → Mind
spotted m p t c r v l = record m {
  view = v;
  known = slice_set m.known p c;
  over = slice_set m.over p (is_ended t);
  last = r;
  left = left_seen m p t;
  at = p;
  log = l;
}

-- the seat changed that word
abbrev pub turned : Mind → Mind
turned m = record m { at = processes m.view }

-- the seat has this view
abbrev pub viewing : Mind → View → Mind
viewing m v = record m { view = v }

-- the seat made this step, has this view, and has seen these steps
abbrev pub stepping : Mind → Step → View → List Step → Mind
stepping m x v xs = record m { view = v; log = did m x xs }

-- the log of a seat that found the word of a process, where it is no look: it recalls the process where that is ended,
-- and has seen these steps then
abbrev pub recalled : Mind → ℕ → List Step → Tag → Log
recalled m p xs t = if is_ended t then did m (Recall m.view.number p) xs else m.log

-- what is gathered counts as released; it is seen in the run with the seat's next step on a word
abbrev pub settled : Mind → Mind
settled m = stepping m (Release (length m.view.gathered)) (released m.view (length m.view.gathered)) m.log.seen

-- what a seat that holds nothing knows of a new board
abbrev pub fresh_view : PlanParts → ℕ → ℕ → ℕ → View
fresh_view p lead seats number = record {
  plan = p;
  lead = lead;
  seats = seats;
  number = number;
  holds = None;
  sweep = [];
  paced = At 0;
  heeded = false;
  due = Nothing;
  visited = replicate (length p.programs) false;
  gathered = [];
  released = 0;
  published = At 0;
  halted = false;
}

-- the steps of so many processes from this one on, and one more each
abbrev pub lefts_from : PlanParts → ℕ → ℕ → List ℕ
lefts_from p k zero = []
lefts_from p k (suc n) = (steps_of p k + 1) ∷ lefts_from p (suc k) n

-- the steps of each process of the plan, and one more
unfoldable pub all_lefts : PlanParts → List ℕ
all_lefts p = lefts_from p 0 (length p.programs)

-- the seat of this number, that has made so many seats
abbrev pub fresh : PlanParts → ℕ → ℕ → ℕ → ℕ → ℕ → Mind
fresh p room lead seats number made = record {
  view = fresh_view p lead seats number;
  known = replicate (length p.programs) 0;
  over = replicate (length p.programs) false;
  left = all_lefts p;
  last = 0;
  at = length p.programs;
  made = made;
  room = room;
  log = record { mine = []; seen = []; idle = false };
}

-- seat 0 of a new board
abbrev pub first_mind : About → Mind
first_mind a = fresh a.plan a.room a.lead a.seats 0 1

-- seat 0 makes one more seat
abbrev pub one_more : Mind → Mind
one_more m = record m { made = m.made + 1 }

-- and that seat knows this
abbrev pub newest : Mind → Mind
newest m = fresh m.view.plan m.room m.view.lead m.view.seats m.made 0
