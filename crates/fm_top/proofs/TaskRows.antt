-- Worked tasks: what settings ask for, and which of them counts first.
use Rattle.std.proofs.Common.{◌≡◌, ℕ, [], ◌∷◌, Some, None, true, false, map, codes, refl}
use Rattle.fm_way.specs.declared.taped.Setup.{Setup}
use Rattle.fm_words.specs.Settings.{Settings}
use Rattle.fm_top.specs.declared.task.Task.TheVariants.{Play, Split, Excerpt, List, Record, Audit, Locate}
use Rattle.fm_top.specs.Tasks.{task_of}

-- so many workers, with the room and the lead of the rows
abbrev on_record : ℕ → Setup
on_record n = record { workers = n; room = 5; lead = 4 }

-- settings that ask for everything
abbrev everything : Settings
everything = record {
  source = codes "in";
  target = codes "out";
  workers = 3;
  lead = 4;
  room = 5;
  generate = Some 6;
  rounds = true;
  list = true;
  parts = true;
  locate = Some 7;
  process = 8;
  from = Some 9;
  to = Some 10;
  recorded = true;
  audited = true;
}

-- each of these asks for one thing less than the one before it
abbrev unaudited : Settings
unaudited = record everything { audited = false }

abbrev unlisted : Settings
unlisted = record unaudited { list = false }

abbrev unrecorded : Settings
unrecorded = record unlisted { recorded = false }

abbrev unlocated : Settings
unlocated = record unrecorded { locate = None }

abbrev unparted : Settings
unparted = record unlocated { parts = false }

abbrev to_an_end : Settings
to_an_end = record unparted { from = None }

abbrev whole : Settings
whole = record to_an_end { to = None }

-- the first that is asked for counts; without a begin an excerpt begins at 0
tasks_in_turn :
    map task_of (everything ∷ unaudited ∷ unlisted ∷ unrecorded ∷ unlocated ∷ unparted ∷ to_an_end ∷ whole ∷ [])
    ≡ Audit ∷ List ∷ Record (Some 6) (on_record 3) ∷ Locate (Some 6) 7 8 ∷ Split (Some 6) ∷ Excerpt (Some 6) 9 (Some 10)
    ∷ Excerpt (Some 6) 0 (Some 10) ∷ Play (Some 6) ∷ []
tasks_in_turn = refl

-- an excerpt to the end of the score
to_the_end : task_of (record unparted { to = None }) ≡ Excerpt (Some 6) 9 None
to_the_end = refl

-- on record there is one worker at least
one_worker_on_record : map (λ workers. task_of (record unlisted { workers = workers })) (0 ∷ 1 ∷ 2 ∷ [])
    ≡ Record (Some 6) (on_record 1) ∷ Record (Some 6) (on_record 1) ∷ Record (Some 6) (on_record 2) ∷ []
one_worker_on_record = refl
