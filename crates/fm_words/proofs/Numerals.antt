-- The limits of the options, and what stands where one is not given in numbers.
use Rattle.std.proofs.Common.{◌≡◌, refl}
use Rattle.fm_words.specs.declared.limits.TheConstants.{DEFAULT_LEAD, DEFAULT_PROCESS, DEFAULT_ROOM, DEFAULT_WORKERS, MAX_GENERATE, MAX_LEAD, MAX_PROCESS, MAX_ROOM, MAX_TICK_ASKED, MAX_WORKERS, MIN_ROOM}

most_workers : MAX_WORKERS ≡ 16
most_workers = refl

usual_workers : DEFAULT_WORKERS ≡ 4
usual_workers = refl

most_lead : MAX_LEAD ≡ 1000000
most_lead = refl

usual_lead : DEFAULT_LEAD ≡ 7680
usual_lead = refl

least_room : MIN_ROOM ≡ 1
least_room = refl

most_room : MAX_ROOM ≡ 64
most_room = refl

usual_room : DEFAULT_ROOM ≡ 32
usual_room = refl

most_large_score : MAX_GENERATE ≡ 999999999
most_large_score = refl

most_tick : MAX_TICK_ASKED ≡ 1099511627776
most_tick = refl

most_process : MAX_PROCESS ≡ 16383
most_process = refl

usual_process : DEFAULT_PROCESS ≡ 0
usual_process = refl
