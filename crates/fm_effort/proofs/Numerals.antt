-- The figures of the policy: nanoseconds, events, operations and processes.
use Rattle.std.proofs.Common.{◌≡◌, refl}
use Rattle.fm_effort.specs.declared.load.TheConstants.{OPERATION, SOUND, LEVEL, EXPRESSION, MOST_OPERATIONS}
use Rattle.fm_effort.specs.declared.useful.TheConstants.{MANY_EVENTS, FEW_EVENTS, LITTLE_WORK, MOST_FOR_AN_EVENT, LEAST_FOR_AN_EVENT, SHARE_OF_A_WORKER}

operation : OPERATION ≡ 20
operation = refl

sound : SOUND ≡ 80
sound = refl

level : LEVEL ≡ 15
level = refl

expression : EXPRESSION ≡ 100
expression = refl

many_events : MANY_EVENTS ≡ 65536
many_events = refl

most_operations : MOST_OPERATIONS ≡ 65536
most_operations = refl

few_events : FEW_EVENTS ≡ 4
few_events = refl

little_work : LITTLE_WORK ≡ 10000
little_work = refl

most_for_an_event : MOST_FOR_AN_EVENT ≡ 512
most_for_an_event = refl

least_for_an_event : LEAST_FOR_AN_EVENT ≡ 100
least_for_an_event = refl

share_of_a_worker : SHARE_OF_A_WORKER ≡ 300
share_of_a_worker = refl
