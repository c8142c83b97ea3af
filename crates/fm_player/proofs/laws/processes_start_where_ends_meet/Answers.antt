use Rattle.fm_player.proofs.MeetLemmas.{end-levels, first-place, starts-meeting}
use Rattle.fm_player.proofs.laws.processes_start_where_ends_meet.Goals as goal

pub returns-clause-root : goal.returns-clause-root
returns-clause-root c = λ p fits. first-place p fits

pub returns-clause-meet : goal.returns-clause-meet
returns-clause-meet c = λ p j fits below. starts-meeting p j fits below

pub returns-clause-levels : goal.returns-clause-levels
returns-clause-levels c = λ p j k fits below inside. end-levels p j k fits below inside
