use Rattle.std.proofs.Common.{[], ◌∙◌, arith}
use Rattle.fm_line.specs.Marks.{process_sounds, process_end}
use Rattle.fm_line.proofs.OutKeeping.{count-come_out, length-events}
use Rattle.fm_line.proofs.laws.each_message_comes_out_once.Goals as goal

pub returns-clause-messages : goal.returns-clause-messages
returns-clause-messages c = λ kind e xs. count-come_out kind e [] xs ∙ omega arith

pub returns-clause-events : goal.returns-clause-events
returns-clause-events c = λ j ms. length-events j (process_end j ms) (process_sounds j ms)
