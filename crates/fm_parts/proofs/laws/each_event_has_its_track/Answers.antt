use Rattle.std.proofs.lemmas.List.Elements.{filter-append}
use Rattle.fm_parts.specs.Format1.{is_on_channel}
use Rattle.fm_parts.proofs.Counts.{counted, all_counted}
use Rattle.fm_parts.proofs.laws.each_event_has_its_track.Goals as goal

pub returns-clause-own : goal.returns-clause-own
returns-clause-own c = counted

pub returns-clause-order : goal.returns-clause-order
returns-clause-order c = λ k xs ys. filter-append (is_on_channel k) xs ys

pub returns-clause-once : goal.returns-clause-once
returns-clause-once c = all_counted
