use Rattle.fm_promise.proofs.Accepted.{text_listed}
use Rattle.fm_promise.proofs.kept.accepted_lists_have_entries.Goals as goal

pub returns : goal.returns
returns c = text_listed
