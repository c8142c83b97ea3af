use Rattle.fm_promise.proofs.Accepted.{text_kept}
use Rattle.fm_promise.proofs.kept.accepted_statements_keep_limits.Goals as goal

pub returns : goal.returns
returns c = text_kept
