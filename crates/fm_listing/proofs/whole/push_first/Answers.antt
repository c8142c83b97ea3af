use Rattle.std.proofs.lemmas.Result.{on_ok_weaker, on_err_weaker}
use Rattle.fm_edge.proofs.Chains.{on_err}
use Rattle.fm_edge.proofs.Coming.{come_begun, come_more, come_breaks, come_last, come_last_breaks}
use Rattle.std.proofs.Common.{length}
use Rattle.fm_read.specs.Files.{tracks}
use Rattle.fm_listing.specs.Listing.{first_line}
use Rattle.fm_listing.proofs.whole.push_first.Goals as goal

pub returns-in_err-push_entry-clause-err : goal.returns-in_err-push_entry-clause-err
unfolding first_line
returns-in_err-push_entry-clause-err g c =
    on_err c.from_residual.result
    (come_breaks _ _ _ _ _ _ _ _ _ (rw c.format.ensures.value at c.in_err-push_entry.ensures.err)
    (come_begun _ _ c.args.out.now
    (first_line c.args.file.now.format (length (tracks c.args.file.now.parts)) c.args.file.now.division)))

pub returns-in_err-push_entry-2-clause-err : goal.returns-in_err-push_entry-2-clause-err
unfolding first_line
returns-in_err-push_entry-2-clause-err g c =
    on_err c.from_residual-in_err-push_entry-2.result
    (come_breaks _ _ _ _ _ _ _ _ _ (rw c.tracks.ensures.value at c.in_err-push_entry-2.ensures.err)
    (come_more _ _ _ _ _ _ _ _ _ _ (rw c.format.ensures.value at c.in_ok-push_entry.ensures.ok)
    (come_begun _ _ c.args.out.now
    (first_line c.args.file.now.format (length (tracks c.args.file.now.parts)) c.args.file.now.division))))

pub returns-in_err-push_entry-3-clause-err : goal.returns-in_err-push_entry-3-clause-err
unfolding first_line
returns-in_err-push_entry-3-clause-err g c =
    on_err c.from_residual-in_err-push_entry-3.result
    (come_breaks _ _ _ _ _ _ _ _ _ (rw c.division.ensures.value at c.in_err-push_entry-3.ensures.err)
    (come_more _ _ _ _ _ _ _ _ _ _ (rw c.tracks.ensures.value at c.in_ok-push_entry-2.ensures.ok)
    (come_more _ _ _ _ _ _ _ _ _ _ (rw c.format.ensures.value at c.in_ok-push_entry.ensures.ok)
    (come_begun _ _ c.args.out.now
    (first_line c.args.file.now.format (length (tracks c.args.file.now.parts)) c.args.file.now.division)))))

pub returns-clause-ok : goal.returns-clause-ok
unfolding first_line
returns-clause-ok g c =
    on_ok_weaker c.push.result
    (λ pass. come_last _ _ _ _ _ _ _ _ _ pass
    (come_more _ _ _ _ _ _ _ _ _ _ (rw c.division.ensures.value at c.in_ok-push_entry-3.ensures.ok)
    (come_more _ _ _ _ _ _ _ _ _ _ (rw c.tracks.ensures.value at c.in_ok-push_entry-2.ensures.ok)
    (come_more _ _ _ _ _ _ _ _ _ _ (rw c.format.ensures.value at c.in_ok-push_entry.ensures.ok)
    (come_begun _ _ c.args.out.now
    (first_line c.args.file.now.format (length (tracks c.args.file.now.parts)) c.args.file.now.division))))))
    c.push.ensures.ok

pub returns-clause-err : goal.returns-clause-err
unfolding first_line
returns-clause-err g c =
    on_err_weaker c.push.result
    (λ broke. come_last_breaks _ _ _ _ _ _ _ _ broke
    (come_more _ _ _ _ _ _ _ _ _ _ (rw c.division.ensures.value at c.in_ok-push_entry-3.ensures.ok)
    (come_more _ _ _ _ _ _ _ _ _ _ (rw c.tracks.ensures.value at c.in_ok-push_entry-2.ensures.ok)
    (come_more _ _ _ _ _ _ _ _ _ _ (rw c.format.ensures.value at c.in_ok-push_entry.ensures.ok)
    (come_begun _ _ c.args.out.now
    (first_line c.args.file.now.format (length (tracks c.args.file.now.parts)) c.args.file.now.division))))))
    c.push.ensures.err
