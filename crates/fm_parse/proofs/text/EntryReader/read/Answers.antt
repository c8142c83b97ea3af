-- Entries, one behind another, up to the end.
use Rattle.std.proofs.Common.{refl, ◌∙◌}
use Rattle.fm_lex.specs.Tokens.{tokens}
use Rattle.fm_grammar.specs.Table.{first_fault}
use Rattle.fm_terms.proofs.Steps.{passed}
use Rattle.fm_parse.proofs.Onward.{end_only, one_entered, left_fewer, all_entered, found_entry, found_none, leads_on, leads_over}
use Rattle.fm_parse.proofs.Verdicts.{says_trips}
use Rattle.fm_parse.proofs.text.EntryReader.read.Goals as goal

pub returns-in_err-read_entry-clause-trips : goal.returns-in_err-read_entry-clause-trips
returns-in_err-read_entry-clause-trips g c = λ text b.
    let e = c.in_err-read_entry.field-0.0 in
    let is = passed c.from_residual.result e c.from_residual.ensures.1 in
    let F = first_fault (tokens text) in
    rw is (says_trips (tokens text) e
    (c.in_err-read_entry.ensures.follows F 0 end_only refl (c.loop-relay.invariant.leads F b.follows)))

pub loop-relay-smaller : goal.loop-relay-smaller
loop-relay-smaller g c = left_fewer g.M.Maker.is_entered (found_entry g.M.Maker.is_entered c.if-branch.true c.in_ok-read_entry.ensures.text)

pub loop-relay-preserved : goal.loop-relay-preserved
loop-relay-preserved g c =
    one_entered g.M.Maker.is_entered c.loop-relay.invariant
    (found_entry g.M.Maker.is_entered c.if-branch.true c.in_ok-read_entry.ensures.text)
    (λ F a. leads_on c.if-branch.true (c.in_ok-read_entry.ensures.follows F 0 end_only refl a))

pub returns-in_err-check_end-clause-trips : goal.returns-in_err-check_end-clause-trips
returns-in_err-check_end-clause-trips g c = λ text b.
    let e = c.in_err-check_end.field-0.0 in
    let is = passed c.from_residual-in_err-check_end.result e c.from_residual-in_err-check_end.ensures.1 in
    let F = first_fault (tokens text) in
    rw is (says_trips (tokens text) e (c.in_err-check_end.ensures.follows F 0 (leads_over c.if-branch.false
    (c.in_ok-read_entry.ensures.follows F 0 end_only refl (c.loop-relay.invariant.leads F b.follows)))))

pub returns-clause-reads : goal.returns-clause-reads
returns-clause-reads g c = λ text b.
    let F = first_fault (tokens text) in
    let none = c.in_ok-check_end.ensures.follows F 0 (leads_over c.if-branch.false
    (c.in_ok-read_entry.ensures.follows F 0 end_only refl (c.loop-relay.invariant.leads F b.follows))) in
    let over = found_none g.M.Maker.is_entered c.if-branch.false c.in_ok-read_entry.ensures.text in
    all_entered g.M.Maker.is_entered text c.args.self b c.loop-relay.invariant over.0 c.in_ok-check_end.ensures.text.0
    (over.1 ∙ c.in_ok-check_end.ensures.text.1) none
