use Rattle.std.proofs.Common.{None, map, string_bytes, subst}
use Rattle.std.proofs.lemmas.Result.{err_from_is_err_and}
use Rattle.clap.specs.Faults.{fault_of}
use Rattle.fm_words.specs.Command.{command}
use Rattle.fm_words.specs.View.{IsRefusedBy}
use Rattle.fm_words.specs.declared.words_fault.WordsFault.{WordsFault}
use Rattle.fm_words.proofs.Simple.{settings_accepted, settings_refused}
use Rattle.fm_words.proofs.options.read_options.Goals as goal

-- the command found a fault
pub returns-in_err-matches-clause-words : goal.returns-in_err-matches-clause-words
returns-in_err-matches-clause-words c =
    let kinds = fault_of command (map string_bytes c.args.words.now) in
    let passed_on = err_from_is_err_and c.from_residual.result c.from_residual.ensures.1 in
    rw (passed_on.1, passed_on.2) (λ is. settings_refused _
    (subst (λ (fault : WordsFault). IsRefusedBy kinds fault) is c.in_err-matches.ensures.err))

-- a number is none or out of its range
pub returns-in_default-clause-words : goal.returns-in_default-clause-words
returns-in_default-clause-words c =
    λ _. settings_accepted _ _ None c.in_ok-matches.ensures.ok.0 c.in_ok-matches.ensures.ok.1 c.in_default.ensures.is

pub returns-clause-ok : goal.returns-clause-ok
returns-clause-ok c =
    rw (c.in_ok-source.ensures.ok, c.in_ok-target.ensures.ok)
    (settings_accepted _ _ _ c.in_ok-matches.ensures.ok.0 c.in_ok-matches.ensures.ok.1 c.in-Some.ensures.is)
