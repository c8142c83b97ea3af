-- An excerpt that is read meets what is asked of a file.
use Rattle.std.proofs.Common.{◌≡◌, ℕ, ◌≤◌, List, length, Option, Some, Ok, sym, ◌∙◌, ap, subst}
use Rattle.fm_msg.specs.declared.profile.Profile.{Profile}
use Rattle.fm_smf.specs.File.{file}
use Rattle.fm_read.specs.Files.{Contents, contents}
use Rattle.fm_read.specs.WrittenFile.{written_contents}
use Rattle.fm_read.specs.declared.limits.TheConstants.{MAX_FILE}
use Rattle.fm_read.proofs.EndsLemmas.{ok_is}
use Rattle.fm_excerpt.specs.Excerpt.{excerpt_events, excerpt_end}
use Rattle.fm_excerpt.specs.Written.{HasExcerpts}
use Rattle.fm_excerpt.proofs.FileLemmas.{excerpt_file, excerpt_again}

pub cut_written : (profile : Profile) (f : Contents) (h : HasExcerpts profile f) (begin : ℕ) (until : Option ℕ) (bytes : List ℕ) →
    bytes ≡ file profile (excerpt_events begin until h.events h.end) (excerpt_end begin until h.end) → length bytes ≤ MAX_FILE →
    (c : Contents) → contents bytes ≡ Ok c → HasExcerpts profile c
cut_written profile f h begin until bytes is small c read =
    let within : length (file profile (excerpt_events begin until h.events h.end) (excerpt_end begin until h.end)) ≤ MAX_FILE =
    subst (λ z. length z ≤ MAX_FILE) is small in
    let again = excerpt_file profile h.events h.end f begin until h.is within in
    let same : written_contents profile (excerpt_events begin until h.events h.end) (excerpt_end begin until h.end) ≡ c =
    ok_is _ c (sym again.is_read ∙ ap contents (sym is) ∙ read) in
    subst (HasExcerpts profile) same (excerpt_again profile h.events h.end f begin until h.is h.in_time within)

-- and so does what a sink in memory holds behind it
pub cut_held : (profile : Profile) (f : Contents) (h : HasExcerpts profile f) (begin : ℕ) (until : Option ℕ) (bytes held : List ℕ) →
    bytes ≡ held → Some held ≡ Some (file profile (excerpt_events begin until h.events h.end) (excerpt_end begin until h.end)) →
    length bytes ≤ MAX_FILE → (c : Contents) → contents bytes ≡ Ok c → HasExcerpts profile c
cut_held profile f h begin until bytes held same whole small = cut_written profile f h begin until bytes (cc) small
