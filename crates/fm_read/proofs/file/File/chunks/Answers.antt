use Rattle.std.proofs.Common.{◌≤◌, length, subst, ap, arith, length-append}
use Rattle.fm_read.specs.declared.limits.TheConstants.{MAX_FILE}
use Rattle.fm_read.specs.Kept.{IsKept, bytes_of}
use Rattle.fm_read.specs.FileForm.{IsFile}
use Rattle.fm_read.proofs.Few.{chunks_few, kept_small}
use Rattle.fm_read.proofs.KeptLemmas.{kept_file}
use Rattle.fm_read.proofs.file.File.chunks.Goals as goal

pub new-requires : goal.new-requires
new-requires c = let kept : IsKept _ _ _ = c.self.invariant in kept.there

pub returns-clause-form : goal.returns-clause-form
returns-clause-form c = subst IsFile c.self.view_is (kept_file _ _ _ c.self.invariant)

pub returns-clause-small : goal.returns-clause-small
returns-clause-small c = subst (λ f. length (bytes_of f) ≤ MAX_FILE) c.self.view_is (kept_small _ _ _ c.self.invariant)

pub returns-clause-few : goal.returns-clause-few
returns-clause-few c =
    omega (
      arith,
      ap length c.new.ensures,
      chunks_few c.self.inside.rest.now,
      length-append c.self.inside.head.now c.self.inside.rest.now,
      c.self.invariant.small,
    )
