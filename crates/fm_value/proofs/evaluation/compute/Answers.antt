-- What a node computes.
use Rattle.std.proofs.Common.{w64, SFits, refl}
use Rattle.std.proofs.Math.Facts.{to_z-of_z}
use Rattle.fm_value.specs.declared.node.Node.TheVariants as node
use Rattle.fm_value.specs.declared.operation.Operation.TheVariants as op
use Rattle.fm_value.proofs.Computing.{joins}
use Rattle.fm_value.proofs.evaluation.compute.Goals as goal

pub returns-in-Add-clause-value : goal.returns-in-Add-clause-value
returns-in-Add-clause-value g c =
    let fits : SFits w64 c.join.result = record { sfits = c.join.type_inv } in
    rw (c.in-Add.is, to_z-of_z fits) (joins _ node.Add op.Add _ _ _ _ (λ ts. refl) c.join.ensures.value)

pub returns-in-Subtract-clause-value : goal.returns-in-Subtract-clause-value
returns-in-Subtract-clause-value g c =
    let fits : SFits w64 c.join-in-Subtract.result = record { sfits = c.join-in-Subtract.type_inv } in
    rw (c.in-Subtract.is, to_z-of_z fits) (joins _ node.Subtract op.Subtract _ _ _ _ (λ ts. refl) c.join-in-Subtract.ensures.value)

pub returns-in-Multiply-clause-value : goal.returns-in-Multiply-clause-value
returns-in-Multiply-clause-value g c =
    let fits : SFits w64 c.join-in-Multiply.result = record { sfits = c.join-in-Multiply.type_inv } in
    rw (c.in-Multiply.is, to_z-of_z fits) (joins _ node.Multiply op.Multiply _ _ _ _ (λ ts. refl) c.join-in-Multiply.ensures.value)

pub returns-in-Divide-clause-value : goal.returns-in-Divide-clause-value
returns-in-Divide-clause-value g c =
    let fits : SFits w64 c.join-in-Divide.result = record { sfits = c.join-in-Divide.type_inv } in
    rw (c.in-Divide.is, to_z-of_z fits) (joins _ node.Divide op.Divide _ _ _ _ (λ ts. refl) c.join-in-Divide.ensures.value)

pub returns-in-Remain-clause-value : goal.returns-in-Remain-clause-value
returns-in-Remain-clause-value g c =
    let fits : SFits w64 c.join-in-Remain.result = record { sfits = c.join-in-Remain.type_inv } in
    rw (c.in-Remain.is, to_z-of_z fits) (joins _ node.Remain op.Remain _ _ _ _ (λ ts. refl) c.join-in-Remain.ensures.value)

pub returns-in-Min-clause-value : goal.returns-in-Min-clause-value
returns-in-Min-clause-value g c =
    let fits : SFits w64 c.join-in-Min.result = record { sfits = c.join-in-Min.type_inv } in
    rw (c.in-Min.is, to_z-of_z fits) (joins _ node.Min op.Min _ _ _ _ (λ ts. refl) c.join-in-Min.ensures.value)

pub returns-in-Max-clause-value : goal.returns-in-Max-clause-value
returns-in-Max-clause-value g c =
    let fits : SFits w64 c.join-in-Max.result = record { sfits = c.join-in-Max.type_inv } in
    rw (c.in-Max.is, to_z-of_z fits) (joins _ node.Max op.Max _ _ _ _ (λ ts. refl) c.join-in-Max.ensures.value)

pub returns-in-Less-clause-value : goal.returns-in-Less-clause-value
returns-in-Less-clause-value g c =
    let fits : SFits w64 c.join-in-Less.result = record { sfits = c.join-in-Less.type_inv } in
    rw (c.in-Less.is, to_z-of_z fits) (joins _ node.Less op.Less _ _ _ _ (λ ts. refl) c.join-in-Less.ensures.value)

pub returns-in-Same-clause-value : goal.returns-in-Same-clause-value
returns-in-Same-clause-value g c =
    let fits : SFits w64 c.join-in-Same.result = record { sfits = c.join-in-Same.type_inv } in
    rw (c.in-Same.is, to_z-of_z fits) (joins _ node.Same op.Same _ _ _ _ (λ ts. refl) c.join-in-Same.ensures.value)
