use Rattle.std.proofs.Common.{ap, ◌∙◌}
use Rattle.tree.specs.Plain as P
use Rattle.tree.proofs.Equations.{expression_of-item}
use Rattle.if_convert.specs.Masks.{mask_scalar}
use Rattle.if_convert.proofs.masks.mask.Goals as goal

pub returns : goal.returns
returns c =
    expression_of-item c.scalar.result
    ∙ ap (λ (q : P.Reference). P.Named q.name q.subscripts) (c.scalar.ensures ∙ ap mask_scalar c.in_ok-name.ensures)
