use Rattle.std.proofs.Common.{arith, ◌≤◌, length, ap, ◌∙◌}
use Rattle.f90_statement.specs.Views.{IsDimensionOf}
use Rattle.meaning.specs.element_counts.Counts.{capped}
use Rattle.f90_names.proofs.kinds.OfDeclarations.PlaceLaws.{same_length}
use Rattle.f90_names.proofs.kinds.OfDeclarations.SizeLaws.{some_elements}
use Rattle.f90_names.proofs.kinds.declarations.bounds.elements.Goals as goal

pub returns-in_default : goal.returns-in_default
returns-in_default c ds a n =
    let l : 1 ≤ length ds = omega (arith, same_length IsDimensionOf c.args.dimensions.now ds a) in
    c.product.ensures ds a n ∙ ap capped (some_elements ds l)
