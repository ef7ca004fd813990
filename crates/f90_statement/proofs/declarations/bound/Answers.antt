use Rattle.std.proofs.Common.{◌∙◌, ap}
use Rattle.f90_expressions.specs.Literals.{value_in}
use Rattle.f90_statement.proofs.BoundLaws.{bound_found}
use Rattle.f90_statement.proofs.declarations.bound.Goals as goal

pub returns-clause-found : goal.returns-clause-found
returns-clause-found c =
    bound_found _ _ _ _ _ _ c.sign-is_negative.ensures.found c.in-Some.ensures (c.literal-magnitude.ensures ∙ ap value_in c.as_slice.ensures)
