use Rattle.f90_statement.proofs.BoundLaws.{upper_found, both_found}
use Rattle.f90_statement.proofs.declarations.given_dimension.Goals as goal

pub returns-in_default-after-clause-found : goal.returns-in_default-after-clause-found
returns-in_default-after-clause-found c = upper_found _ _ _ c.in-Some.ensures.found

pub returns-clause-found : goal.returns-clause-found
returns-clause-found c =
    both_found _ _ _ _ _ _ c.in-Some.ensures.found c.in-Some-after.ensures c.in-Some-bound.ensures.found
