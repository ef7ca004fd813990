use Rattle.f90_statement.proofs.items.OfParts.BoundLaws.{bounds_found, bounds_only}
use Rattle.f90_statement.proofs.items.parts.bounds.Bounds.read.Goals as goal

pub returns-clause-found : goal.returns-clause-found
returns-clause-found c =
    bounds_found _ _ _ _ _ _ _ _ c.in_ok-first.ensures.found c.in-Some.ensures c.in_ok-last.ensures.found c.in_ok-step.ensures.found

pub returns-clause-only : goal.returns-clause-only
returns-clause-only c p q r rest g h e =
    bounds_only _ _ _ _ _ _ _ _ p q r rest c.in_ok-first.ensures.only c.in-Some.ensures c.in_ok-last.ensures.only c.in_ok-step.ensures.only g h e
