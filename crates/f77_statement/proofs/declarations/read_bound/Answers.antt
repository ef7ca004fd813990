use Rattle.f77_grammar.specs.syntax.Views.{bounds_of}
use Rattle.f77_statement.proofs.BoundLaws.{if_ok, upper_found, both_found}
use Rattle.f77_statement.proofs.declarations.read_bound.Goals as goal

pub returns-in-Some-clause-found : goal.returns-in-Some-clause-found
returns-in-Some-clause-found c = if_ok (λ r h. both_found _ _ _ _ c.in-Ok.first (bounds_of r.0) r.1 c.in-Ok.ensures.found c.in-Some.ensures h) c.read_upper.result c.read_upper.ensures.found

pub returns-in-None-clause-found : goal.returns-in-None-clause-found
returns-in-None-clause-found c = upper_found _ _ c.in-Ok.first _ _ c.in-Ok.ensures.found c.upper-bounds.ensures.bounds c.upper-bounds.ensures.depth
