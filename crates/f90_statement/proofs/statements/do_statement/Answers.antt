use Rattle.std.proofs.Common.{rules}
use Rattle.f90_statement.proofs.BlockLaws.{more_bounds}
use Rattle.f90_statement.proofs.TokenLaws.{denied}
use Rattle.f90_statement.proofs.statements.do_statement.Goals as goal

pub returns-then-not-is_nothing : goal.returns-then-not-is_nothing
returns-then-not-is_nothing c f w t =
    more_bounds _ _ _ c.in-Some.name c.in-Ok.bounds (search rules) c.in-Ok.ensures.only
    (λ e. denied c.is_nothing.result c.is_nothing.ensures c.if-not-is_nothing.true e) f w t
