use Rattle.std.proofs.Common.{rules}
use Rattle.f90_statement.proofs.ArrayLaws.{allocate_is}
use Rattle.f90_statement.proofs.TokenLaws.{told}
use Rattle.f90_statement.proofs.statements.allocate.Goals as goal

pub returns-else-not-ends_allocate : goal.returns-else-not-ends_allocate
returns-else-not-ends_allocate c =
    allocate_is _ _ _ _ c.in-Ok.extents (search rules) c.in-Ok.ensures.found
    (told c.ends_allocate.result c.ends_allocate.ensures c.if-not-ends_allocate.false)
