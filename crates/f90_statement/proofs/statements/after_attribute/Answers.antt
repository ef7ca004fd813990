use Rattle.f90_statement.proofs.DeclarationLaws.{no_allocatable}
use Rattle.f90_statement.proofs.statements.after_attribute.Goals as goal

pub returns-in_default-after_keyword : goal.returns-in_default-after_keyword
returns-in_default-after_keyword c a rest h = no_allocatable _ _ c.in-Some.ensures c.in_default-after_keyword.ensures a rest h
