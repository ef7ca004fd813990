use Rattle.f90_laws.proofs.unique.Statements.{one_reading, one_statement}
use Rattle.f90_laws.proofs.unique.one_reading.Goals as goal

pub returns-clause-statement : goal.returns-clause-statement
returns-clause-statement c = one_statement

pub returns-clause-statements : goal.returns-clause-statements
returns-clause-statements c = one_reading
