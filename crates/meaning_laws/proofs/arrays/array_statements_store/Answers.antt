use Rattle.meaning_laws.proofs.arrays.Assignments.{array_assignment_stores, array_statement_stores, where_stores}
use Rattle.meaning_laws.proofs.arrays.array_statements_store.Goals as goal

pub returns-clause-assignment : goal.returns-clause-assignment
returns-clause-assignment c = array_assignment_stores

pub returns-clause-statement : goal.returns-clause-statement
returns-clause-statement c = array_statement_stores

pub returns-clause-where_statement : goal.returns-clause-where_statement
returns-clause-where_statement c = where_stores
