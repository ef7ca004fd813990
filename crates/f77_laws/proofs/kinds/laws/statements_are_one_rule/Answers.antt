use Rattle.f77_laws.proofs.kinds.StatementLaws as laws
use Rattle.f77_laws.proofs.kinds.laws.statements_are_one_rule.Goals as goal

pub returns-clause-whole : goal.returns-clause-whole
returns-clause-whole c = laws.one_rule_of_statements

pub returns-clause-read : goal.returns-clause-read
returns-clause-read c = laws.one_rule_of_read

pub returns-clause-clash : goal.returns-clause-clash
returns-clause-clash c = laws.clashes_by_tree
