use Rattle.f77_laws.proofs.FirstFindings as findings
use Rattle.f77_laws.proofs.laws.refusal_is_first.Goals as goal

pub returns-clause-line : goal.returns-clause-line
returns-clause-line c = findings.refusal_is_first

pub returns-clause-refused : goal.returns-clause-refused
returns-clause-refused c = findings.first_is_refused
