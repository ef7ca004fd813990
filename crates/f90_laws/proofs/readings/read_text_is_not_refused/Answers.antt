use Rattle.f90_laws.proofs.readings.Refusing.{read_for_names, not_refused}
use Rattle.f90_laws.proofs.readings.read_text_is_not_refused.Goals as goal

pub returns-clause-names : goal.returns-clause-names
returns-clause-names c = read_for_names

pub returns-clause-within : goal.returns-clause-within
returns-clause-within c = not_refused
