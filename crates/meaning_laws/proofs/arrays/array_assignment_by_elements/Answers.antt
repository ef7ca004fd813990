use Rattle.meaning_laws.proofs.arrays.Assignments.{writes_are_effects, effects_are_writes}
use Rattle.meaning_laws.proofs.arrays.array_assignment_by_elements.Goals as goal

pub returns-clause-effects : goal.returns-clause-effects
returns-clause-effects c = writes_are_effects

pub returns-clause-writes : goal.returns-clause-writes
returns-clause-writes c = effects_are_writes
