use Rattle.meaning_laws.proofs.arrays.Assignments.{array_assignment_in_turn, elements_in_turn_at_once}
use Rattle.meaning_laws.proofs.arrays.array_assignment_in_turn.Goals as goal

pub returns-clause-at_once : goal.returns-clause-at_once
returns-clause-at_once c = array_assignment_in_turn

pub returns-clause-in_turn : goal.returns-clause-in_turn
returns-clause-in_turn c = elements_in_turn_at_once
