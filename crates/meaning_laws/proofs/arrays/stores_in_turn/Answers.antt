use Rattle.meaning_laws.proofs.arrays.Turns.{in_turn_is_at_once, apart_is_at_once}
use Rattle.meaning_laws.proofs.arrays.Orders.{writes_in_any_order}
use Rattle.meaning_laws.proofs.arrays.stores_in_turn.Goals as goal

pub returns-clause-in_turn : goal.returns-clause-in_turn
returns-clause-in_turn c = in_turn_is_at_once

pub returns-clause-apart : goal.returns-clause-apart
returns-clause-apart c = apart_is_at_once

pub returns-clause-order : goal.returns-clause-order
returns-clause-order c = writes_in_any_order
