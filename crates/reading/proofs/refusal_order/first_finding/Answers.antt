use Rattle.std.proofs.Common.{Contains}
use Rattle.reading.proofs.refusal_order.Answered.{one_answer}
use Rattle.reading.proofs.refusal_order.Least.{none_or_first}
use Rattle.reading.proofs.refusal_order.first_finding.Goals as goal

pub returns-clause-some : goal.returns-clause-some
returns-clause-some c = none_or_first

pub returns-clause-one : goal.returns-clause-one
returns-clause-one c = λ found. one_answer (Contains found)
