use Rattle.components.specs.Walking.{GoesOn, left}
use Rattle.components.proofs.walk.Walk.run.Given as goal

abbrev pub invariant-steps : goal.invariant-steps
invariant-steps l = GoesOn l.rows l.fn.self l.self

abbrev pub decreases-steps : goal.decreases-steps
decreases-steps l = left l.rows l.self
