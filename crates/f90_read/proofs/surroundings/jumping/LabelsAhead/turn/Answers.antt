use Rattle.f90_read.specs.surroundings.Jumps.{left}
use Rattle.f90_read.proofs.surroundings.jumping.LabelsAhead.turn.Goals as goal

pub returns : goal.returns
returns c at l = c.enter.ensures (left at) (c.leave.ensures at l)
