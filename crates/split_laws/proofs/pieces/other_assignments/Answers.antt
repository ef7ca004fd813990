use Rattle.split_laws.proofs.Bounds.{assignments_leave_alone}
use Rattle.split_laws.proofs.pieces.other_assignments.Goals as goal

pub returns : goal.returns
returns c = assignments_leave_alone
