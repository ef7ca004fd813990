use Rattle.f90_laws.proofs.blocks.Misplaced.{misplaced_at_place}
use Rattle.f90_laws.proofs.blocks.misplaced_is_at_place.Goals as goal

pub returns : goal.returns
returns c = misplaced_at_place
