use Rattle.f77_laws.proofs.trees.Written as written
use Rattle.f77_laws.proofs.trees.laws.end_do_closes_nearest.Goals as goal

pub returns : goal.returns
returns c = written.nested_are_closed
