use Rattle.f90_names.proofs.kinds.KnownLaws.{tree_knows_names}
use Rattle.f90_names.proofs.kinds.laws.tree_has_its_names.Goals as goal

pub returns : goal.returns
returns c = tree_knows_names
