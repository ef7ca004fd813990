use Rattle.f90_names.proofs.kinds.KnownLaws.{trees_know_names}
use Rattle.f90_names.proofs.kinds.laws.trees_have_their_names.Goals as goal

pub returns : goal.returns
returns c = trees_know_names
