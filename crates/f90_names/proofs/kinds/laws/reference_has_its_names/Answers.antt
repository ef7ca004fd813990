use Rattle.f90_names.proofs.kinds.KnownLaws.{reference_knows_names}
use Rattle.f90_names.proofs.kinds.laws.reference_has_its_names.Goals as goal

pub returns : goal.returns
returns c = reference_knows_names
