use Rattle.f90_names.proofs.kinds.KnownLaws.{output_knows_names}
use Rattle.f90_names.proofs.kinds.laws.output_has_its_names.Goals as goal

pub returns : goal.returns
returns c = output_knows_names
