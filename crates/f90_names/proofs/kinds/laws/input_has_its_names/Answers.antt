use Rattle.f90_names.proofs.kinds.KnownLaws.{input_knows_names}
use Rattle.f90_names.proofs.kinds.laws.input_has_its_names.Goals as goal

pub returns : goal.returns
returns c = input_knows_names
