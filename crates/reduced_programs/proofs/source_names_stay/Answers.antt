use Rattle.reduced_programs.proofs.Names.{source_names_stay}
use Rattle.reduced_programs.proofs.source_names_stay.Goals as goal

pub returns : goal.returns
returns c = source_names_stay
