use Rattle.f90_laws.proofs.unrefused.Unrefused.{read_well}
use Rattle.f90_laws.proofs.unrefused.printed_program_is_read_well.Goals as goal

pub returns : goal.returns
returns c = read_well
