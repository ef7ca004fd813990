use Rattle.f90_laws.proofs.readings.Programs.{read_program}
use Rattle.f90_laws.proofs.readings.read_text_is_program.Goals as goal

pub returns : goal.returns
returns c = read_program
