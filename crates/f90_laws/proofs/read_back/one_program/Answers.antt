use Rattle.f90_laws.proofs.read_back.OneProgram.{once_read}
use Rattle.f90_laws.proofs.read_back.one_program.Goals as goal

pub returns : goal.returns
returns c = once_read
