use Rattle.f90_laws.proofs.read_back.PrintedIsRead.{printed_is_read}
use Rattle.f90_laws.proofs.read_back.printed_program_is_read.Goals as goal

pub returns : goal.returns
returns c = printed_is_read
