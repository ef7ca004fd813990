use Rattle.f77_laws.proofs.Programs.{read_is_program}
use Rattle.f77_laws.proofs.laws.read_text_is_program.Goals as goal

pub returns : goal.returns
returns c = read_is_program
