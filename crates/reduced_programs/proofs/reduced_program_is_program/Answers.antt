use Rattle.reduced_programs.proofs.Whole.{reduced_program_is_program}
use Rattle.reduced_programs.proofs.reduced_program_is_program.Goals as goal

pub returns : goal.returns
returns c = reduced_program_is_program
