use Rattle.reduced_programs.proofs.Whole.{reduced_program_keeps_meaning}
use Rattle.reduced_programs.proofs.reduced_program_keeps_meaning.Goals as goal

pub returns : goal.returns
returns c = reduced_program_keeps_meaning
