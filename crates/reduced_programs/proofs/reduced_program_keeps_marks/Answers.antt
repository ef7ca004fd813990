use Rattle.reduced_programs.proofs.Marks.{reduced_program_keeps_marks}
use Rattle.reduced_programs.proofs.reduced_program_keeps_marks.Goals as goal

pub returns : goal.returns
returns c = reduced_program_keeps_marks
