use Rattle.translation.proofs.ProgramMarks.Law.{translation_is_marked}
use Rattle.translation.proofs.program_marks.translation_is_marked.Goals as goal

pub returns : goal.returns
returns c = translation_is_marked
