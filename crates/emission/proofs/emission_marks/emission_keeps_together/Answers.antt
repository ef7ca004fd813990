use Rattle.emission.proofs.EmissionMarks.Together.{emission_keeps_together}
use Rattle.emission.proofs.emission_marks.emission_keeps_together.Goals as goal

pub returns : goal.returns
returns c = emission_keeps_together
