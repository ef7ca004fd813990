use Rattle.emission.proofs.EmissionMarks.Pieces.{emission_is_marked}
use Rattle.emission.proofs.emission_marks.emission_is_marked.Goals as goal

pub returns : goal.returns
returns c = emission_is_marked
