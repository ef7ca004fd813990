use Rattle.emission.proofs.EmissionForms.WrittenPieces.{pieces_are_written}
use Rattle.emission.proofs.emission_forms.pieces_are_written.Goals as goal

pub returns : goal.returns
returns c = pieces_are_written
