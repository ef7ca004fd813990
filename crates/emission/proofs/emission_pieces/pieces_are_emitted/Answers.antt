use Rattle.emission.proofs.EmissionPieces.Emitted.{pieces_are_emitted}
use Rattle.emission.proofs.emission_pieces.pieces_are_emitted.Goals as goal

pub returns : goal.returns
returns c = pieces_are_emitted
