use Rattle.emission.proofs.EmissionPieces.Ordered.{emission_keeps_order}
use Rattle.emission.proofs.emission_pieces.emission_order.Goals as goal

pub returns : goal.returns
returns c = emission_keeps_order
