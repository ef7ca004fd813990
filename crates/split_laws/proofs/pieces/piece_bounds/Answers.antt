use Rattle.split_laws.proofs.Bounds.{texts_have_numbers}
use Rattle.split_laws.proofs.pieces.piece_bounds.Goals as goal

pub returns : goal.returns
returns c = texts_have_numbers
