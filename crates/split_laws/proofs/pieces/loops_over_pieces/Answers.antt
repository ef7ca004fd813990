use Rattle.split_laws.proofs.LoopsOverPieces.{pieces_run_as_loop}
use Rattle.split_laws.proofs.pieces.loops_over_pieces.Goals as goal

pub returns : goal.returns
returns c = pieces_run_as_loop
