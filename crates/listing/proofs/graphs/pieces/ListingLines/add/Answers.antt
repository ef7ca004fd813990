use Rattle.std.proofs.Common.{arith}
use Rattle.std.proofs.lemmas.Grind.{common_steps}
use Rattle.listing.proofs.graphs.PieceLines.{short-lines, long-lines}
use Rattle.listing.proofs.graphs.pieces.ListingLines.add.Goals as goal

pub pieces-preserved : goal.pieces-preserved
pieces-preserved c = let e = long-lines c.pieces.first.now c.pieces.rest.now (omega arith) in grind (arith, common_steps)

pub returns : goal.returns
returns c = let e = short-lines c.pieces.first.now c.pieces.rest.now (omega arith) in grind (arith, common_steps)
