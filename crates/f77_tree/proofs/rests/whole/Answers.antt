use Rattle.std.proofs.Common.{rules}
use Rattle.f77_tree.proofs.RestLaws.{block_out}
use Rattle.f77_tree.proofs.rests.whole.Goals as goal

pub returns : goal.returns
returns c = block_out c.args.pieces.items c.pieces.pieces.items c.pieces.stmts.items c.from_vec.result (search rules) c.from_vec.ensures c.pieces.invariant
