use Rattle.std.proofs.Common.{◌≡◌, ◌++◌, map, length}
use Rattle.tree.specs.View.{statement_of}
use Rattle.f77_tree.specs.Rests.{pieces_in, made_by}
use Rattle.f77_tree.proofs.rests.whole.Given as goal

abbrev pub invariant-pieces : goal.invariant-pieces
invariant-pieces l = made_by (pieces_in l.initial.pieces.items) ≡ map statement_of l.stmts.items ++ made_by (pieces_in l.pieces.items)

abbrev pub decreases-pieces : goal.decreases-pieces
decreases-pieces l = length l.pieces.items
