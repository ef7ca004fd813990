use Rattle.std.proofs.Common.{◌≡◌, ◌++◌, map}
use Rattle.tree.specs.View.{statement_of}
use Rattle.f77_laws.specs.trees.Steps as steps
use Rattle.f77_tree.specs.Rests.{pieces_in, made_by}
use Rattle.f77_tree.proofs.rests.take_loop.Given as goal

abbrev pub invariant-pieces : goal.invariant-pieces
invariant-pieces l = record {
  body : made_by (steps.up_to l.label (pieces_in l.initial.pieces.items)) ≡ map statement_of l.stmts.items ++ made_by (steps.up_to l.label (pieces_in l.pieces.items));
  rest : steps.beyond l.label (pieces_in l.initial.pieces.items) ≡ steps.beyond l.label (pieces_in l.pieces.items);
}

abbrev pub decreases-pieces : goal.decreases-pieces
decreases-pieces l = goal.left-pieces l
