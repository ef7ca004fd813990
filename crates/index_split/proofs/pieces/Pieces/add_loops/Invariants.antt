-- The loops over the pieces so far were added.
use Rattle.std.proofs.Common.{◌≡◌, ◌++◌, map, take}
use Rattle.tree.specs.View.{block_of, statement_of}
use Rattle.index_split.specs.Pieces.{loop_over}
use Rattle.index_split.proofs.pieces.Pieces.add_loops.Given as goal

abbrev pub invariant-loop-bounds : goal.invariant-loop-bounds
invariant-loop-bounds l =
    map statement_of l.made ≡ map statement_of l.initial.made
    ++ map (loop_over l.self l.line l.var (block_of l.body)) (take l.bounds-index l.bounds-items)
