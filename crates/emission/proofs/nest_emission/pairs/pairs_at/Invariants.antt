-- The pairs of the edges so far.
use Rattle.std.proofs.Common.{take}
use Rattle.emission.specs.emission_pieces.Levels.{ArePairsAt}
use Rattle.emission.proofs.nest_emission.pairs.pairs_at.Given as goal

abbrev pub invariant-loop-edge : goal.invariant-loop-edge
invariant-loop-edge l = ArePairsAt (take l.edge-index l.edges) l.level l.part l.pairs.items
