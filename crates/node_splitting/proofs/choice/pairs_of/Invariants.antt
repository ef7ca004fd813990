use Rattle.std.proofs.Common.{◌≡◌, take}
use Rattle.node_splitting.specs.Choice.{pairs_of}
use Rattle.node_splitting.proofs.choice.pairs_of.Given as goal

abbrev pub invariant-loop-edge : goal.invariant-loop-edge
invariant-loop-edge l = l.pairs ≡ pairs_of (take l.edge-index l.edges)
