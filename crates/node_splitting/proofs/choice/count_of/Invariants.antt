use Rattle.std.proofs.Common.{take}
use Rattle.components.specs.Reachability.{AreBelow}
use Rattle.node_splitting.specs.Choice.{pairs_of}
use Rattle.node_splitting.proofs.choice.count_of.Given as goal

abbrev pub invariant-loop-edge : goal.invariant-loop-edge
invariant-loop-edge l = AreBelow l.bound (pairs_of (take l.edge-index l.edges))
