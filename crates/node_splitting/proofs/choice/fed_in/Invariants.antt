use Rattle.std.proofs.Common.{◌≡◌, take}
use Rattle.node_splitting.specs.Choice.{fed_in}
use Rattle.node_splitting.proofs.choice.fed_in.Given as goal

abbrev pub invariant-loop-edge : goal.invariant-loop-edge
invariant-loop-edge l = l.places ≡ fed_in l.classes (take l.edge-index l.edges)
