use Rattle.std.proofs.Common.{◌≡◌, take}
use Rattle.node_splitting.specs.Choice.{overwritten_in}
use Rattle.node_splitting.proofs.choice.overwritten_in.Given as goal

abbrev pub invariant-loop-edge : goal.invariant-loop-edge
invariant-loop-edge l = l.places ≡ overwritten_in l.classes (take l.edge-index l.edges)
