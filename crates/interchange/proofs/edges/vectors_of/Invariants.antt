-- The vectors so far are those of the edges so far.
use Rattle.std.proofs.Common.{◌≡◌, take}
use Rattle.interchange.specs.Arranged.{vectors_of}
use Rattle.interchange.proofs.edges.vectors_of.Given as goal

abbrev pub invariant-loop-edge : goal.invariant-loop-edge
invariant-loop-edge l = l.vectors ≡ vectors_of (take l.edge-index l.edges)
