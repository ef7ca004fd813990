-- The loops so far are those of the places so far.
use Rattle.std.proofs.Common.{◌≡◌, map, take}
use Rattle.nest.specs.View.{loop_of}
use Rattle.interchange.specs.Arranged.{in_order}
use Rattle.interchange.proofs.chains.in_order.Given as goal

abbrev pub invariant-loop-place : goal.invariant-loop-place
invariant-loop-place l = map loop_of l.new ≡ in_order (map loop_of l.loops) (take l.place-index l.order)
