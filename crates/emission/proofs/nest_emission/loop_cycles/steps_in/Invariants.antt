-- The steps of the edges so far.
use Rattle.std.proofs.Common.{◌≡◌, take}
use Rattle.emission.specs.emission_pieces.Cycles.{steps_of}
use Rattle.emission.specs.nest_emission.Cycles.{is_member}
use Rattle.emission.proofs.nest_emission.loop_cycles.steps_in.Given as goal

abbrev pub invariant-loop-edge : goal.invariant-loop-edge
invariant-loop-edge l = l.steps.items ≡ steps_of (is_member l.class) (take l.edge-index l.edges) l.level
