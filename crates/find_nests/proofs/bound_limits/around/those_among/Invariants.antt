use Rattle.std.proofs.Common.{◌≡◌, map, take}
use Rattle.std.specs.List.{filter}
use Rattle.find_nests.specs.bound_limits.Composed.{is_loop_among, outer_variables_of}
use Rattle.find_nests.specs.bound_limits.View.{outer_of}
use Rattle.find_nests.proofs.bound_limits.around.those_among.Given as goal

abbrev pub invariant-loop-outer : goal.invariant-loop-outer
invariant-loop-outer l = l.variables ≡ outer_variables_of (filter (is_loop_among l.names) (map outer_of (take l.outer-index l.around)))
