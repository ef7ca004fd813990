use Rattle.std.proofs.Common.{◌≡◌, ◌≤◌, take, length}
use Rattle.std.specs.List.{filter}
use Rattle.nest_reasons.specs.Sizes.{is_assignment}
use Rattle.nest_reasons.proofs.sizes.assignments.Given as goal

abbrev pub invariant-loop-i : goal.invariant-loop-i
invariant-loop-i l = (l.count ≡ length (filter is_assignment (take l.i l.pieces))) × (l.count ≤ l.i)
