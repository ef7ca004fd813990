use Rattle.std.proofs.Common.{◌≡◌, ◌≤◌, take, length}
use Rattle.std.specs.List.{filter}
use Rattle.nest_reasons.specs.Sizes.{is_branching}
use Rattle.nest_reasons.proofs.sizes.branchings.Given as goal

abbrev pub invariant-loop-i : goal.invariant-loop-i
invariant-loop-i l = (l.count ≡ length (filter is_branching (take l.i l.pieces))) × (l.count ≤ l.i)
