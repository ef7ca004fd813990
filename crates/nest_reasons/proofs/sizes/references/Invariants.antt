use Rattle.std.proofs.Common.{◌≡◌, ◌≤◌, take, length}
use Rattle.std.specs.List.{filter}
use Rattle.nest_reasons.specs.Sizes.{is_counted_name}
use Rattle.nest_reasons.proofs.sizes.references.Given as goal

abbrev pub invariant-loop-i : goal.invariant-loop-i
invariant-loop-i l = (l.count ≡ length (filter (is_counted_name l.loops) (take l.i l.pieces))) × (l.count ≤ l.i)
