use Rattle.std.proofs.Common.{◌≡◌, ◌+◌, ◌≤◌, drop}
use Rattle.linear_forms.specs.Linear.{not_zero}
use Rattle.find_nests.proofs.bound_limits.numbers.not_zero.Given as goal

abbrev pub invariant-loop-number : goal.invariant-loop-number
invariant-loop-number l = (l.count + not_zero (drop l.number-index l.list) ≡ not_zero l.list) × (l.count ≤ l.number-index)
