use Rattle.std.proofs.Common.{◌≡◌, drop}
use Rattle.linear_forms.specs.Linear.{all_small}
use Rattle.find_nests.proofs.bound_limits.numbers.all_small.Given as goal

abbrev pub invariant-loop-number : goal.invariant-loop-number
invariant-loop-number l = all_small l.list ≡ all_small (drop l.number-index l.list)
