use Rattle.std.proofs.Common.{take}
use Rattle.dependence_tests.specs.gcd_banerjee.Divisors.{IsGcdFrom}
use Rattle.dependence_tests.proofs.gcd_banerjee.divisors.gcd_with.Given as goal

abbrev pub invariant-loop-number : goal.invariant-loop-number
invariant-loop-number l = IsGcdFrom l.start (take l.number-index l.numbers) l.all
