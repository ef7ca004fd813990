use Rattle.std.proofs.Common.{take, map}
use Rattle.dependence_tests.specs.gcd_banerjee.Divisors.{IsGcdFrom, difference_of}
use Rattle.dependence_tests.proofs.gcd_banerjee.gcd_test.gcd_with_symbols.Given as goal

abbrev pub invariant-loop-symbol : goal.invariant-loop-symbol
invariant-loop-symbol l = IsGcdFrom l.start (map (difference_of l.p) (take l.symbol-index l.symbols)) l.all
