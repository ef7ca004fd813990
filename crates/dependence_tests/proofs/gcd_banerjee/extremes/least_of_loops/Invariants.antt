use Rattle.std.proofs.Common.{◌≡◌, ◌<◌, ◌-◌, ◌*◌, ◌^◌}
use Rattle.std.specs.Prelude.{pos}
use Rattle.dependence_tests.specs.gcd_banerjee.Extremes.{IsLoopsValue}
use Rattle.dependence_tests.specs.gcd_banerjee.Least.{IsLeastOf, IsWithin}
use Rattle.dependence_tests.specs.declared.gcd_banerjee.least.Least.TheVariants.{At}
use Rattle.dependence_tests.proofs.gcd_banerjee.extremes.least_of_loops.Given as goal

abbrev pub invariant-loop-k : goal.invariant-loop-k
invariant-loop-k l = record {
  start : l.k ≡ 7 → l.least ≡ At (pos 0);
  least : l.k < 7 → IsLeastOf (IsLoopsValue l.p l.d l.opposite l.k) l.least;
  within : IsWithin ((7 - l.k) * 2 ^ 110) l.least;
}
