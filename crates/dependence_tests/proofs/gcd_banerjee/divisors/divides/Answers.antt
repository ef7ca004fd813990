use Rattle.std.proofs.Common.{◌≡◌, arith, refl, subst, sym, ap, ◌∙◌}
use Rattle.std.proofs.Math.Nat.{eq-zero_of_zero-dvd}
use Prim.Native.Nat.{◌∣◌}
use Rattle.std.proofs.lemmas.Bool.{eqb-true, eq-eqb}
use Rattle.std.proofs.lemmas.Nat.Gcd.{dvd-zero, dvd_of_mod-eq-zero, mod-eq-zero_of_dvd}
use Rattle.dependence_tests.proofs.gcd_banerjee.divisors.divides.Goals as goal

pub returns-then-divisor-eq0 : goal.returns-then-divisor-eq0
returns-then-divisor-eq0 c = (
  λ t. subst (λ n. c.args.divisor ∣ n) (sym (eqb-true c.args.number 0 t)) (dvd-zero c.args.divisor),
  λ d. eq-eqb c.args.number 0 (eq-zero_of_zero-dvd (subst (λ m. m ∣ c.args.number) c.if-divisor-eq0.true d)),
)

pub returns : goal.returns
returns c = (λ t. dvd_of_mod-eq-zero c.args.divisor (eqb-true _ 0 t), λ d. eq-eqb _ 0 (mod-eq-zero_of_dvd c.args.divisor d))
