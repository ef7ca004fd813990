use Rattle.std.proofs.Common.{arith, ◌≡◌, ap, not, subst, sym}
use Rattle.std.specs.Prelude.{FitsSigned, IsTrue, unsigned_abs}
use Rattle.std.proofs.lemmas.Bool.{both_ways, false_from_ne_true, not-true}
use Rattle.std.proofs.lemmas.Int.{to_z-of_z}
use Prim.Native.Nat.{◌∣◌}
use mir.Syntax.{w128}
use Rattle.dependence_tests.proofs.gcd_banerjee.Gcds.{divides_constant, same_multiples}
use Rattle.dependence_tests.proofs.gcd_banerjee.gcd_test.gcd_refutes_with.Goals as goal

-- the divisor that is tested divides
divides_it : (c : goal.After-divides) → IsTrue c.divides.result → c.gcd_of.result ∣ unsigned_abs c.args.constant
divides_it c t =
    let f : FitsSigned w128 c.args.constant = c.ranges.constant in
    let e : c.unsigned_abs.result ≡ unsigned_abs c.args.constant = simp to_z-of_z at c.unsigned_abs.ensures.value in
    let d : c.from.result ≡ c.gcd_of.result = omega arith in
    subst (λ m. m ∣ unsigned_abs c.args.constant) d (subst (λ n. c.from.result ∣ n) e (c.divides.ensures.0 t))

-- it doesn't
not_divides_it : (c : goal.After-divides) → IsTrue (not c.divides.result) → c.gcd_of.result ∣ unsigned_abs c.args.constant → ⊥
not_divides_it c t h =
    let f : FitsSigned w128 c.args.constant = c.ranges.constant in
    let e : c.unsigned_abs.result ≡ unsigned_abs c.args.constant = simp to_z-of_z at c.unsigned_abs.ensures.value in
    let d : c.from.result ≡ c.gcd_of.result = omega arith in
    both_ways c.divides.result (not-true c.divides.result t)
    (c.divides.ensures.1 (subst (λ n. c.from.result ∣ n) (sym e) (subst (λ m. m ∣ unsigned_abs c.args.constant) (sym d) h)))

pub returns-clause-exact : goal.returns-clause-exact
returns-clause-exact c = (
  λ t. (c.gcd_of.result, (c.gcd_of.ensures, not_divides_it c t)),
  λ r. ap not (false_from_ne_true c.divides.result (λ e.
      r.1.1 (same_multiples c.args.p.now c.gcd_of.result r.0 (unsigned_abs c.args.constant) c.gcd_of.ensures r.1.0 (divides_it c e)))),
)

pub returns-clause-sound : goal.returns-clause-sound
returns-clause-sound c = λ t v x y e. not_divides_it c t (divides_constant c.args.p.now c.gcd_of.result c.args.constant v x y c.gcd_of.ensures.divides e)
