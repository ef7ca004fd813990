use Rattle.std.proofs.Common.{rules, arith, ap, ◌≡◌, ◌∙◌, get_or, subst}
use Rattle.std.specs.Int.{IsGcd}
use Rattle.std.specs.Prelude.{pos, unsigned_abs, FitsSigned}
use Rattle.std.proofs.lemmas.Int.{to_z-of_z}
use mir.Syntax.{w64}
use Rattle.dependence_tests.proofs.gcd_banerjee.Gcds.{gcd_none, gcd_step}
use Rattle.dependence_tests.proofs.gcd_banerjee.divisors.gcd_with.Goals as goal

pub loop-number-preserved : goal.loop-number-preserved
loop-number-preserved c =
    let f : FitsSigned w64 (get_or c.args.numbers.now c.loop-number.number-index (pos 0)) = search rules in
    let e = c.unsigned_abs.ensures.value ∙ ap unsigned_abs (to_z-of_z w64 _ f) in
    gcd_step c.args.start c.args.numbers.now c.loop-number.number-index c.loop-number.all c.gcd-all.result (omega arith) c.loop-number.invariant (subst (λ n. IsGcd c.loop-number.all n c.gcd-all.result) e c.gcd-all.ensures)
