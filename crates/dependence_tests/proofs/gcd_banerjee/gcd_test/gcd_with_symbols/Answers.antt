use Rattle.std.proofs.Common.{rules, arith, ap, ◌≡◌, ◌∙◌, get_or, sym, subst}
use Rattle.std.specs.Int.{IsGcd}
use Rattle.std.specs.Prelude.{pos, unsigned_abs, FitsSigned, ℤ}
use Rattle.std.proofs.lemmas.Int.{to_z-of_z}
use mir.Syntax.{w64}
use Rattle.dependence_tests.proofs.gcd_banerjee.Gcds.{gcd_none, gcd_step_by}
use Rattle.dependence_tests.specs.gcd_banerjee.Divisors.{difference_of}
use Rattle.dependence_tests.proofs.gcd_banerjee.gcd_test.gcd_with_symbols.Goals as goal

pub loop-symbol-init : goal.loop-symbol-init
loop-symbol-init c = gcd_none c.args.start

pub loop-symbol-preserved : goal.loop-symbol-preserved
loop-symbol-preserved c =
    let f : FitsSigned w64 c.symbol_difference.result = search rules in
    let e : c.unsigned_abs.result ≡ unsigned_abs (difference_of c.args.p.now (get_or c.args.symbols.now c.loop-symbol.symbol-index (0, pos 0))) = c.unsigned_abs.ensures.value ∙ ap unsigned_abs (to_z-of_z w64 _ f ∙ c.symbol_difference.ensures.value) in
    gcd_step_by (difference_of c.args.p.now) c.args.start c.args.symbols.now c.loop-symbol.symbol-index c.loop-symbol.all c.gcd-all.result (omega arith) c.loop-symbol.invariant (subst (λ n. IsGcd c.loop-symbol.all n c.gcd-all.result) e c.gcd-all.ensures)
