use Rattle.dependence_tests.proofs.gcd_banerjee.Gcds.{gcd_of_pairing}
use Rattle.dependence_tests.proofs.gcd_banerjee.gcd_test.gcd_of.Goals as goal

pub returns : goal.returns
returns c =
    gcd_of_pairing c.args.p.now c.gcd_with.result c.gcd_with-loops.result c.gcd_with_symbols.result c.gcd_with_symbols-2.result
    c.gcd_with.ensures c.gcd_with-loops.ensures c.gcd_with_symbols.ensures c.gcd_with_symbols-2.ensures
