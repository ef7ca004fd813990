use Rattle.std.proofs.Common.{◌≡◌, ◌∙◌, ap, sym, ℤ, negsuc, arith, rules}
use Rattle.std.proofs.lemmas.Int.{ints}
use Rattle.tree.specs.Operators.{on_numbers}
use Rattle.tree.specs.declared.ops.Op.TheVariants.{Pow}
use Rattle.tree.proofs.ops.inverse_power.Goals as goal

pub returns-in-minus1 : goal.returns-in-minus1
returns-in-minus1 c =
    let base : c.args.a ≡ negsuc 0 = omega (arith, ints) in
    let value : c.power_of_minus_one.result ≡ on_numbers Pow (negsuc 0) c.args.b = search rules in
    value ∙ ap (λ (a : ℤ). on_numbers Pow a c.args.b) (sym base)
