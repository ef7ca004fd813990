use Rattle.std.proofs.Common.{◌≡◌, ◌∙◌, ap, sym, subst, ℤ, pos, Result, Ok, rules}
use Rattle.std.specs.Prelude.{FitsSigned, int_rem}
use Rattle.std.specs.Int.{w128, cast_unsigned}
use Rattle.std.proofs.lemmas.Int.{to_z-of_z}
use Rattle.tree.specs.declared.ops.Value.{Value}
use Rattle.tree.specs.declared.ops.Value.TheVariants.{Int}
use Rattle.tree.specs.declared.ops.Fault.{Fault}
use Rattle.tree.proofs.CallValues.{remainder-other}
use Rattle.tree.proofs.functions.remainder.Goals as goal

pub returns : goal.returns
returns c =
    let r = c.wrapping_rem.result in
    let fits : FitsSigned w128 r = search rules in
    let value : r ≡ int_rem c.args.a c.args.b = search rules in
    let other : c.args.b ≡ pos 0 → ⊥ = λ e. c.if-b-eq0.false (ap (cast_unsigned w128) e) in
    ap (λ (z : ℤ). let answer : Result Value Fault = Ok (Int z) in answer) (to_z-of_z w128 r fits ∙ value) ∙ sym (remainder-other c.args.a c.args.b other (subst (FitsSigned w128) value fits))
