use Rattle.std.proofs.Common.{◌≡◌, ◌∙◌, ap, sym, ℤ, pos, Result, Ok, arith, rules}
use Rattle.std.specs.Prelude.{FitsSigned}
use Rattle.std.specs.Int.{w128, int_max}
use Rattle.std.specs.List.{fold}
use Rattle.std.proofs.lemmas.Grind.{common_steps}
use Rattle.std.proofs.lemmas.Int.{to_z-of_z}
use Rattle.tree.specs.OperationFaults.{number_in}
use Rattle.tree.specs.declared.ops.Value.{Value}
use Rattle.tree.specs.declared.ops.Value.TheVariants.{Int}
use Rattle.tree.specs.declared.ops.Fault.{Fault}
use Rattle.tree.proofs.CallValues.{call-Max}
use Rattle.tree.proofs.functions.greatest.Goals as goal

pub returns : goal.returns
returns c =
    let args = c.args.args.now in
    let first = c.number_of-best.result in
    let best = c.loop-value.best in
    let fits : FitsSigned w128 best = search rules in
    let start : FitsSigned w128 first = search rules in
    let value : best ≡ fold (λ b v. int_max b (number_in v)) first args = grind (arith, common_steps, to_z-of_z) in
    call-Max args (Int (pos 0)) first best c.requires.count c.requires.numbers c.number_of-best.ensures value fits ∙ ap (λ (z : ℤ). let answer : Result Value Fault = Ok (Int z) in answer) (sym c.loop-value.best-is)
