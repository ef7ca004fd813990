use Rattle.std.proofs.Common.{◌≡◌, false, sym, subst, rules, Some, None, SFits}
use Rattle.std.specs.Int.{w128}
use Rattle.std.proofs.lemmas.Int.{to_z-of_z}
use Rattle.tree.specs.declared.exprs.Expr.TheVariants as exprs
use Rattle.form_rules.specs.Written.{IsReady}
use Rattle.tree.specs.Plain.{Number}
use Rattle.tree.specs.declared.ops.Value.TheVariants.{Int}
use Rattle.linear_forms.specs.Linear.{limited, constant_or, as_constant}
use Rattle.linear_forms.specs.Affines.{IsFound}
use Rattle.form_rules.proofs.Writing.{number_ready}
use Rattle.form_rules.proofs.nodes.number.Goals as goal

pub returns : goal.returns
returns c =
    let part = c.constant_part-part.result in
    let number : part.constant ≡ Some (Int c.args.value) = search rules in
    let fits : SFits w128 c.args.value = search rules in
    c.settled.ensures (Number c.args.value)
    (subst (λ z. IsReady c.args.loops.now c.args.symbols.now (Number c.args.value) (exprs.Int z) false part) (sym (to_z-of_z w128 c.args.value fits))
    (number_ready c.args.loops.now c.args.symbols.now c.args.value part number
    (λ n. subst (λ v. IsFound n (limited n (constant_or (as_constant v) None)) part.form) (sym c.constant_part-part.ensures.constant) (c.constant_part-part.ensures.form n))))
