use Rattle.std.proofs.Common.{◌≡◌, Some, subst, rules}
use Rattle.f90_statement.specs.Views.{IsActionOf}
use Rattle.f90_statement.specs.declared.nodes.Action.{Action}
use Rattle.f90_statement.specs.declared.nodes.Action.TheVariants.{Read, Print}
use Rattle.f90_trees.specs.Hiding.{function_in}
use Rattle.f90_names.proofs.calls.CallLaws.{assigned, read, print}
use Rattle.f90_names.proofs.calls.walk.action_suits.Goals as goal

pub returns-in-Assign : goal.returns-in-Assign
returns-in-Assign c f a =
    assigned (function_in c.args.functions.now) c.assignment_suits.result c.in-Assign.left c.in-Assign.right f
    c.assignment_suits.ensures
    (subst (λ (x : Action). IsActionOf x f) c.in-Assign.is a)

pub returns-in-Read-Some : goal.returns-in-Read-Some
returns-in-Read-Some c f a =
    let e : c.args.action.now ≡ Read (Some c.in-Read-Some.list) = first_of (cc, search rules) in
    read (function_in c.args.functions.now) c.list_suits.result c.in-Read-Some.list f c.list_suits.ensures
    (subst (λ (x : Action). IsActionOf x f) e a)

pub returns-in-Print-Some : goal.returns-in-Print-Some
returns-in-Print-Some c f a =
    let e : c.args.action.now ≡ Print (Some c.in-Print-Some.list) = first_of (cc, search rules) in
    print (function_in c.args.functions.now) c.list_suits-in-Print-Some.result c.in-Print-Some.list f
    c.list_suits-in-Print-Some.ensures
    (subst (λ (x : Action). IsActionOf x f) e a)
