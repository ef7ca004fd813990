use Rattle.f90_trees.specs.Hiding.{function_in}
use Rattle.f90_names.proofs.calls.CallLaws.{bounds_told, told}
use Rattle.f90_names.proofs.calls.walk.bounds_suit.Goals as goal

pub returns-in-Some : goal.returns-in-Some
returns-in-Some c =
    bounds_told (function_in c.args.functions.now) c.suits_calls-in-Some.result c.in-Some.step c.args.bounds.now
    c.in_ok-suits_calls.field-0
    c.in_ok-suits_calls-2.field-0 c.in-Some.is c.if-not-branch.false c.if-not-branch-2.false c.in_ok-suits_calls.ensures
    c.in_ok-suits_calls-2.ensures
    (λ p m. told c.suits_calls-in-Some.result c.args.functions.now p (c.suits_calls-in-Some.ensures p m))
