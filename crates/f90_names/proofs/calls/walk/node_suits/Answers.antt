use Rattle.f90_trees.specs.Hiding.{function_in}
use Rattle.f90_names.proofs.calls.CallLaws.{turns_told}
use Rattle.f90_names.proofs.calls.walk.node_suits.Goals as goal

pub returns-in-Turns : goal.returns-in-Turns
returns-in-Turns c part =
    turns_told (function_in c.args.functions.now) c.args.direction c.bounds_suit.result c.args.node.now
    c.in-Turns.field-0 c.in-Turns.bounds part c.in-Turns.is
    c.bounds_suit.ensures
