use Rattle.std.proofs.Common.{List, subst, sym}
use Rattle.f90_statement.specs.items.Flat.{flat_items}
use Rattle.f90_statement.specs.items.Views.{AreNodesOf}
use Rattle.f90_statement.specs.declared.items.nodes.Node.{Node}
use Rattle.f90_trees.specs.Hiding.{function_in}
use Rattle.f90_names.proofs.calls.CallLaws.{list_told}
use Rattle.f90_names.proofs.calls.walk.list_suits.Goals as goal

pub returns : goal.returns
returns c is m =
    list_told (function_in c.args.functions.now) c.args.direction c.nodes_suit.result is
    (c.nodes_suit.ensures (flat_items is)
    (subst (λ (ns : List Node). AreNodesOf ns (flat_items is)) (sym c.as_slice.ensures) m.nodes))
