use Rattle.std.proofs.Common.{List, subst, sym, ◌∙◌}
use Rattle.f90_statement.specs.items.Flat.{flat_items}
use Rattle.f90_statement.specs.items.Views.{AreNodesOf}
use Rattle.f90_statement.specs.declared.items.nodes.Node.{Node}
use Rattle.f90_statement.specs.Contents.{test_of}
use Rattle.f90_statement.proofs.AnyLaws.{input_holds}
use Rattle.f90_statement.proofs.contents.Test.holds_of_input.Goals as goal

pub returns : goal.returns
returns c is m =
    c.holds_of_nodes.ensures (flat_items is) (subst (λ (ns : List Node). AreNodesOf ns (flat_items is)) (sym c.as_slice.ensures) m.nodes)
    ∙ input_holds (test_of c.args.self) is
