use Rattle.std.proofs.Common.{◌≡◌, [], Some, map, rules}
use Rattle.tree.specs.View.{expression_of}
use Rattle.f90_trees.specs.Building.{Values, values_above}
use Rattle.f90_trees.specs.Views.{stack}
use Rattle.f90_trees.proofs.BuildLaws.{constructed_is}
use Rattle.f90_trees.proofs.building.constructed.Goals as goal

pub returns : goal.returns
returns c =
    let taken : Values = record { values = map expression_of c.in-Some.values; under = stack c.take_values.new.entries.items } in
    let h : values_above (stack c.args.entries.now.items) [] ≡ Some taken = search rules in
    constructed_is _ _ _ _ _ h c.new.ensures c.in_ok-put.ensures
