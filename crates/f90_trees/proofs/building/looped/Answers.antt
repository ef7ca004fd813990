use Rattle.std.proofs.Common.{◌≡◌, ◌∷◌, rules}
use Rattle.f90_trees.specs.Building.{Mark}
use Rattle.f90_trees.specs.Views.{stack}
use Rattle.f90_trees.proofs.BuildLaws.{looped_is}
use Rattle.f90_trees.proofs.building.looped.Goals as goal

pub returns : goal.returns
returns c =
    let m : stack c.take_turn.new.entries.items ≡ Mark ∷ stack c.take_mark.new.entries.items = search rules in
    looped_is _ _ _ _ _ _ _ c.in-Some.ensures m c.in_ok-values.ensures c.in_ok-put.ensures
