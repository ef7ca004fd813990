use Rattle.std.proofs.Common.{◌≡◌, false, List, [], drop}
use Rattle.std.specs.Prelude.{reverse}
use Rattle.meaning.specs.Names.{is_among}
use Rattle.f90_statement.specs.items.Flat as flats
use Rattle.f90_statement.specs.items.Views.{AreNodesOf, direction_of}
use Rattle.f90_read.specs.surroundings.Lists.{scalar_in, walked, with_nodes}
use Rattle.f90_read.proofs.surroundings.listing.Surroundings.misuses_list.Given as goal

abbrev pub invariant-loop-i : goal.invariant-loop-i
invariant-loop-i l =
    (parts : List flats.Node) → AreNodesOf l.nodes parts
    → with_nodes (scalar_in l.self.names.now) (is_among (reverse l.self.variables.now)) (direction_of l.direction) (drop l.i parts) (walked false [])
    ≡ walked l.wrong (reverse l.lists.items)
