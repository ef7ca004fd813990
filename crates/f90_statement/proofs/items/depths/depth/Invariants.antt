use Rattle.std.proofs.Common.{◌≡◌, List, [], drop}
use Rattle.std.specs.Prelude.{reverse}
use Rattle.f90_statement.specs.items.Depths.{levels, with_parts}
use Rattle.f90_statement.specs.items.Flat as flats
use Rattle.f90_statement.specs.items.Views.{AreNodesOf}
use Rattle.f90_statement.proofs.items.depths.depth.Given as goal

abbrev pub invariant-parts : goal.invariant-parts
invariant-parts l =
    (all : List flats.Node) → AreNodesOf l.nodes all
    → (rest : List flats.Node) × AreNodesOf (drop l.node-index l.nodes) rest × (with_parts all (levels 0 []) ≡ with_parts rest (levels l.inner (reverse l.outer.items)))
