use Rattle.std.proofs.Common.{◌≡◌, List, []}
use Rattle.f90_statement.specs.items.Flat as flats
use Rattle.f90_statement.specs.items.Views.{IsNodeOf}
use Rattle.f90_statement.specs.Views.{AreOf}
use Rattle.f90_trees.specs.Hiding.{function_in}
use Rattle.f90_blocks.specs.statement_trees.Lists.{levels, levels_seen, with_parts}
use Rattle.f90_blocks.proofs.StatementTrees.LoopLaws.{IsUpTo}
use Rattle.f90_blocks.proofs.statement_trees.items.made.Given as goal

abbrev pub invariant-parts : goal.invariant-parts
invariant-parts l = (all : List flats.Node) → AreOf IsNodeOf l.nodes all
    → IsUpTo IsNodeOf (λ (done : List flats.Node). levels_seen l.inner l.outer.items
    ≡ with_parts (function_in l.functions) done (levels [] [])) l.nodes l.node-index all
