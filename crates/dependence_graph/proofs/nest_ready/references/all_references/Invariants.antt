-- The references of the statements so far were added.
use Rattle.std.proofs.Common.{◌≡◌, map, take}
use Rattle.tree.specs.View.{reference_of}
use Rattle.dependence_graph.specs.nest_ready.Gathered.{all_references}
use Rattle.nest.specs.statement_loops.Standings.{standing_of}
use Rattle.dependence_graph.proofs.nest_ready.references.all_references.Given as goal

abbrev pub invariant-loop-standing : goal.invariant-loop-standing
invariant-loop-standing l = map reference_of l.list ≡ all_references (map standing_of (take l.standing-index l.all))
