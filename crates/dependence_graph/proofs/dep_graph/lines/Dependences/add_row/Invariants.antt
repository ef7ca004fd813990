-- The lines of the couples so far were added.
use Rattle.std.proofs.Common.{take}
use Rattle.dependence_graph.specs.dep_graph.Joined.{AreJoined, row}
use Rattle.dependence_graph.proofs.dep_graph.lines.Dependences.add_row.Given as goal

abbrev pub invariant-loop-to : goal.invariant-loop-to
invariant-loop-to l = AreJoined (row l.from (take l.to-index l.all)) l.initial.self l.self
