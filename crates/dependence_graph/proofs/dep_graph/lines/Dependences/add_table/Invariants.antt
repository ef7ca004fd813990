-- The lines of the rows so far were added.
use Rattle.std.proofs.Common.{take}
use Rattle.dependence_graph.specs.dep_graph.Joined.{AreJoined, table}
use Rattle.dependence_graph.proofs.dep_graph.lines.Dependences.add_table.Given as goal

abbrev pub invariant-loop-from : goal.invariant-loop-from
invariant-loop-from l = AreJoined (table (take l.from-index l.all) l.all) l.initial.self l.self
