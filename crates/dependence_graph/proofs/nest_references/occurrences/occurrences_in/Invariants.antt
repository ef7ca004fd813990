-- The references of the statements so far were added.
use Rattle.std.proofs.Common.{map, take}
use Rattle.dependence_graph.specs.nest_references.Occurrences.{AreOccurrencesIn}
use Rattle.nest.specs.statement_loops.Standings.{standing_of}
use Rattle.dependence_graph.proofs.nest_references.occurrences.occurrences_in.Given as goal

abbrev pub invariant-loop-at : goal.invariant-loop-at
invariant-loop-at l = AreOccurrencesIn l.symbols 0 (map standing_of (take l.at l.all)) l.list
