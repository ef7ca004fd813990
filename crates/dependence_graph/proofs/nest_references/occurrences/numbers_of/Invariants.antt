-- The numbers so far are those of the loops so far.
use Rattle.std.proofs.Common.{◌≡◌, map, take}
use Rattle.nest.specs.Plain.{Loop}
use Rattle.nest.specs.View.{loop_of}
use Rattle.dependence_graph.proofs.nest_references.occurrences.numbers_of.Given as goal

abbrev pub invariant-loop-turns : goal.invariant-loop-turns
invariant-loop-turns l = l.numbers ≡ map (λ (m : Loop). m.number) (map loop_of (take l.turns-index l.turns-items))
