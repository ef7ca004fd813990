-- The references of the statements so far are counted.
use Rattle.std.proofs.Common.{◌+◌, ◌<◌, ◌^◌, All, length, take}
use Rattle.dependence_graph.specs.nest_graph.References.{references_of}
use Rattle.nest.specs.statement_loops.Standings.{standing_of}
use Rattle.listing.proofs.programs.counts.check_references.Given as goal

abbrev pub invariant-loop-standing : goal.invariant-loop-standing
invariant-loop-standing l = All (λ s. length (references_of (standing_of s)) + 1 < 2 ^ 32) (take l.standing-index l.all)
