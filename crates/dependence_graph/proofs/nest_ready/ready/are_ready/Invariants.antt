-- All so far are ready.
use Rattle.std.proofs.Common.{take}
use Rattle.std.specs.Prelude.{All}
use Rattle.dependence_graph.specs.nest_graph.Ready.{IsReadyStatement}
use Rattle.nest.specs.statement_loops.Standings.{standing_of}
use Rattle.nest.specs.declared.statement_loops.standings.Standing.{Standing}
use Rattle.dependence_graph.proofs.nest_ready.ready.are_ready.Given as goal

abbrev pub invariant-loop-standing : goal.invariant-loop-standing
invariant-loop-standing l = All (λ (s : Standing). IsReadyStatement (standing_of s)) (take l.standing-index l.all)
