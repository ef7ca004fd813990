-- The names so far are those that the statements so far give values to.
use Rattle.std.proofs.Common.{◌≡◌, map, take}
use Rattle.nest.specs.Bodies as plain
use Rattle.nest.specs.statement_loops.Standings.{standing_of}
use Rattle.symbols_anew.proofs.found.names_assigned.Given as goal

abbrev pub invariant-loop-standing : goal.invariant-loop-standing
invariant-loop-standing l =
    l.names ≡ map (λ (s : plain.Standing). s.statement.left.name) (map standing_of (take l.standing-index l.standing-items))
