use Rattle.std.proofs.Common.{◌≡◌, ◌++◌, map, take}
use Rattle.std.specs.List.{flat_map}
use Rattle.tree.specs.View.{statement_of, tested_of}
use Rattle.reductions.specs.Reading.{read_in_arm, read_in_statement}
use Rattle.reductions.proofs.reading.+statements.Given as goal

abbrev pub invariant-add_arms-loop-arm : goal.invariant-add_arms-loop-arm
invariant-add_arms-loop-arm l = l.names ≡ l.initial.names ++ flat_map read_in_arm (map tested_of (take l.arm-index l.arm-items))

abbrev pub invariant-add_statements-loop-stmt : goal.invariant-add_statements-loop-stmt
invariant-add_statements-loop-stmt l = l.names ≡ l.initial.names ++ flat_map read_in_statement (map statement_of (take l.stmt-index l.stmt-items))
