use Rattle.std.proofs.Common.{◌≡◌, ◌++◌, map, take}
use Rattle.std.specs.List.{flat_map}
use Rattle.tree.specs.View.{tested_of, statement_of}
use Rattle.meaning.specs.Reads.{names_in_statement}
use Rattle.rewrite.specs.NamesAlong.{names_in_arm}
use Rattle.rewrite.proofs.statement_names.+statements.Given as goal

abbrev pub invariant-add_arms-loop-arm : goal.invariant-add_arms-loop-arm
invariant-add_arms-loop-arm l =
    l.uses.names ≡ l.initial.uses.names ++ flat_map names_in_arm (map tested_of (take l.arm-index l.arm-items))

abbrev pub invariant-add_statements-loop-stmt : goal.invariant-add_statements-loop-stmt
invariant-add_statements-loop-stmt l =
    l.uses.names ≡ l.initial.uses.names ++ flat_map names_in_statement (map statement_of (take l.stmt-index l.stmt-items))
