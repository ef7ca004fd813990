-- What was taken so far is the number of all statements without those that are left.
use Rattle.std.proofs.Common.{◌≡◌, ◌+◌, map, drop}
use Rattle.meaning.specs.Blocks.{statement_count_in, statement_count_in_arms}
use Rattle.tree.specs.Plain.{block}
use Rattle.tree.specs.View.{arms, statement_of, tested_of}
use Rattle.index_split.proofs.number.+number.Given as goal

abbrev pub invariant-without_stmts-loop-stmt : goal.invariant-without_stmts-loop-stmt
invariant-without_stmts-loop-stmt l =
    statement_count_in (block (map statement_of l.stmt-items)) + l.rest
    ≡ l.number + statement_count_in (block (map statement_of (drop l.stmt-index l.stmt-items)))

abbrev pub invariant-without_arms-loop-arm : goal.invariant-without_arms-loop-arm
invariant-without_arms-loop-arm l =
    statement_count_in_arms (arms (map tested_of l.arm-items)) + l.rest
    ≡ l.number + statement_count_in_arms (arms (map tested_of (drop l.arm-index l.arm-items)))
