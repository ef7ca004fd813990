-- The number so far, and what is left, say what the whole says.
use Rattle.std.proofs.Common.{◌≡◌, map, drop}
use Rattle.tree.specs.View.{statement_of, tested_of}
use Rattle.find_nests.specs.nest_parts.Lists.{after_each, after_list}
use Rattle.translation.proofs.loop_placing.counting.+counting.Given as goal

abbrev pub invariant-after_stmts-loop-stmt : goal.invariant-after_stmts-loop-stmt
invariant-after_stmts-loop-stmt l =
    after_list l.last (map statement_of (drop l.stmt-index l.stmt-items)) ≡ after_list l.number (map statement_of l.stmt-items)

abbrev pub invariant-after_arms-loop-arm : goal.invariant-after_arms-loop-arm
invariant-after_arms-loop-arm l =
    after_each l.last (map tested_of (drop l.arm-index l.arm-items)) ≡ after_each l.number (map tested_of l.arm-items)
