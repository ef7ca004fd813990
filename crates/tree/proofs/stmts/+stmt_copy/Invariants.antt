-- The copies so far are those of the items so far.
use Rattle.std.proofs.Common.{◌≡◌, map, take}
use Rattle.tree.specs.View.{statement_of, tested_of}
use Rattle.tree.proofs.stmts.+stmt_copy.Given as goal

abbrev pub invariant-Block::copy-loop-stmt : goal.invariant-Block::copy-loop-stmt
invariant-Block::copy-loop-stmt l = map statement_of l.stmts ≡ map statement_of (take l.stmt-index l.stmt-items)

abbrev pub invariant-copy_arms-loop-arm : goal.invariant-copy_arms-loop-arm
invariant-copy_arms-loop-arm l = map tested_of l.copies ≡ map tested_of (take l.arm-index l.arm-items)
