-- The statements, and the arms, that are left fit exactly where all do.
use Rattle.std.proofs.Common.{◌≤◌, ◌↔◌, map, drop}
use Rattle.meaning.specs.Blocks.{blocks_in, blocks_in_arms}
use Rattle.tree.specs.Plain.{block}
use Rattle.tree.specs.View.{arms, statement_of, tested_of}
use Rattle.translation.proofs.depth.+depth.Given as goal

abbrev pub invariant-stmts_fit-loop-stmt : goal.invariant-stmts_fit-loop-stmt
invariant-stmts_fit-loop-stmt l =
    (blocks_in (block (map statement_of (drop l.stmt-index l.stmt-items))) ≤ l.depth)
    ↔ (blocks_in (block (map statement_of l.stmt-items)) ≤ l.depth)

abbrev pub invariant-arms_fit-loop-arm : goal.invariant-arms_fit-loop-arm
invariant-arms_fit-loop-arm l =
    (blocks_in_arms (arms (map tested_of (drop l.arm-index l.arm-items))) ≤ l.depth)
    ↔ (blocks_in_arms (arms (map tested_of l.arm-items)) ≤ l.depth)
