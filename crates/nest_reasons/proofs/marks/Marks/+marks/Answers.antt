use Rattle.std.proofs.Common.{arith}
use Rattle.tree.specs.View.{tested_of, statement_of}
use Rattle.nest_reasons.specs.Marks.{own_marks}
use Rattle.nest_reasons.specs.Arms.{marks_in_arm}
use Rattle.nest_reasons.proofs.Lists.{more}
use Rattle.nest_reasons.proofs.marks.Marks.+marks.Goals as goal

pub add_arms-loop-arm-preserved : goal.add_arms-loop-arm-preserved
add_arms-loop-arm-preserved t c =
    more marks_in_arm tested_of c.as_slice-arm-items.result.now c.loop-arm.arm-index c.arm-item.result c.args.self.now.list c.loop-arm.self.list c.add_arm.new.self.list
    (omega arith) c.arm-item.is c.loop-arm.invariant c.in_ok-add_arm.ensures

pub add_stmts-loop-stmt-preserved : goal.add_stmts-loop-stmt-preserved
add_stmts-loop-stmt-preserved t c =
    more (own_marks c.args.in_if) statement_of c.as_slice-stmt-items.result.now c.loop-stmt.stmt-index c.stmt-item.result c.args.self.now.list c.loop-stmt.self.list c.add_stmt.new.self.list
    (omega arith) c.stmt-item.is c.loop-stmt.invariant c.in_ok-add_stmt.ensures
