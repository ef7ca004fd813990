use Rattle.std.proofs.Common.{arith}
use Rattle.tree.specs.View.{tested_of, statement_of}
use Rattle.rewrite.specs.Names.{uses_in_statement}
use Rattle.rewrite.specs.NamesAlong.{uses_in_arm}
use Rattle.rewrite.proofs.UseLaws.{more}
use Rattle.rewrite.proofs.uses.Uses.+statements.Goals as goal

pub add_arms-loop-arm-preserved : goal.add_arms-loop-arm-preserved
add_arms-loop-arm-preserved t c =
    more uses_in_arm tested_of c.as_slice-arm-items.result.now c.loop-arm.arm-index c.arm-item.result c.args.self.now.list c.loop-arm.self.list c.add_arm.new.self.list
    (omega arith) c.arm-item.is c.loop-arm.invariant c.in_ok-add_arm.ensures

pub add_statements-loop-stmt-preserved : goal.add_statements-loop-stmt-preserved
add_statements-loop-stmt-preserved t c =
    more uses_in_statement statement_of c.as_slice-stmt-items.result.now c.loop-stmt.stmt-index c.stmt-item.result c.args.self.now.list c.loop-stmt.self.list c.add_statement.new.self.list
    (omega arith) c.stmt-item.is c.loop-stmt.invariant c.in_ok-add_statement.ensures
