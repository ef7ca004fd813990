use Rattle.std.proofs.Common.{arith}
use Rattle.tree.specs.View.{statement_of, tested_of}
use Rattle.rewrite.proofs.UseLaws.{more}
use Rattle.reductions.specs.Reading.{read_in_arm, read_in_statement}
use Rattle.reductions.proofs.reading.+statements.Goals as goal

pub add_arms-loop-arm-preserved : goal.add_arms-loop-arm-preserved
add_arms-loop-arm-preserved t c =
    more read_in_arm tested_of c.as_slice-arm-items.result.now c.loop-arm.arm-index c.arm-item.result c.args.names.now c.loop-arm.names c.add_arm.new.names
    (omega arith) c.arm-item.is c.loop-arm.invariant c.in_ok-add_arm.ensures

pub add_statements-loop-stmt-preserved : goal.add_statements-loop-stmt-preserved
add_statements-loop-stmt-preserved t c =
    more read_in_statement statement_of c.as_slice-stmt-items.result.now c.loop-stmt.stmt-index c.stmt-item.result c.args.names.now c.loop-stmt.names c.add_statement.new.names
    (omega arith) c.stmt-item.is c.loop-stmt.invariant c.in_ok-add_statement.ensures
