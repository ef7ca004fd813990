use Rattle.std.proofs.Common.{arith}
use Rattle.tree.specs.View.{tested_of, statement_of}
use Rattle.meaning.specs.Reads.{names_in_statement}
use Rattle.rewrite.specs.NamesAlong.{names_in_arm}
use Rattle.rewrite.proofs.UseLaws.{more}
use Rattle.rewrite.proofs.statement_names.+statements.Goals as goal

pub add_arms-loop-arm-preserved : goal.add_arms-loop-arm-preserved
add_arms-loop-arm-preserved t c =
    more names_in_arm tested_of c.as_slice-arm-items.result.now c.loop-arm.arm-index c.arm-item.result
    c.args.uses.now.names c.loop-arm.uses.names c.add_arm.new.uses.names
    (omega arith) c.arm-item.is c.loop-arm.invariant c.in_ok-add_arm.ensures

pub add_statements-loop-stmt-preserved : goal.add_statements-loop-stmt-preserved
add_statements-loop-stmt-preserved t c =
    more names_in_statement statement_of c.as_slice-stmt-items.result.now c.loop-stmt.stmt-index c.stmt-item.result
    c.args.uses.now.names c.loop-stmt.uses.names c.add_statement.new.uses.names
    (omega arith) c.stmt-item.is c.loop-stmt.invariant c.in_ok-add_statement.ensures
