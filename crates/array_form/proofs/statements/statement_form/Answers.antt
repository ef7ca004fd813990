use Rattle.std.proofs.Common.{◌-◌, List, length, take, drop, Some}
use Rattle.std.specs.Option.{option_map}
use Rattle.tree.specs.View.{block_of, expression_of, reference_of}
use Rattle.array_form.specs.declared.holds.loops.CountedLoop.{CountedLoop}
use Rattle.array_form.proofs.holds.TripLaws.{rest_is}
use Rattle.array_form.proofs.StatementLaws.{statement_ok}
use Rattle.array_form.proofs.statements.statement_form.Goals as goal

pub returns : goal.returns
returns c =
    let part : List CountedLoop = take (length c.as_slice.result.now - c.args.from) (drop c.args.from c.as_slice.result.now) in
    statement_ok c.args.a.now c.args.from c.args.stmt.now.line (Some c.args.mark) (option_map expression_of c.args.stmt.now.guard) (reference_of c.args.stmt.now.left) (expression_of c.args.stmt.now.right) c.under_condition.result
    (block_of c.in_ok-body.body) c.in_ok-condition.condition part (rest_is c.as_slice.result.now c.args.a.now.loops c.args.from c.as_slice.ensures)
    c.under_condition.ensures c.in_ok-condition.ensures c.in_ok-body.ensures
