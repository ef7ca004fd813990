use Rattle.std.proofs.Common.{◌-◌, List, length, map, take, drop, Some}
use Rattle.tree.specs.View.{block_of, expression_of, statement_of, subscript_of}
use Rattle.tree.specs.declared.exprs.Ref.{out-Ref}
use Rattle.array_form.specs.declared.holds.loops.CountedLoop.{CountedLoop}
use Rattle.array_form.proofs.AnswerLaws.{if_ok, over_loops, where_ok}
use Rattle.array_form.proofs.holds.TripLaws.{rest_is}
use Rattle.array_form.proofs.statements.under_guard.Goals as goal

pub masked_assignment-requires-clause-over : goal.masked_assignment-requires-clause-over
masked_assignment-requires-clause-over c =
    let part : List CountedLoop = take (length c.as_slice.result.now - c.args.from) (drop c.args.from c.as_slice.result.now) in
    over_loops c.args.a.now c.args.from part c.in_ok-over.over c.as_slice-then-stand_in.result.now (map subscript_of (out-Ref c.args.stmt.now.left).subs) c.requires.loops
    (rest_is c.as_slice.result.now c.args.a.now.loops c.args.from c.as_slice.ensures) c.in_ok-over.ensures c.as_slice-then-stand_in.ensures

pub returns-then-stand_in : goal.returns-then-stand_in
returns-then-stand_in c =
    let part : List CountedLoop = take (length c.as_slice.result.now - c.args.from) (drop c.args.from c.as_slice.result.now) in
    where_ok c.args.a.now c.args.from c.args.stmt.now.line (Some c.args.mark) part c.in_ok-over.over c.as_slice-2.result.now c.as_slice-then-stand_in.result.now (expression_of c.args.guard.now) c.args.stmt.now.left
    (expression_of c.args.stmt.now.right) c.stand_in.result (statement_of c.in_ok-masked.masked) c.block_of_one.result (rest_is c.as_slice.result.now c.args.a.now.loops c.args.from c.as_slice.ensures) c.in_ok-over.ensures
    c.as_slice-2.ensures c.as_slice-then-stand_in.ensures c.stand_in.ensures c.if-stand_in.true c.in_ok-masked.ensures c.block_of_one.ensures

pub returns : goal.returns
returns c =
    let part : List CountedLoop = take (length c.as_slice.result.now - c.args.from) (drop c.args.from c.as_slice.result.now) in
    if_ok c.args.a.now c.args.from c.args.stmt.now.line (Some c.args.mark) part c.in_ok-over.over c.as_slice-2.result.now c.args.guard.now c.in_ok-copy.field-0 c.args.stmt.now.left (expression_of c.args.stmt.now.right) c.stand_in.result
    (block_of c.in_ok-body.body) (statement_of c.in_ok-formed_assignment.field-0) c.under_condition.result (rest_is c.as_slice.result.now c.args.a.now.loops c.args.from c.as_slice.ensures) c.in_ok-over.ensures c.as_slice-2.ensures
    c.stand_in.ensures c.if-stand_in.false c.in_ok-copy.ensures c.in_ok-body.ensures c.in_ok-formed_assignment.ensures c.under_condition.ensures
