use Rattle.std.proofs.Common.{◌-◌, List, length, map, take, drop, Some}
use Rattle.tree.specs.View.{subscript_of}
use Rattle.tree.specs.declared.exprs.Ref.{out-Ref}
use Rattle.array_form.specs.declared.holds.loops.CountedLoop.{CountedLoop}
use Rattle.array_form.proofs.holds.TripLaws.{rest_is}
use Rattle.array_form.proofs.AnswerLaws.{assignment_is, over_loops}
use Rattle.array_form.proofs.statements.formed_assignment.Goals as goal

pub subscript_forms-requires-clause-over : goal.subscript_forms-requires-clause-over
subscript_forms-requires-clause-over c =
    let given = c.as_slice.result.now in
    let part : List CountedLoop = take (length c.as_slice.result.now - c.args.from) (drop c.args.from c.as_slice.result.now) in
    over_loops c.args.a.now c.args.from part c.in_ok-over.over c.as_slice-2.result.now (map subscript_of (out-Ref c.args.stmt.now.left).subs) c.requires.loops
    (rest_is c.as_slice.result.now c.args.a.now.loops c.args.from c.as_slice.ensures) c.in_ok-over.ensures c.as_slice-2.ensures

pub form-requires-clause-over : goal.form-requires-clause-over
form-requires-clause-over c =
    let part : List CountedLoop = take (length c.as_slice.result.now - c.args.from) (drop c.args.from c.as_slice.result.now) in
    over_loops c.args.a.now c.args.from part c.in_ok-over.over c.as_slice-3.result.now (map subscript_of (out-Ref c.args.stmt.now.left).subs) c.requires.loops
    (rest_is c.as_slice.result.now c.args.a.now.loops c.args.from c.as_slice.ensures) c.in_ok-over.ensures c.as_slice-3.ensures

pub returns : goal.returns
returns c =
    let part : List CountedLoop = take (length c.as_slice.result.now - c.args.from) (drop c.args.from c.as_slice.result.now) in
    assignment_is c.args.a.now c.args.from c.args.stmt.now.line (Some c.args.mark) part c.in_ok-over.over c.as_slice-2.result.now c.as_slice-3.result.now c.args.stmt.now.left c.args.stmt.now.right c.in_ok-right.right
    c.in_ok-subscript_forms.field-0 (rest_is c.as_slice.result.now c.args.a.now.loops c.args.from c.as_slice.ensures) c.in_ok-over.ensures c.as_slice-2.ensures c.as_slice-3.ensures
    c.in_ok-subscript_forms.ensures c.in_ok-right.ensures
