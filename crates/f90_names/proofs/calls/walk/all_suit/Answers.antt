use Rattle.std.proofs.Common.{arith, ◌≡◌, ◌<◌, ◌≤◌, length, get_or, rules}
use Rattle.f90_grammar.specs.Phrases.{SuitsCalls}
use Rattle.f90_expressions.specs.Reading.{IsMadeOf}
use Rattle.f90_trees.specs.Hiding.{function_in}
use Rattle.f90_names.proofs.calls.CallLaws.{begun, passed, met, ended}
use Rattle.f90_names.proofs.calls.walk.all_suit.Goals as goal

pub loop-expression-init : goal.loop-expression-init
loop-expression-init c all a =
    begun IsMadeOf (SuitsCalls (function_in c.args.functions.now)) c.args.expressions.now all a

pub loop-expression-preserved : goal.loop-expression-preserved
loop-expression-preserved c all a =
    let l : c.loop-expression.expression-index < length c.args.expressions.now = first_of (omega arith, search rules) in
    let g : get_or c.args.expressions.now c.loop-expression.expression-index
    c.expression-item.result ≡ c.expression-item.result = first_of (cc, search rules) in
    passed IsMadeOf (SuitsCalls (function_in c.args.functions.now)) c.args.expressions.now
    c.loop-expression.expression-index c.expression-item.result
    c.in_ok-suits_calls.field-0 all l g c.if-not-branch.false c.in_ok-suits_calls.ensures
    (c.loop-expression.invariant all a)

pub returns-then-not-branch : goal.returns-then-not-branch
returns-then-not-branch c all a =
    let l : c.loop-expression.expression-index < length c.args.expressions.now = first_of (omega arith, search rules) in
    let g : get_or c.args.expressions.now c.loop-expression.expression-index
    c.expression-item.result ≡ c.expression-item.result = first_of (cc, search rules) in
    met IsMadeOf (SuitsCalls (function_in c.args.functions.now)) c.args.expressions.now
    c.loop-expression.expression-index c.expression-item.result
    c.in_ok-suits_calls.field-0 all l g c.if-not-branch.true c.in_ok-suits_calls.ensures
    (c.loop-expression.invariant all a)

pub returns : goal.returns
returns c all a =
    let l : length c.args.expressions.now ≤ c.loop-expression.expression-index = first_of (omega arith, search rules) in
    ended IsMadeOf (SuitsCalls (function_in c.args.functions.now)) c.args.expressions.now
    c.loop-expression.expression-index all l (c.loop-expression.invariant all a)
