use Rattle.std.proofs.Common.{arith, ◌≡◌, ◌<◌, ◌≤◌, length, get_or, sym, ◌∙◌, rules}
use Rattle.f90_expressions.specs.Reading.{IsMadeOf}
use Rattle.f90_statement.specs.Contents.{test_of}
use Rattle.f90_statement.proofs.AnyLaws.{begun, passed, met, ended}
use Rattle.f90_statement.proofs.contents.Test.holds_of_any.Goals as goal

pub loop-expression-init : goal.loop-expression-init
loop-expression-init c all a = begun IsMadeOf (test_of c.args.self) c.args.expressions.now all a

pub loop-expression-preserved : goal.loop-expression-preserved
loop-expression-preserved c all a =
    let l : c.loop-expression.expression-index < length c.args.expressions.now = first_of (omega arith, search rules) in
    let g : get_or c.args.expressions.now c.loop-expression.expression-index c.expression-item.result ≡ c.expression-item.result = first_of (cc, search rules) in
    passed IsMadeOf (test_of c.args.self) c.args.expressions.now c.loop-expression.expression-index c.expression-item.result all l g (λ p m. sym c.if-holds.false ∙ c.holds.ensures p m) (c.loop-expression.invariant all a)

pub returns-then-holds : goal.returns-then-holds
returns-then-holds c all a =
    let l : c.loop-expression.expression-index < length c.args.expressions.now = first_of (omega arith, search rules) in
    let g : get_or c.args.expressions.now c.loop-expression.expression-index c.expression-item.result ≡ c.expression-item.result = first_of (cc, search rules) in
    met IsMadeOf (test_of c.args.self) c.args.expressions.now c.loop-expression.expression-index c.expression-item.result all l g (λ p m. sym c.if-holds.true ∙ c.holds.ensures p m) (c.loop-expression.invariant all a)

pub returns : goal.returns
returns c all a =
    let l : length c.args.expressions.now ≤ c.loop-expression.expression-index = first_of (omega arith, search rules) in
    ended IsMadeOf (test_of c.args.self) c.args.expressions.now c.loop-expression.expression-index all l (c.loop-expression.invariant all a)
