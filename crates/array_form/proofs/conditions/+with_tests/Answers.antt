use Rattle.std.proofs.Common.{◌≡◌, ◌∷◌, length, ap, arith, rules}
use Rattle.std.specs.Option.{option_map}
use Rattle.tree.specs.View.{expression_of}
use Rattle.array_form.proofs.LoopLaws.{head_loop, tail_loops}
use Rattle.array_form.proofs.ConditionLaws.{passed_ok}
use Rattle.array_form.proofs.conditions.+with_tests.Goals as goal

pub returns-then-is_positive_constant : goal.returns-then-is_positive_constant
returns-then-is_positive_constant t c =
    let a = c.args.a.now in
    let first = c.in-Some.first.now in
    let rest = c.in-Some.rest.now in
    let whole : c.args.loops.now ≡ first ∷ rest = search rules in
    let is = head_loop a c.args.loops.now rest first whole c.requires.loops in
    passed_ok a (option_map expression_of c.args.so_far) c.args.loops.now rest first c.is_positive_constant.result c.with_tests.result whole
    (c.is_positive_constant.ensures (length a.loops) c.requires.places.loops is.trip) c.if-is_positive_constant.true c.with_tests.ensures

pub test_of-requires-clause-turns : goal.test_of-requires-clause-turns
test_of-requires-clause-turns t c =
    let whole : c.args.loops.now ≡ c.in-Some.first.now ∷ c.in-Some.rest.now = search rules in
    head_loop c.args.a.now c.args.loops.now c.in-Some.rest.now c.in-Some.first.now whole c.requires.loops

pub with_tests-requires-2 : goal.with_tests-requires-2
with_tests-requires-2 t c =
    let whole : c.args.loops.now ≡ c.in-Some.first.now ∷ c.in-Some.rest.now = search rules in
    let size : length c.args.loops.now ≡ length (c.in-Some.first.now ∷ c.in-Some.rest.now) = ap length whole in
    (first_of (omega arith, search rules), (c.requires.places, tail_loops c.args.a.now c.args.loops.now c.in-Some.rest.now c.in-Some.first.now whole c.requires.loops))
