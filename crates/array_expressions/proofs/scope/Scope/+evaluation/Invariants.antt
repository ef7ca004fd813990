use Rattle.std.proofs.Common.{◌≡◌, ◌+◌, [], drop, map, pos, ◌+ℤ◌, ◌-ℤ◌}
use Rattle.tree.specs.Plain.{expressions, subscripts}
use Rattle.tree.specs.View.{expression_of, subscript_of, loop_of, constructor_loops}
use Rattle.tree.specs.declared.exprs.Ref.{out-Ref}
use Rattle.meaning.specs.Dialect.{fortran90}
use Rattle.meaning.specs.Sections.{not_negative}
use Rattle.meaning.specs.Value.{values_of, subscript_value, subscript_values, selector, selectors, arguments_of}
use Rattle.array_values.proofs.Steps.{left_of}
use Rattle.array_values.specs.Arrays.{elements_in}
use Rattle.array_values.specs.Selections.{selector_in}
use Rattle.array_expressions.specs.Scopes.{store_at, constructed}
use Rattle.array_expressions.proofs.ArrayLaws.{args_left}
use Rattle.array_expressions.proofs.EvaluationLaws.{HaveValues, HaveNumbers}
use Rattle.array_expressions.proofs.Weights.{weight_in, weight_in_each, weight_in_sub, weight_in_subs, weight_in_turns}
use Rattle.array_expressions.proofs.scope.Scope.+evaluation.Given as goal

-- ---- measures

abbrev pub decreases-value : goal.decreases-value
decreases-value l = weight_in l.expr.now

abbrev pub decreases-number : goal.decreases-number
decreases-number l = weight_in l.expr.now + 1

abbrev pub decreases-array : goal.decreases-array
decreases-array l = weight_in l.expr.now

abbrev pub decreases-in_whole : goal.decreases-in_whole
decreases-in_whole l = weight_in l.expr.now + 1

abbrev pub decreases-known : goal.decreases-known
decreases-known l = weight_in l.expr.now + 2

abbrev pub decreases-values : goal.decreases-values
decreases-values l = weight_in_each l.exprs.now + 1

abbrev pub decreases-push_values : goal.decreases-push_values
decreases-push_values l = weight_in_each l.exprs.now

abbrev pub decreases-arguments : goal.decreases-arguments
decreases-arguments l = weight_in_each l.exprs.now

abbrev pub decreases-numbers : goal.decreases-numbers
decreases-numbers l = weight_in_subs l.subs.now

abbrev pub decreases-subscript : goal.decreases-subscript
decreases-subscript l = weight_in_sub l.sub.now

abbrev pub decreases-selected : goal.decreases-selected
decreases-selected l = weight_in_subs (out-Ref l.item.now).subs + 1

abbrev pub decreases-selectors : goal.decreases-selectors
decreases-selectors l = weight_in_subs l.subs.now

abbrev pub decreases-selector : goal.decreases-selector
decreases-selector l = weight_in_sub l.sub.now

abbrev pub decreases-push_turns : goal.decreases-push_turns
decreases-push_turns l = weight_in_each l.values.now + weight_in_turns l.turns.now + 1

abbrev pub decreases-push_numbers : goal.decreases-push_numbers
decreases-push_numbers l = weight_in_each l.values.now + weight_in_turns l.inner.now + 2

-- ---- what loops keep

abbrev pub invariant-push_values-loop-expr : goal.invariant-push_values-loop-expr
invariant-push_values-loop-expr l =
    HaveValues l.width (store_at l.self l.locals) l.initial.all l.all (values_of (fortran90 l.width) (expressions (map expression_of l.exprs)) (store_at l.self l.locals)) (drop l.expr-index l.expr-items)

abbrev pub invariant-numbers-loop-sub : goal.invariant-numbers-loop-sub
invariant-numbers-loop-sub l =
    subscript_values (fortran90 l.width) (subscripts (map subscript_of l.subs)) (store_at l.self l.locals)
    ≡ left_of (λ p. subscript_value (fortran90 l.width) (subscript_of p) (store_at l.self l.locals)) l.numbers (drop l.sub-index l.sub-items)

abbrev pub invariant-selectors-loop-sub : goal.invariant-selectors-loop-sub
invariant-selectors-loop-sub l =
    selectors (fortran90 l.width) (subscripts (map subscript_of l.subs)) (store_at l.self l.locals)
    ≡ left_of (λ p. selector (fortran90 l.width) (subscript_of p) (store_at l.self l.locals)) (map selector_in l.selectors) (drop l.sub-index l.sub-items)

abbrev pub invariant-arguments-loop-expr : goal.invariant-arguments-loop-expr
invariant-arguments-loop-expr l =
    arguments_of (fortran90 l.width) (expressions (map expression_of l.exprs)) [] (store_at l.self l.locals)
    ≡ args_left l.width (store_at l.self l.locals) (map elements_in l.parts) (drop l.expr-index l.expr-items)

abbrev pub invariant-push_numbers-loop-number : goal.invariant-push_numbers-loop-number
invariant-push_numbers-loop-number l =
    HaveNumbers l.width (constructed l.width (expressions (map expression_of l.values)) (constructor_loops (map loop_of l.inner))) (store_at l.self l.locals) l.initial.all l.all
    l.fn.numbers.name l.fn.numbers.first l.number l.fn.numbers.last

abbrev pub decreases-push_numbers-loop-number : goal.decreases-push_numbers-loop-number
decreases-push_numbers-loop-number l = not_negative (l.fn.numbers.last -ℤ l.number +ℤ pos 1)
