use Rattle.std.proofs.Common.{◌≡◌, drop, map}
use Rattle.tree.specs.Plain.{Apply, expressions}
use Rattle.tree.specs.View.{expression_of}
use Rattle.linear_forms.specs.Linear.{constant_value}
use Rattle.linear_forms.proofs.ConstantLaws.{left_to_call}
use Rattle.linear_forms.proofs.constants.+constant.Given as goal

abbrev pub invariant-constant_call-loop-expr : goal.invariant-constant_call-loop-expr
invariant-constant_call-loop-expr l =
    constant_value (Apply l.function (expressions (map expression_of l.exprs))) ≡ left_to_call l.function l.given (drop l.expr-index l.expr-items)
