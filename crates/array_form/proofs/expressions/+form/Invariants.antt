-- What was formed so far.
use Rattle.std.proofs.Common.{◌≡◌, map, take}
use Rattle.tree.specs.View.{expression_of, subscript_of}
use Rattle.array_form.specs.forms.Forms.{form}
use Rattle.array_form.specs.holds.View.{surroundings_view}
use Rattle.array_form.specs.Loops.{viewed}
use Rattle.array_form.specs.Subscripts.{form_of_subscript}
use Rattle.array_form.proofs.expressions.+form.Given as goal

abbrev pub invariant-forms-loop-expr : goal.invariant-forms-loop-expr
invariant-forms-loop-expr l = map expression_of l.all ≡ map (form (surroundings_view l.a) (viewed l.a l.over)) (map expression_of (take l.expr-index l.expr-items))

abbrev pub invariant-subscript_forms-loop-sub : goal.invariant-subscript_forms-loop-sub
invariant-subscript_forms-loop-sub l = map subscript_of l.all ≡ map (form_of_subscript (surroundings_view l.a) (viewed l.a l.over)) (map subscript_of (take l.sub-index l.sub-items))
