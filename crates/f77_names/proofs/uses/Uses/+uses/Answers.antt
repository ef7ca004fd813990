use Rattle.std.proofs.Common.{map, take, ◌+◌, ap, ◌∙◌, arith}
use Rattle.tree.specs.Plain.{subscripts, expressions}
use Rattle.tree.specs.View.{expression_of, subscript_of}
use Rattle.f77_grammar.specs.program.Uses as plain
use Rattle.f77_names.specs.UsesView.{listed}
use Rattle.f77_names.proofs.UseLaws.{uses-int, uses-truth, uses-list, uses-spread, uses-transpose, uses-reshape, uses-reduce, uses-part, arguments_more, subscripts_more, nothing_added, added}
use Rattle.f77_names.proofs.uses.Uses.+uses.Goals as goal

pub add_expr-returns-in-Int : goal.add_expr-returns-in-Int
add_expr-returns-in-Int t c =
    nothing_added (listed c.args.self.now) (plain.uses77_in (expression_of c.args.expr.now)) (ap (λ e. plain.uses77_in (expression_of e)) c.in-Int.is ∙ uses-int c.in-Int.field-0)

pub add_expr-returns-in-Truth : goal.add_expr-returns-in-Truth
add_expr-returns-in-Truth t c =
    nothing_added (listed c.args.self.now) (plain.uses77_in (expression_of c.args.expr.now)) (ap (λ e. plain.uses77_in (expression_of e)) c.in-Truth.is ∙ uses-truth c.in-Truth.field-0)

pub add_expr-returns-in-List : goal.add_expr-returns-in-List
add_expr-returns-in-List t c =
    nothing_added (listed c.args.self.now) (plain.uses77_in (expression_of c.args.expr.now)) (ap (λ e. plain.uses77_in (expression_of e)) c.in-List.is ∙ uses-list c.in-List.field-0 c.in-List.field-1)

pub add_expr-returns-in-Spread : goal.add_expr-returns-in-Spread
add_expr-returns-in-Spread t c =
    nothing_added (listed c.args.self.now) (plain.uses77_in (expression_of c.args.expr.now)) (ap (λ e. plain.uses77_in (expression_of e)) c.in-Spread.is ∙ uses-spread c.in-Spread.field-0 c.in-Spread.field-1 c.in-Spread.field-2)

pub add_expr-returns-in-Transpose : goal.add_expr-returns-in-Transpose
add_expr-returns-in-Transpose t c =
    nothing_added (listed c.args.self.now) (plain.uses77_in (expression_of c.args.expr.now)) (ap (λ e. plain.uses77_in (expression_of e)) c.in-Transpose.is ∙ uses-transpose c.in-Transpose.field-0)

pub add_expr-returns-in-Reshape : goal.add_expr-returns-in-Reshape
add_expr-returns-in-Reshape t c =
    nothing_added (listed c.args.self.now) (plain.uses77_in (expression_of c.args.expr.now)) (ap (λ e. plain.uses77_in (expression_of e)) c.in-Reshape.is ∙ uses-reshape c.in-Reshape.field-0 c.in-Reshape.field-1)

pub add_expr-returns-in-Reduce : goal.add_expr-returns-in-Reduce
add_expr-returns-in-Reduce t c =
    nothing_added (listed c.args.self.now) (plain.uses77_in (expression_of c.args.expr.now)) (ap (λ e. plain.uses77_in (expression_of e)) c.in-Reduce.is ∙ uses-reduce c.in-Reduce.field-0 c.in-Reduce.field-1)

pub add_sub-returns-in-Part : goal.add_sub-returns-in-Part
add_sub-returns-in-Part t c =
    nothing_added (listed c.args.self.now) (plain.uses77_in_subscript (subscript_of c.args.sub.now))
    (ap (λ s. plain.uses77_in_subscript (subscript_of s)) c.in-Part.is ∙ uses-part c.in-Part.field-0 c.in-Part.field-1 c.in-Part.field-2)

pub add_exprs-loop-expr-preserved : goal.add_exprs-loop-expr-preserved
add_exprs-loop-expr-preserved t c =
    added (listed c.args.self.now) (listed c.loop-expr.self) (listed c.add_expr.new.self)
    (plain.uses_in_arguments (expressions (map expression_of (take c.loop-expr.expr-index c.as_slice-expr-items.result.now))))
    (plain.uses77_in (expression_of c.expr-item.result))
    (plain.uses_in_arguments (expressions (map expression_of (take (c.loop-expr.expr-index + 1) c.as_slice-expr-items.result.now))))
    c.loop-expr.invariant c.in_ok-add_expr.ensures
    (arguments_more c.as_slice-expr-items.result.now c.loop-expr.expr-index c.expr-item.result (omega arith) c.expr-item.is)

pub add_subs-loop-sub-preserved : goal.add_subs-loop-sub-preserved
add_subs-loop-sub-preserved t c =
    added (listed c.args.self.now) (listed c.loop-sub.self) (listed c.add_sub.new.self)
    (plain.uses77_in_subscripts (subscripts (map subscript_of (take c.loop-sub.sub-index c.as_slice-sub-items.result.now))))
    (plain.uses77_in_subscript (subscript_of c.sub-item.result))
    (plain.uses77_in_subscripts (subscripts (map subscript_of (take (c.loop-sub.sub-index + 1) c.as_slice-sub-items.result.now))))
    c.loop-sub.invariant c.in_ok-add_sub.ensures
    (subscripts_more c.as_slice-sub-items.result.now c.loop-sub.sub-index c.sub-item.result (omega arith) c.sub-item.is)
